-- The numbers of the kinds of bytes, as the table of 256 entries has them. Document 01, "The configuration file":
--     "Every one of the 256 byte values has one kind: module letter, event letter, each mark, line end, or none."
--     kind_number k          the number of the kind k: 0 none, 1 a module letter, 2 an event letter, then the marks and the line end
-- Not here: which kind a byte has (`kind_of` of `paper`). Assumes nothing.
use Rattle.std.specs.Prelude.{ℕ}
use Rattle.paper.specs.Bytes.{
  Kind,
  module_letter,
  event_letter,
  star_kind,
  dot_kind,
  slash_kind,
  one_kind,
  colon_kind,
  open_kind,
  close_kind,
  brace_kind,
  bar_kind,
  unbrace_kind,
  end_kind,
  no_kind,
}

abbrev pub kind_number : Kind → ℕ
kind_number module_letter = 1
kind_number event_letter = 2
kind_number star_kind = 3
kind_number dot_kind = 4
kind_number slash_kind = 5
kind_number one_kind = 6
kind_number colon_kind = 7
kind_number open_kind = 8
kind_number close_kind = 9
kind_number brace_kind = 10
kind_number bar_kind = 11
kind_number unbrace_kind = 12
kind_number end_kind = 13
kind_number no_kind = 0
