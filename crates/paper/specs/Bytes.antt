-- The kinds of bytes. Document 01, "The configuration file":
--     "Every one of the 256 byte values has one kind: module letter, event letter, each mark, line end, or none."
--     kind_of b              the kind of the byte b
--     is_module, is_event     it is a module letter (a to z), an event letter (A to Z)
--     space, line_end, ..    the bytes that the paper names
-- Not here: which bytes may follow each other (`Grammar`). Assumes nothing.
use Rattle.std.specs.Prelude.{ℕ, Bool, cond, ◌&&◌, eqb, leb}

-- "Lines end in byte 10"; "one space"
abbrev pub line_end : ℕ
line_end = 10

abbrev pub space : ℕ
space = 32

-- the marks: * . / 1 : [ ] { | }
abbrev pub star_mark : ℕ
star_mark = 42

abbrev pub dot_mark : ℕ
dot_mark = 46

abbrev pub slash_mark : ℕ
slash_mark = 47

abbrev pub one_mark : ℕ
one_mark = 49

abbrev pub colon_mark : ℕ
colon_mark = 58

abbrev pub open_mark : ℕ
open_mark = 91

abbrev pub close_mark : ℕ
close_mark = 93

abbrev pub brace_mark : ℕ
brace_mark = 123

abbrev pub bar_mark : ℕ
bar_mark = 124

abbrev pub unbrace_mark : ℕ
unbrace_mark = 125

-- "a module a to z", "an event A to Z"
abbrev pub is_module : ℕ → Bool
is_module b = leb 97 b && leb b 122

abbrev pub is_event : ℕ → Bool
is_event b = leb 65 b && leb b 90

pub data Kind : Type 0 where
  module_letter event_letter : Kind
  star_kind dot_kind slash_kind one_kind colon_kind open_kind close_kind brace_kind bar_kind unbrace_kind : Kind
  end_kind no_kind : Kind

unfoldable pub kind_of : ℕ → Kind
kind_of b =
    cond (is_module b) module_letter
    (cond (is_event b) event_letter
    (cond (eqb b star_mark) star_kind
    (cond (eqb b dot_mark) dot_kind
    (cond (eqb b slash_mark) slash_kind
    (cond (eqb b one_mark) one_kind
    (cond (eqb b colon_mark) colon_kind
    (cond (eqb b open_mark) open_kind
    (cond (eqb b close_mark) close_kind
    (cond (eqb b brace_mark) brace_kind
    (cond (eqb b bar_mark) bar_kind
    (cond (eqb b unbrace_mark) unbrace_kind
    (cond (eqb b line_end) end_kind no_kind))))))))))))
