-- The lines of a file as spans, and what they stand for. Document 01, "Numbers a caller may get back":
--     "Order: 1, 2, then line by line 3 to 6, then 7 to 18 in turn, each over the whole file."
--     no_span, no_lines       no line was read
--     part bs from to       the bytes of bs from one place up to another
--     value_at, listed_at     the value of the line at a span, and the letters that it lists
--     value_in, listed_within     the same, or nothing where the span is not there
--     two_in_order               the letters of two lines in the order of the file
--     read_of bs ls          what the lines ls of the bytes bs gave: their values, and the listed letters in the order of the file
--     program_in             No. 7
--     lines_read bs          number and place by No. 2 to 7, or what was read: the paper's `reading` up to the program's text
--     meaning bs r          the answer that the code's answer r stands for
--     Lies n s, Lie n ls    a line that was read lies before the place n; one that was not is all zeros
--     LieIn bs r            the lines of an answer lie in the bytes bs
--     Answers bs r          r is the answer for the bytes bs, and its lines lie in them
-- Not here: the program's text (`Parse` of `paper`). Assumes nothing.
use Rattle.std.specs.Prelude.{ℕ, ◌-◌, ◌<◌, ◌≡◌, Bool, true, false, cond, List, [], ◌++◌, ltb, length, take, drop}
use Rattle.std.proofs.Math.Option.{Option, none, some}
use Rattle.paper.specs.File.{Answer, refused, accepted, unless, and_then, where_if, Value, Listed, listed_from, Read, nothing_read, lines, read_lines}
use Rattle.paper.specs.Refusals.{most_bytes}
use Rattle.text.specs.declared.Span.{Span}
use Rattle.text.specs.declared.Lines.{Lines}
use Rattle.text.specs.declared.Reading.{Reading}
use Rattle.text.specs.declared.Reading.TheVariants.{Refused, Read as Taken}

-- before the first line
abbrev pub no_span : Span
no_span = record { there = false; line = 0; at = 0; end = 0 }

abbrev pub no_lines : Lines
no_lines = record { standard = no_span; fugitive = no_span; program = no_span }

-- what stands from the place `from` up to the place `to`
abbrev pub part : List ℕ → ℕ → ℕ → List ℕ
part bs from to = take (to - from) (drop from bs)

abbrev pub value_at : List ℕ → Span → Value
value_at bs s = record { line_at = s.line; at = s.at; is = part bs s.at s.end }

abbrev pub value_in : List ℕ → Span → Option Value
value_in bs s = cond s.there (some (value_at bs s)) none

abbrev pub listed_at : List ℕ → Span → List Listed
listed_at bs s = listed_from s.at (part bs s.at s.end)

abbrev pub listed_within : List ℕ → Span → List Listed
listed_within bs s = cond s.there (listed_at bs s) []

-- the letters of two lines, the first line's first
abbrev pub two_in_order : {A : Type 0} → (is_front : Bool) → List A → List A → List A
two_in_order is_front xs ys = cond is_front (xs ++ ys) (ys ++ xs)

unfoldable pub read_of : List ℕ → Lines → Read
read_of bs ls = record {
  standard = value_in bs ls.standard;
  fugitive = value_in bs ls.fugitive;
  program = value_in bs ls.program;
  listed = two_in_order (ltb ls.standard.line ls.fugitive.line) (listed_within bs ls.standard) (listed_within bs ls.fugitive);
}

-- No. 7: "no program line", "file length"
abbrev pub program_in : ℕ → Read → Option Value → Answer Read
program_in long r none = refused 7 long
program_in long r (some v) = accepted r

-- No. 2: "file over 1,024 bytes", then line by line 3 to 6, then 7
unfoldable pub lines_read : List ℕ → Answer Read
lines_read bs =
    unless (where_if (ltb most_bytes (length bs)) 0) 2
    (and_then (read_lines nothing_read (lines 0 bs)) (λ r. program_in (length bs) r r.program))

-- "A refusal gives number and place"
abbrev pub meaning : List ℕ → Reading → Answer Read
meaning bs (Refused number place) = refused number place
meaning bs (Taken ls) = accepted (read_of bs ls)

-- the line begins before its value, the value has a byte, and its end stands before the place n
pub record Lies (n : ℕ) (s : Span) : Type 0 where
  pub here : s.there ≡ true → (s.line < s.at) × (s.at < s.end) × (s.end < n)
  pub away : s.there ≡ false → (s.line ≡ 0) × (s.at ≡ 0) × (s.end ≡ 0)

pub record Lie (n : ℕ) (ls : Lines) : Type 0 where
  pub standard : Lies n ls.standard
  pub fugitive : Lies n ls.fugitive
  pub program : Lies n ls.program

abbrev pub LieIn : List ℕ → Reading → Type 0
LieIn bs (Refused number place) = Unit {0}
LieIn bs (Taken ls) = Lie (length bs) ls

pub record Answers (bs : List ℕ) (r : Reading) : Type 0 where
  pub means : meaning bs r ≡ lines_read bs
  pub lie : LieIn bs r
