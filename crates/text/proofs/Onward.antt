-- From the answer of `read_lines` on: the paper's `reading` is `lines_read` and then the program's text, so it goes on from the program's span
-- (`reading-read`) or stops at the same number and place (`reading-refused`). And the contract admits one answer (`answers_one`): a span is found
-- again from its value, since it lies in the file or is all zeros. Assumes nothing.
use Prim.Native.Nat.{ℕ}
use mathlib.Core.Path.{◌≡◌, refl, ap, sym, ◌∙◌}
use mathlib.Core.Bool.{Bool, true, false, cond}
use mathlib.Core.List.{List}
use mathlib.Core.Option.{Option, none, some}
use native.Mathlib.Omega.{arith}
use lib.Dec.{ltb}
use lib.ListN.{length}
use Rattle.paper.specs.File.{Answer, refused, accepted, unless, and_then, where_if, Value, Read, nothing_read, lines, read_lines, is_there}
use Rattle.paper.specs.Parse.{Parsed}
use Rattle.paper.specs.Refusals.{Edition, most_bytes, programmed, with_program, reading}
use Rattle.paper.proofs.Choices.{clash}
use Rattle.text.specs.declared.Span.{Span}
use Rattle.text.specs.declared.Lines.{Lines}
use Rattle.text.specs.declared.Reading.{Reading}
use Rattle.text.specs.declared.Reading.TheVariants.{Refused, Read as Taken}
use Rattle.text.specs.Spans.{part, value_at, value_in, read_of, program_in, lines_read, Lies, Lie, Answers}
use Rattle.text.proofs.Parts.{length_part}
use Rattle.text.proofs.Entering.{value_there, there-is}

module _ (f : List ℕ → Parsed) (e : Edition) (n : ℕ) where
  with-program : (r : Read) (o : Option Value) → r.program ≡ o → with_program f e n r o ≡ and_then (program_in n r o) (λ s. with_program f e n s s.program)
  unfolding with_program
  with-program r none q = refl
  with-program r (some v) q = ap (with_program f e n r) (sym q)

  in-turn : (o : Option ℕ) (a : Answer Read) → unless o 2 (and_then a (λ r. with_program f e n r r.program)) ≡ and_then (unless o 2 (and_then a (λ r. program_in n r r.program))) (λ r. with_program f e n r r.program)
  in-turn (some p) a = refl
  in-turn none (refused m p) = refl
  in-turn none (accepted r) = with-program r r.program refl

-- what is read is read with its program line
program-read : (n : ℕ) (o : Option ℕ) (a : Answer Read) (r : Read) → unless o 2 (and_then a (λ s. program_in n s s.program)) ≡ accepted r → is_there r.program ≡ true
program-read n (some p) a r h = clash (cc)
program-read n none (refused m p) r h = clash (cc)
program-read n none (accepted s) r h = by-program s.program refl h
  where
    by-program : (o : Option Value) → s.program ≡ o → program_in n s o ≡ accepted r → is_there r.program ≡ true
    by-program none q k = clash (cc)
    by-program (some v) q k =
        let w : s ≡ r = cc in
        ap (λ (t : Read). is_there t.program) (sym w) ∙ ap is_there q

pub lines_read-program : (bs : List ℕ) (r : Read) → lines_read bs ≡ accepted r → is_there r.program ≡ true
unfolding lines_read
lines_read-program bs r h =
    program-read (length bs) (where_if (ltb most_bytes (length bs)) 0) (read_lines nothing_read (lines 0 bs)) r h

module _ (bs : List ℕ) (f : List ℕ → Parsed) (e : Edition) where
  -- No. 2 to 7, and then the program's text
  pub reading-lines : reading f e bs ≡ and_then (lines_read bs) (λ r. with_program f e (length bs) r r.program)
  unfolding reading lines_read
  reading-lines =
      in-turn f e (length bs) (where_if (ltb most_bytes (length bs)) 0) (read_lines nothing_read (lines 0 bs))

  pub reading-refused : (number place : ℕ) → Answers bs (Refused number place) → reading f e bs ≡ refused number place
  reading-refused number place h =
      reading-lines ∙ ap (λ (a : Answer Read). and_then a (λ r. with_program f e (length bs) r r.program)) (sym h.means)

  module _ (ls : Lines) (h : Answers bs (Taken ls)) where
    pub program-there : ls.program.there ≡ true
    unfolding read_of
    program-there =
        sym (there-is ls.program.there (value_at bs ls.program)) ∙ lines_read-program bs (read_of bs ls) (sym h.means)

    -- on from the program's span
    pub reading-read : reading f e bs ≡ programmed e (read_of bs ls) (value_at bs ls.program) (f (part bs ls.program.at ls.program.end))
    unfolding read_of with_program
    reading-read =
        reading-lines
        ∙ (ap (λ (a : Answer Read). and_then a (λ r. with_program f e (length bs) r r.program)) (sym h.means)
        ∙ ap (with_program f e (length bs) (read_of bs ls)) (value_there bs ls.program program-there))

-- ---- one answer

span_same : (s t : Span) → s.there ≡ t.there → s.line ≡ t.line → s.at ≡ t.at → s.end ≡ t.end → s ≡ t
span_same s t a b c d =
    ap (λ (x : Bool). record { there = x; line = s.line; at = s.at; end = s.end }) a
    ∙ (ap (λ (x : ℕ). record { there = t.there; line = x; at = s.at; end = s.end }) b
    ∙ (ap (λ (x : ℕ). record { there = t.there; line = t.line; at = x; end = s.end }) c
    ∙ ap (λ (x : ℕ). record { there = t.there; line = t.line; at = t.at; end = x }) d))

span-one : (bs : List ℕ) (s t : Span) → Lies (length bs) s → Lies (length bs) t → value_in bs s ≡ value_in bs t → s ≡ t
span-one bs s t l m e = by-there s.there t.there refl refl
  where
    values : (a b : Bool) → s.there ≡ a → t.there ≡ b → cond a (some (value_at bs s)) none ≡ cond b (some (value_at bs t)) none
    values a b q w =
        ap (λ (x : Bool). cond x (some (value_at bs s)) none) (sym q)
        ∙ (e ∙ ap (λ (x : Bool). cond x (some (value_at bs t)) none) w)

    by-there : (a b : Bool) → s.there ≡ a → t.there ≡ b → s ≡ t
    by-there true true q w =
        let v : value_at bs s ≡ value_at bs t = (let x = values true true q w in cc) in
        let k : length (part bs s.at s.end) ≡ length (part bs t.at t.end) = ap (λ (x : Value). length x.is) v in
        let at : s.at ≡ t.at = ap (λ (x : Value). x.at) v in
        let x = l.here q in
        let y = m.here w in
        span_same s t (q ∙ sym w) (ap (λ (z : Value). z.line_at) v) at
        (omega (arith, length_part bs s.at s.end (omega arith), length_part bs t.at t.end (omega arith)))
    by-there true false q w = let x = values true false q w in clash (cc)
    by-there false true q w = let x = values false true q w in clash (cc)
    by-there false false q w =
        let x = l.away q in
        let y = m.away w in
        span_same s t (q ∙ sym w) (omega arith) (omega arith) (omega arith)

lines-one : (bs : List ℕ) (ls ms : Lines) → Lie (length bs) ls → Lie (length bs) ms → read_of bs ls ≡ read_of bs ms → ls ≡ ms
unfolding read_of
lines-one bs ls ms l m e =
    let s : ls.standard ≡ ms.standard = span-one bs _ _ l.standard m.standard (ap (λ (r : Read). r.standard) e) in
    let f : ls.fugitive ≡ ms.fugitive = span-one bs _ _ l.fugitive m.fugitive (ap (λ (r : Read). r.fugitive) e) in
    let p : ls.program ≡ ms.program = span-one bs _ _ l.program m.program (ap (λ (r : Read). r.program) e) in
    ap (λ (x : Span). record { standard = x; fugitive = ls.fugitive; program = ls.program }) s
    ∙ (ap (λ (x : Span). record { standard = ms.standard; fugitive = x; program = ls.program }) f
    ∙ ap (λ (x : Span). record { standard = ms.standard; fugitive = ms.fugitive; program = x }) p)

pub answers_one : (bs : List ℕ) (r t : Reading) → Answers bs r → Answers bs t → r ≡ t
answers_one bs (Refused n p) (Refused m q) g h = let e : refused n p ≡ refused m q = g.means ∙ sym h.means in cc
answers_one bs (Refused n p) (Taken ms) g h =
    let e = g.means ∙ sym h.means in clash (cc)
answers_one bs (Taken ls) (Refused m q) g h =
    let e = g.means ∙ sym h.means in clash (cc)
answers_one bs (Taken ls) (Taken ms) g h =
    let e : accepted (read_of bs ls) ≡ accepted (read_of bs ms) = g.means ∙ sym h.means in
    let d : read_of bs ls ≡ read_of bs ms = cc in
    ap (λ (x : Lines). Taken x) (lines-one bs ls ms g.lie h.lie d)
