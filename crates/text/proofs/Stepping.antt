-- A whole line as a step of the paper's `read_lines`, and the answer for a file when its lines are read.
-- What `read_lines` makes of the lines from the next line on is what it makes of all of them (`steps-enter`), so at the file's end the answer is that
-- of `lines_read`. Assumes nothing.
use Prim.Native.Nat.{ℕ, ◌+◌, ◌≤◌, ◌<◌}
use mathlib.Core.Path.{◌≡◌, refl, ap, sym, subst, ◌∙◌}
use mathlib.Core.Bool.{Bool, true, false, cond}
use mathlib.Core.List.{List}
use mathlib.Core.Option.{Option, none, some}
use native.Mathlib.Omega.{arith}
use lib.ListN.{length, drop, replicate, get_or-replicate}
use lib.Seq.{drop-length}
use borrow.Author.Tests.{lt-ltb, le-ltb}
use Rattle.paper.specs.Lists.{has}
use Rattle.paper.specs.File.{Answer, refused, accepted, unless, and_then, where_if, Read, nothing_read, lines, read_lines, key_of}
use Rattle.paper.specs.File as File
use Rattle.paper.specs.Refusals.{most_bytes}
use Rattle.paper.proofs.Choices.{clash}
use Rattle.text.specs.declared.Lines.{Lines}
use Rattle.text.specs.declared.Step.{Step}
use Rattle.text.specs.declared.Step.TheVariants.{Stop, Next}
use Rattle.text.specs.declared.Reading.TheVariants.{Refused, Read as Taken}
use Rattle.text.specs.Spans.{no_span, no_lines, part, value_at, read_of, program_in, lines_read, Lies, Lie, Answers}
use Rattle.text.specs.Steps.{keyed_at, spanned, then_from, Parted, Kept, Fresh, Enters, Stepped, Steps}

pub fresh : (bs : List ℕ) (at space end : ℕ) → Parted bs at space end → Fresh bs (spanned at space end)
fresh bs at space end q = record { there = refl; begins = omega (arith, q.keyed); valued = q.valued; ended = q.ended }

module _ (bs : List ℕ) (at space end : ℕ) (q : Parted bs at space end) (k : Option File.Key) (e : k ≡ key_of (part bs at space)) (ls : Lines) (seen : List Bool) where
  keyed-next : (a : Answer Read) → keyed_at (read_of bs ls) (value_at bs (spanned at space end)) k ≡ a → read_lines (read_of bs ls) (lines at (drop at bs)) ≡ then_from bs (end + 1) a
  keyed-next a h =
      q.reads (read_of bs ls)
      ∙ (ap (λ (o : Option File.Key). then_from bs (end + 1) (keyed_at (read_of bs ls) (value_at bs (spanned at space end)) o)) (sym e) ∙ ap (then_from bs (end + 1)) h)

  pub steps-enter : (s : Step) → Enters bs k (spanned at space end) ls seen s → Steps bs at ls seen s
  steps-enter (Stop n p) h = keyed-next (refused n p) h
  steps-enter (Next ls' next) h = record {
    more = omega (arith, h.next_is, q.keyed, q.valued);
    kept = h.kept;
    reads =
        keyed-next (accepted (read_of bs ls')) h.reads
        ∙ ap (λ (n : ℕ). read_lines (read_of bs ls') (lines n (drop n bs))) (sym h.next_is);
  }

-- ---- the whole file

lies-none : (n : ℕ) → Lies n no_span
lies-none n = record {
  here = λ t. clash (cc);
  away = λ t. (refl, refl, refl);
}

kept-none : (bs : List ℕ) → Kept bs 0 no_lines (replicate 26 false)
unfolding read_of has
kept-none bs = record {
  within = omega arith;
  lie = record { standard = lies-none 0; fugitive = lies-none 0; program = lies-none 0 };
  marks = record { long = refl; each = λ k h. get_or-replicate 26 k false false h };
}

-- what was read before the place `at`, and what is still to be read, give what reading all lines gives
pub record Reached (bs : List ℕ) (at : ℕ) (ls : Lines) (seen : List Bool) : Type 0 where
  pub short : length bs ≤ 1024
  pub kept : Kept bs at ls seen
  pub reads : read_lines nothing_read (lines 0 bs) ≡ read_lines (read_of bs ls) (lines at (drop at bs))

reached-none : (bs : List ℕ) → length bs ≤ 1024 → Reached bs 0 no_lines (replicate 26 false)
unfolding read_of
reached-none bs h = record { short = h; kept = kept-none bs; reads = refl }

pub reached-start : (bs : List ℕ) (ls : Lines) → length bs ≤ 1024 → ls ≡ no_lines → Reached bs 0 ls (replicate 26 false)
reached-start bs ls h e = subst (λ (xs : Lines). Reached bs 0 xs (replicate 26 false)) (sym e) (reached-none bs h)

-- No. 2
pub answers-long : (bs : List ℕ) → 1024 < length bs → Answers bs (Refused 2 0)
unfolding lines_read
answers-long bs h = record { means = rw (lt-ltb most_bytes (length bs) h); lie = tt }

lines_read-short : (bs : List ℕ) → length bs ≤ 1024 → (a : Answer Read) → read_lines nothing_read (lines 0 bs) ≡ a → lines_read bs ≡ and_then a (λ r. program_in (length bs) r r.program)
unfolding lines_read
lines_read-short bs short a h =
    ap (λ (t : Bool). unless (where_if t 0) 2 (and_then (read_lines nothing_read (lines 0 bs)) (λ r. program_in (length bs) r r.program))) (le-ltb most_bytes (length bs) short)
    ∙ ap (λ (b : Answer Read). and_then b (λ r. program_in (length bs) r r.program)) h

module _ (bs : List ℕ) (at : ℕ) (ls : Lines) (seen : List Bool) (g : Reached bs at ls seen) where
  -- the next line
  module _ (seen' : List Bool) (s : Step) (h : Steps bs at ls seen' s) where
    -- No. 3 to 6
    pub answers-refused : (number place : ℕ) → s ≡ Stop number place → Answers bs (Refused number place)
    answers-refused number place e = record {
      means = sym (lines_read-short bs g.short (refused number place) (g.reads ∙ subst (Steps bs at ls seen') e h));
      lie = tt;
    }

    pub stepped : (ls' : Lines) (next : ℕ) → s ≡ Next ls' next → Stepped bs at ls ls' next seen'
    stepped ls' next e = subst (Steps bs at ls seen') e h

    pub reached-next : (ls' : Lines) (next : ℕ) → s ≡ Next ls' next → Reached bs next ls' seen'
    reached-next ls' next e =
        let t = stepped ls' next e in
        record { short = g.short; kept = t.kept; reads = g.reads ∙ t.reads }

  -- no line is left
  module _ (h : length bs ≤ at) where
    whole : at ≡ length bs
    whole = omega (arith, g.kept.within)

    lines-done : read_lines nothing_read (lines 0 bs) ≡ accepted (read_of bs ls)
    unfolding read_lines lines
    lines-done =
        g.reads
        ∙ ap (λ (xs : List ℕ). read_lines (read_of bs ls) (lines at xs)) (ap (λ (n : ℕ). drop n bs) whole ∙ drop-length bs)

    program-in : (t : Bool) → ls.program.there ≡ t → lines_read bs ≡ program_in (length bs) (read_of bs ls) (cond t (some (value_at bs ls.program)) none)
    unfolding read_of
    program-in t e =
        lines_read-short bs g.short (accepted (read_of bs ls)) lines-done
        ∙ ap (λ (s : Bool). program_in (length bs) (read_of bs ls) (cond s (some (value_at bs ls.program)) none)) e

    pub answers-read : ls.program.there ≡ true → Answers bs (Taken ls)
    answers-read e = record { means = sym (program-in true e); lie = subst (λ (n : ℕ). Lie n ls) whole g.kept.lie }

    -- No. 7
    pub answers-none : ls.program.there ≡ false → Answers bs (Refused 7 (length bs))
    answers-none e = record { means = sym (program-in false e); lie = tt }
