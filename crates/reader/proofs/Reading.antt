-- From the parts of the reading to the whole: what `read_lines`, the reader of the text and the checks answered is the paper's `reading`. Assumes nothing.
use Prim.Native.Nat.{ℕ, ◌+◌, ◌-◌}
use mathlib.Core.Path.{◌≡◌, sym, ap, subst, ◌∙◌}
use mathlib.Core.List.{List}
use native.Mathlib.Omega.{arith}
use lib.ListN.{take, replicate}
use Rattle.paper.specs.Grammar.{Sequence}
use Rattle.paper.specs.Parse.{program, stops, parse}
use Rattle.paper.specs.File.{Answer, refused, accepted}
use Rattle.paper.specs.Reaction as paper
use Rattle.paper.specs.Refusals.{Edition, program_of, programmed, reading}
use Rattle.limits.specs.declared.Checked.{Checked}
use Rattle.limits.specs.declared.Checked.TheVariants.{Refused as Stopped, Fine}
use Rattle.limits.specs.Checks.{checked}
use Rattle.text.specs.declared.Lines.{Lines}
use Rattle.text.specs.Spans.{value_at, read_of}
use Rattle.text.proofs.Onward.{reading-read}
use Rattle.syntax.specs.Outcome.{IsRead, StopsAt}
use Rattle.reader.specs.declared.Program.{Program}
use Rattle.reader.specs.Reads.{given, ReadsAs}
use Rattle.reader.specs.Stages.{Taken, text_of, HasTree, limited, Fit}
use Rattle.reader.proofs.Slices.{slice-part}

-- a refusal, with zeros in the arrays
pub refused_as : (a : Answer paper.Program) (number place : ℕ) (r : Program) (nodes weights : List ℕ) → a ≡ refused number place → r ≡ given (refused number place) → nodes ≡ replicate 768 0 → weights ≡ replicate 192 0 → ReadsAs a r nodes weights
refused_as a number place r nodes weights e i n w =
    subst (λ (x : Answer paper.Program). ReadsAs x r nodes weights) (sym e) (record { is = i; its_nodes = n; its_weights = w })

module _ (bs : List ℕ) (ls : Lines) (h : Taken bs ls) (e : Edition) where
  -- of a text that is a program
  pub reading-limited : (q : Sequence) → parse (text_of bs ls) ≡ program q → reading parse e bs ≡ limited e bs ls q (accepted (program_of (read_of bs ls) (text_of bs ls) q))
  unfolding programmed
  reading-limited q t = reading-read bs parse e ls h ∙ ap (programmed e (read_of bs ls) (value_at bs ls.program)) t

  -- No. 8
  pub reading-stops : (p : ℕ) → StopsAt (take ls.program.end bs) ls.program.at p → reading parse e bs ≡ refused 8 p
  unfolding programmed
  reading-stops p s =
      let q : parse (text_of bs ls) ≡ stops (p - ls.program.at) = ap parse (sym (slice-part ls.program.at ls.program.end bs)) ∙ s.stopped in
      let eighth : (n : ℕ) → Answer paper.Program = λ n. refused 8 n in
      let k : ls.program.at + (p - ls.program.at) ≡ p = omega (arith, s.from) in
      reading-read bs parse e ls h
      ∙ (ap (programmed e (read_of bs ls) (value_at bs ls.program)) q ∙ ap eighth k)

  module _ (c l p : List ℕ) (n : ℕ) (t : HasTree bs ls c l p n) (r : Checked) (k : (q : Sequence) (a : Answer paper.Program) → parse (text_of bs ls) ≡ program q → checked r a ≡ limited e bs ls q a) where
    pub reading-checked : (number place : ℕ) → r ≡ Stopped number place → reading parse e bs ≡ refused number place
    reading-checked number place d =
        let q = t.tree in
        let a = accepted (program_of (read_of bs ls) (text_of bs ls) q) in
        reading-limited q t.parsed ∙ (sym (k q a t.parsed) ∙ ap (λ (x : Checked). checked x a) d)

    module _ (d : r ≡ Fine) where
      pub reading-accepts : (q : Sequence) → parse (text_of bs ls) ≡ program q → reading parse e bs ≡ accepted (program_of (read_of bs ls) (text_of bs ls) q)
      reading-accepts q v =
          let a = accepted (program_of (read_of bs ls) (text_of bs ls) q) in
          reading-limited q v ∙ (sym (k q a v) ∙ ap (λ (x : Checked). checked x a) d)

      pub checked-fit : Fit bs ls c l n
      checked-fit = record {
        taken = h;
        places = p;
        has_tree = t;
        edition = e;
        passes = λ q x v. sym (k q (accepted x) v) ∙ ap (λ (y : Checked). checked y (accepted x)) d;
      }

-- what the reader of the text leaves in the lists
pub read-tree-of : (bs : List ℕ) (ls : Lines) (c l p : List ℕ) (m n : ℕ) → IsRead (take ls.program.end bs) ls.program.at (replicate 192 0) (replicate 192 0) (replicate 192 0) c l p m n → HasTree bs ls c l p n
read-tree-of bs ls c l p m n h = record {
  tree = h.tree;
  parsed = ap parse (sym (slice-part ls.program.at ls.program.end bs)) ∙ h.parsed;
  free = h.free;
  code = h.code;
  left = h.left;
  place = h.place;
}
