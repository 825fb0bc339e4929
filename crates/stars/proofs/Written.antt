-- A pass over the nodes of a program that was written down is the least place on the tree of nodes (`Least`); and with No. 9's stars that is the first
-- place in the text (`Stars`). Assumes nothing.
use Prim.Native.Nat.{ℕ, ◌+◌, ◌≤◌}
use mathlib.Core.Path.{◌≡◌, sym, ap, ◌∙◌}
use mathlib.Core.List.{List, [], ◌∷◌, ◌++◌, append-nil}
use native.Mathlib.Omega.{arith}
use lib.ListN.{length, take, length-append}
use Rattle.paper.specs.Bytes.{dot_mark}
use Rattle.paper.specs.Grammar.{Sequence, print_s, printed}
use Rattle.paper.specs.Limits.{too_starred}
use Rattle.laws.specs.Placed.{codes, lefts, places, placed_s}
use Rattle.stars.specs.Nodes.{far, there, Rule, scan, nesting, Written}
use Rattle.stars.proofs.Least.{fold, least, least_t-top, Lawful, scan-tree}
use Rattle.stars.proofs.Sits.{sits-there}
use Rattle.stars.proofs.Stars.{sequence-leafy, nesting-lawful, sequence-stars}

module _ (at : ℕ) (q : Sequence) (code left place : List ℕ) (n : ℕ) (w : Written at q code left place n) where
  -- the program's text ends below far
  pub near : at + length (print_s q) ≤ far
  unfolding printed
  near = omega (arith, w.within, length-append (print_s q) (dot_mark ∷ []))

  pub written-scan : {A : Type 0} (r : Rule A) → Lawful r → scan r (take n code) (take n left) (take n place) [] far ≡ least r (placed_s at q)
  unfolding scan
  written-scan {A} r law =
      let t = placed_s at q in
      ap (λ (x : List ℕ). scan r x (take n left) (take n place) [] far) (w.are_codes ∙ sym (append-nil (codes t)))
      ∙ (ap (λ (x : List ℕ). scan r (codes t ++ []) x (take n place) [] far) (w.are_lefts ∙ sym (append-nil (lefts 0 t)))
      ∙ (ap (λ (x : List ℕ). scan r (codes t ++ []) (lefts 0 t ++ []) x [] far) (w.are_places ∙ sym (append-nil (places t)))
      ∙ (scan-tree r law t (sequence-leafy at q) [] [] [] [] far (omega arith)
      ∙ (omega (
        arith,
        least_t-top (λ t. r.passes 42 r.none_yet (fold r t)) (λ c t u. r.passes c (fold r t) (fold r u)) t,
      )))))

  pub stars-found : there (scan nesting (take n code) (take n left) (take n place) [] far) ≡ too_starred at q
  unfolding too_starred
  stars-found = ap there (written-scan nesting nesting-lawful) ∙ sits-there at (at + length (print_s q)) near (sequence-stars at q near)
