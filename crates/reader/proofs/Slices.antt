-- Parts of a file: Rattle's `slice` and the `part` of `text` are the same; and a place below the next one. Assumes nothing.
use Prim.Native.Nat.{ℕ, zero, suc, ◌+◌, ◌-◌, ◌<◌}
use mathlib.Core.Path.{◌≡◌, refl, sym, ap, ◌∙◌}
use mathlib.Core.List.{List, [], ◌∷◌}
use mathlib.Core.Bool.{Bool, true, false}
use native.Mathlib.Omega.{arith}
use lib.Dec.{eqb}
use lib.ListN.{take, drop}
use lib.Seq.{slice, take-nil}
use borrow.Author.Tests.{eqb-true, eqb-false}
use Rattle.text.specs.Spans.{part}

pub slice-part : (f t : ℕ) (bs : List ℕ) → slice f t bs ≡ part bs f t
slice-part zero t bs = let e : t ≡ t - 0 = omega arith in ap (λ (n : ℕ). take n bs) e
slice-part (suc f) zero bs = let e : 0 ≡ 0 - suc f = omega arith in ap (λ (n : ℕ). take n (drop (suc f) bs)) e
slice-part (suc f) (suc t) [] = sym (take-nil (suc t - suc f))
slice-part (suc f) (suc t) (b ∷ bs) =
    let e : t - f ≡ suc t - suc f = omega arith in slice-part f t bs ∙ ap (λ (n : ℕ). take n (drop f bs)) e

pub at-or-below : {A : Type 0} (k l : ℕ) → (k < l → A) → (k ≡ l → A) → k < l + 1 → A
at-or-below {A} k l f g q = by-test (eqb k l) refl
  where
    by-test : (t : Bool) → eqb k l ≡ t → A
    by-test true e = g (eqb-true k l e)
    by-test false e = f (below (eqb-false k l e))
      where
        below : (k ≡ l → ⊥) → k < l
        below z = omega arith
