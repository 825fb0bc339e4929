-- The flags of two lists joined one after the other. Assumes nothing.
use Prim.Native.Nat.{ℕ, ◌+◌, ◌≤◌, ◌<◌}
use mathlib.Core.Path.{◌≡◌, refl, sym, ap, ◌∙◌}
use mathlib.Core.Bool.{Bool, true, false, ◌||◌}
use mathlib.Core.List.{List}
use native.Mathlib.Omega.{arith}
use lib.ListN.{length, get_or, set, length-set}
use lib.Seq.{get_or-set_same, get_or-set_other}
use Rattle.letters.proofs.Flags.{or-false}
use Rattle.reader.proofs.Slices.{at-or-below}

or-true : (a : Bool) → (a || true) ≡ true
or-true true = refl
or-true false = refl

-- below l the flags are those of either list, from l on those of the first
pub record Joined (a b flags : List Bool) (l : ℕ) : Type 0 where
  pub long : length flags ≡ 26
  pub done : (k : ℕ) → k < l → get_or flags k false ≡ (get_or a k false || get_or b k false)
  pub rest : (k : ℕ) → l ≤ k → get_or flags k false ≡ get_or a k false

module _ (a b flags : List Bool) (l : ℕ) (j : Joined a b flags l) (h : l < 26) where
  pub join-on : get_or b l false ≡ true → Joined a b (set flags l true) (l + 1)
  join-on e = record {
    long = length-set flags l true ∙ j.long;
    done = λ k q. at-or-below k l (λ p. get_or-set_other flags l k true false (λ z. omega arith) ∙ j.done k p) (λ p. ap (λ (n : ℕ). get_or (set flags l true) n false) p ∙ (get_or-set_same flags l true false (omega (arith, j.long)) ∙ (sym (ap (λ (t : Bool). get_or a l false || t) e ∙ or-true (get_or a l false)) ∙ ap (λ (n : ℕ). get_or a n false || get_or b n false) (sym p)))) q;
    rest = λ k q. get_or-set_other flags l k true false (λ z. omega arith) ∙ j.rest k (omega arith);
  }

  pub join-off : get_or b l false ≡ false → Joined a b flags (l + 1)
  join-off e = record {
    long = j.long;
    done = λ k q. at-or-below k l (λ p. j.done k p) (λ p. ap (λ (n : ℕ). get_or flags n false) p ∙ (j.rest l (omega arith) ∙ (sym (ap (λ (t : Bool). get_or a l false || t) e ∙ or-false (get_or a l false)) ∙ ap (λ (n : ℕ). get_or a n false || get_or b n false) (sym p)))) q;
    rest = λ k q. j.rest k (omega arith);
  }
