-- Laws of `every`: what it says at each number, what a loop over it needs, and how it goes through `&&`, a sum of counts and equal tests. By induction
-- on the count. Assumes nothing.
use Prim.Native.Nat.{ℕ, zero, suc, ◌+◌, ◌<◌}
use mathlib.Core.Path.{◌≡◌, refl, sym, ap, ap₂, ◌∙◌}
use mathlib.Core.Bool.{Bool, true, false, ◌&&◌, and-true, and-false, and_assoc}
use mathlib.Core.List.{[], ◌∷◌, map}
use native.Mathlib.Nat.{add-suc, add-zero, zero-add, not-suc-le-zero}
use native.Mathlib.Numerals.{add-one}
use native.Mathlib.Decide.{dec_lt}
use native.Mathlib.Omega.{arith}
use denote.Param.Members.{Mut}
use Rattle.std.specs.declared.ops.Range.{Range}
use Rattle.std.specs.Fn.{Called}
use Rattle.std.specs.Iterator.{ChecksAll}
use Rattle.std.specs.List.{list_all, range_with_len}
use Rattle.std.proofs.iter.Yields.{nat_range_steps}
use Rattle.std.proofs.lemmas.Iterator.{YieldsList-from_range}
use Rattle.std.proofs.lemmas.Iterator.Search.{all_from_yields_List}
use Rattle.std.proofs.lemmas.List.Folds.{list_all-append, list_all-map}
use Rattle.std.proofs.lemmas.List.FromFn.{map-range_with_len_more}
use Rattle.paper.specs.Lists.{every}
use Rattle.layout.proofs.Tests.{and_both}

pub every-all : (n : ℕ) (p : ℕ → Bool) → ((k : ℕ) → k < n → p k ≡ true) → every n p ≡ true
unfolding every
every-all zero p h = refl
every-all (suc n) p h = ap₂ (λ (a b : Bool). a && b) (every-all n p (λ k l. h k (omega arith))) (h n (omega arith))

pub every-at : (n : ℕ) (p : ℕ → Bool) → every n p ≡ true → (k : ℕ) → k < n → p k ≡ true
unfolding every
every-at zero p h k l = absurd (not-suc-le-zero l)
every-at (suc n) p h k l = last (dec_lt k n) (every-at n p (and_both (every n p) (p n) h).0 k)
  where
    last : Dec (k < n) → (k < n → p k ≡ true) → p k ≡ true
    last (yes q) f = f q
    last (no q) f =
        let e : k ≡ n = omega arith in
        ap p e ∙ (and_both (every n p) (p n) h).1

pub every_more : (k : ℕ) (p : ℕ → Bool) → every k p ≡ true → p k ≡ true → every (k + 1) p ≡ true
unfolding every
every_more k p h g = ap (λ (n : ℕ). every n p) (add-one k) ∙ ap₂ (λ (a b : Bool). a && b) h g

pub every-not : (n : ℕ) (p : ℕ → Bool) (k : ℕ) → k < n → p k ≡ false → every n p ≡ false
unfolding every
every-not zero p k h g = absurd (not-suc-le-zero h)
every-not (suc n) p k h g = last (dec_lt k n) (λ l. every-not n p k l g)
  where
    last : Dec (k < n) → (k < n → every n p ≡ false) → every (suc n) p ≡ false
    last (yes l) f = ap (λ (b : Bool). b && p n) (f l)
    last (no l) f =
        let e : n ≡ k = omega arith in
        ap (λ (b : Bool). every n p && b) (ap p e ∙ g) ∙ and-false (every n p)

pub every-same : (n : ℕ) (p q : ℕ → Bool) → ((k : ℕ) → k < n → p k ≡ q k) → every n p ≡ every n q
unfolding every
every-same zero p q h = refl
every-same (suc n) p q h = ap₂ (λ (a b : Bool). a && b) (every-same n p q (λ k l. h k (omega arith))) (h n (omega arith))

pub four : (a b c d : Bool) → ((a && b) && (c && d)) ≡ ((a && c) && (b && d))
four false b c d = refl
four true true c d = refl
four true false true d = refl
four true false false d = refl

pub every-and : (n : ℕ) (p q : ℕ → Bool) → every n (λ k. p k && q k) ≡ (every n p && every n q)
unfolding every
every-and zero p q = refl
every-and (suc n) p q = ap (λ (a : Bool). a && (p n && q n)) (every-and n p q) ∙ four (every n p) (every n q) (p n) (q n)

pub every-add : (m n : ℕ) (p : ℕ → Bool) → every (m + n) p ≡ (every m p && every n (λ k. p (m + k)))
unfolding every
every-add m zero p = ap (λ (n : ℕ). every n p) (add-zero m) ∙ sym (and-true (every m p))
every-add m (suc n) p =
    ap (λ (k : ℕ). every k p) (add-suc m n) ∙ ap (λ (a : Bool). a && p (m + n)) (every-add m n p)
    ∙ and_assoc (every m p) (every n (λ k. p (m + k))) (p (m + n))

-- ---- `all` over a range

list_all-range : (n : ℕ) (p : ℕ → Bool) → list_all p (range_with_len 0 n) ≡ every n p
unfolding every
list_all-range zero p = refl
list_all-range (suc n) p =
    sym (list_all-map same p (range_with_len 0 (suc n)))
    ∙ ap (λ (k : ℕ). list_all same (map p (range_with_len 0 k))) (sym (add-one n))
    ∙ ap (list_all same) (map-range_with_len_more p 0 n n (zero-add n))
    ∙ list_all-append same (map p (range_with_len 0 n)) (p n ∷ [])
    ∙ ap₂ (λ (b c : Bool). b && c) (list_all-map same p (range_with_len 0 n) ∙ list_all-range n p) (and-true (p n))
  where
    same : Bool → Bool
    same b = b

-- what `(0..n).all(..)` answers, where the closure tests p
pub every-from_all : {F : Type 0} {g : Mut F (ℕ × Unit {0}) Bool} {s u : Range ℕ} {f : F} {r : Bool} (n : ℕ) (p : ℕ → Bool)
    → ChecksAll nat_range_steps g s f r u → ((x : ℕ) (b : Bool) (q : F) → Called g f (x, tt) b q → (q ≡ f) × (b ≡ p x))
    → s ≡ record { start = 0; end = n } → r ≡ every n p
every-from_all {u = u} {f = f} {r = r} n p ran tests e =
    all_from_yields_List p u f r ran (YieldsList-from_range 0 n n e (omega arith)) tests ∙ list_all-range n p
