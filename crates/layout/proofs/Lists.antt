-- Laws of `below` and `gather`: what stands at an index, and how long it is. By induction on the count or on the list. Assumes nothing.
use Prim.Native.Nat.{ℕ, zero, suc, ◌+◌, ◌*◌, ◌<◌}
use mathlib.Core.Path.{◌≡◌, refl, sym, ap, ◌∙◌}
use mathlib.Core.List.{List, [], ◌∷◌, ◌++◌, map, append_assoc}
use native.Mathlib.Nat.{add-zero, zero-add, suc-mul, not-suc-le-zero, le_of_suc-le-suc}
use native.Mathlib.Omega.{arith}
use lib.ListN.{length, get_or, length-append}
use lib.Seq.{ext_get_or}
use Rattle.paper.specs.Lists.{gather, from, below}

-- ---- below

module _ {A : Type 0} (f : ℕ → A) where
  from-length : (j n : ℕ) → length (map f (from j n)) ≡ n
  unfolding from
  from-length j zero = refl
  from-length j (suc n) = ap suc (from-length (suc j) n)

  from_at : (j n i : ℕ) (d : A) → i < n → get_or (map f (from j n)) i d ≡ f (j + i)
  unfolding from
  from_at j zero i d h = absurd (not-suc-le-zero h)
  from_at j (suc n) zero d h = ap f (sym (add-zero j))
  from_at j (suc n) (suc i) d h =
      let e : suc j + i ≡ j + suc i = omega arith in
      from_at (suc j) n i d (le_of_suc-le-suc h) ∙ ap f e

  pub below_length : (n : ℕ) → length (map f (below n)) ≡ n
  unfolding below
  below_length n = from-length 0 n

  pub below_at : (n i : ℕ) (d : A) → i < n → get_or (map f (below n)) i d ≡ f i
  unfolding below
  below_at n i d h = from_at 0 n i d h ∙ ap f (zero-add i)

  pub below-is : (n : ℕ) (l : List A) (d : A) → length l ≡ n → ((i : ℕ) → i < n → f i ≡ get_or l i d) → map f (below n) ≡ l
  below-is n l d e h =
      ext_get_or d (map f (below n)) l (below_length n ∙ sym e)
      (λ i k. let q : i < n = rw below_length at k in below_at n i d q ∙ h i q)

-- ---- gather

pub gather_append : {A : Type 0} (g : A → List ℕ) (xs ys : List A) → gather g (xs ++ ys) ≡ gather g xs ++ gather g ys
unfolding gather
gather_append g [] ys = refl
gather_append g (x ∷ xs) ys = ap (λ (l : List ℕ). g x ++ l) (gather_append g xs ys) ∙ sym (append_assoc (g x) (gather g xs) (gather g ys))

pub gather-length : {A : Type 0} (g : A → List ℕ) (d : A) (w : ℕ) (xs : List A) → ((k : ℕ) → k < length xs → length (g (get_or xs k d)) ≡ w)
    → length (gather g xs) ≡ length xs * w
unfolding gather
gather-length g d w [] h = omega arith
gather-length g d w (x ∷ xs) h =
    let e : length (g x) ≡ w = h 0 (omega arith) in
    let r : length (gather g xs) ≡ length xs * w = gather-length g d w xs (λ k l. h (suc k) (omega arith)) in
    length-append (g x) (gather g xs) ∙ omega (arith, suc-mul (length xs) w)
