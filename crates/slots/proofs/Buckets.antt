-- The hash and the buckets: a hash has 32 bits, so a bucket is one of 512; the last block of a bucket among the first ones, and what a block behind the others
-- changes.
-- Assumes nothing.
use Prim.Native.Nat.{ℕ, zero, suc, ◌+◌, ◌-◌, ◌*◌, ◌/◌, ◌%◌, ◌≤◌, ◌<◌}
use mathlib.Core.Path.{◌≡◌, refl, sym, ap, subst, ◌∙◌}
use mathlib.Core.Bool.{Bool}
use mathlib.Core.List.{List, [], ◌∷◌, ◌++◌}
use native.Mathlib.Numerals.{add-one}
use native.Mathlib.Omega.{arith}
use lib.Dec.{T, T_not, ltb, eqb, ltb→lt, nltb→le, eqb→eq, eqb_refl}
use lib.ListN.{length, get_or, get_or-append}
use lib.Seq.{get_or-append_seam}
use Rattle.paper.specs.Lists.{choose}
use Rattle.paper.proofs.Choices.{by-test}
use Rattle.slots.specs.Slots.{mix, four_at, hash_up, bucket_of, last_below}

-- ---- the hash

-- one four more
pub hash-on : (b : List ℕ) (n : ℕ) → mix (hash_up b n) (four_at b (4 * n)) ≡ hash_up b (n + 1)
unfolding hash_up
hash-on b n = ap (hash_up b) (sym (add-one n))

pub hash-start : (b : List ℕ) → mix (mix 0 (four_at b 120)) (four_at b 124) ≡ hash_up b 0
unfolding hash_up
hash-start b = refl

hash-low : (b : List ℕ) (n : ℕ) → hash_up b n < 4294967296
unfolding hash_up
hash-low b zero = omega arith
hash-low b (suc n) = omega arith

pub bucket-low : (b : List ℕ) → bucket_of b < 512
bucket-low b = omega (arith, hash-low b ((get_or b 120 0 % 128 + 3) / 4))

-- ---- the last block of a bucket

module _ (cs : List (List ℕ)) (k : ℕ) where
  abbrev here : ℕ → Bool
  here n = eqb (bucket_of (get_or cs n [])) k

  pub last_within : (n : ℕ) → last_below cs k n ≤ n
  unfolding last_below
  last_within zero = omega arith
  last_within (suc n) =
      by-test (λ (x : ℕ). x ≤ suc n) (here n) (λ u. suc n) (λ u. last_below cs k n) (λ t. omega arith) (λ t. omega (arith, last_within n))

  pub last-there : (n : ℕ) → 0 < last_below cs k n → bucket_of (get_or cs (last_below cs k n - 1) []) ≡ k
  unfolding last_below
  last-there zero h = absurd (omega arith)
  last-there (suc n) h =
      by-test (λ (x : ℕ). 0 < x → bucket_of (get_or cs (x - 1) []) ≡ k) (here n) (λ u. suc n) (λ u. last_below cs k n)
      (λ t l. let e : suc n - 1 ≡ n = omega arith in ap (λ (j : ℕ). bucket_of (get_or cs j [])) e ∙ eqb→eq (bucket_of (get_or cs n [])) k t)
      (λ t l. last-there n l) h

  -- none of the bucket stands behind it
  pub last-past : (n m : ℕ) → m < n → bucket_of (get_or cs m []) ≡ k → m < last_below cs k n
  unfolding last_below
  last-past zero m h e = absurd (omega arith)
  last-past (suc n) m h e =
      by-test (λ (x : ℕ). m < x) (here n) (λ u. suc n) (λ u. last_below cs k n) (λ t. h)
      (λ t.
      by-test (λ (x : ℕ). m < last_below cs k n) (ltb m n) (λ u. 0) (λ u. 0) (λ l. last-past n m (ltb→lt m n l) e)
      (λ l.
      let z : m ≡ n = omega (arith, nltb→le m n l) in
      let g : bucket_of (get_or cs n []) ≡ k = subst (λ (j : ℕ). bucket_of (get_or cs j []) ≡ k) z e in
      absurd (T_not (here n) t (subst (λ (j : ℕ). T (eqb j k)) (sym g) (eqb_refl k)))))

-- ---- blocks behind the others

pub last-append : (cs ds : List (List ℕ)) (k n : ℕ) → n ≤ length cs → last_below (cs ++ ds) k n ≡ last_below cs k n
unfolding last_below
last-append cs ds k zero h = refl
last-append cs ds k (suc n) h =
    ap (λ (c : List ℕ). choose (eqb (bucket_of c) k) (λ u. suc n) (λ u. last_below (cs ++ ds) k n)) (get_or-append cs ds [] n h)
    ∙ ap (λ (x : ℕ). choose (eqb (bucket_of (get_or cs n [])) k) (λ u. suc n) (λ u. x)) (last-append cs ds k n (omega arith))

module _ (cs : List (List ℕ)) (b : List ℕ) where
  -- the last of the blocks is b
  last-seam : (k : ℕ) → last_below (cs ++ b ∷ []) k (length cs + 1) ≡ choose (eqb (bucket_of b) k) (λ u. suc (length cs)) (λ u. last_below cs k (length cs))
  unfolding last_below
  last-seam k =
      ap (last_below (cs ++ b ∷ []) k) (add-one (length cs))
      ∙ ap (λ (c : List ℕ). choose (eqb (bucket_of c) k) (λ u. suc (length cs)) (λ u. last_below (cs ++ b ∷ []) k (length cs))) (get_or-append_seam cs b [] [])
      ∙ ap (λ (x : ℕ). choose (eqb (bucket_of b) k) (λ u. suc (length cs)) (λ u. x)) (last-append cs (b ∷ []) k (length cs) (omega arith))

  pub last-new : (k : ℕ) → bucket_of b ≡ k → last_below (cs ++ b ∷ []) k (length cs + 1) ≡ length cs + 1
  last-new k e =
      last-seam k
      ∙ by-test (λ (x : ℕ). x ≡ length cs + 1) (eqb (bucket_of b) k) (λ u. suc (length cs)) (λ u. last_below cs k (length cs))
      (λ t. sym (add-one (length cs)))
      (λ t. absurd (T_not (eqb (bucket_of b) k) t (subst (λ (j : ℕ). T (eqb j k)) (sym e) (eqb_refl k))))

  pub last-other : (k : ℕ) → (bucket_of b ≡ k → ⊥) → last_below (cs ++ b ∷ []) k (length cs + 1) ≡ last_below cs k (length cs)
  last-other k d =
      last-seam k
      ∙ by-test (λ (x : ℕ). x ≡ last_below cs k (length cs)) (eqb (bucket_of b) k) (λ u. suc (length cs)) (λ u. last_below cs k (length cs))
      (λ t. absurd (d (eqb→eq (bucket_of b) k t)))
      (λ t. refl)
