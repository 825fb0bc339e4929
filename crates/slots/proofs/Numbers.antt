-- The number of a block in a list: its first place there, the list's length where it has none.
--     number-within, number-there, number-first, number-known    for callers: the number says whether the block is there, and where
--     number_append, number_past, number-new                     for callers: what blocks behind the others change
-- Assumes nothing.
use Prim.Native.Nat.{ℕ, zero, suc, ◌+◌, ◌≤◌, ◌<◌, suc-le-suc}
use mathlib.Core.Path.{◌≡◌, refl, sym, ap, subst, ◌∙◌}
use mathlib.Core.Bool.{not}
use mathlib.Core.List.{List, [], ◌∷◌, ◌++◌}
use native.Mathlib.Nat.{le_of_suc-le-suc, suc_inj}
use native.Mathlib.Omega.{arith}
use lib.Dec.{T, T_not}
use lib.ListN.{length, get_or}
use Rattle.paper.specs.Lists.{eq_l}
use Rattle.paper.proofs.Choices.{by-test}
use Rattle.paper.proofs.Equal.{eq_l-sound, eq_l-refl}
use Rattle.slots.specs.Slots.{number_in}

same_test : (b c : List ℕ) → c ≡ b → T (eq_l b c)
same_test b c e = subst (λ (x : List ℕ). T (eq_l b x)) (sym e) (eq_l-refl b)

number_same : (b c : List ℕ) (cs : List (List ℕ)) → T (eq_l b c) → number_in b (c ∷ cs) ≡ 0
unfolding number_in
number_same b c cs t =
    by-test (λ (n : ℕ). n ≡ 0) (eq_l b c) (λ u. 0) (λ u. suc (number_in b cs)) (λ h. refl) (λ h. absurd (T_not (eq_l b c) h t))

number-other : (b c : List ℕ) (cs : List (List ℕ)) → T (not (eq_l b c)) → number_in b (c ∷ cs) ≡ suc (number_in b cs)
unfolding number_in
number-other b c cs t =
    by-test (λ (n : ℕ). n ≡ suc (number_in b cs)) (eq_l b c) (λ u. 0) (λ u. suc (number_in b cs)) (λ h. absurd (T_not (eq_l b c) t h))
    (λ h. refl)

-- ---- where the block is

pub number-within : (b : List ℕ) (cs : List (List ℕ)) → number_in b cs ≤ length cs
unfolding number_in
number-within b [] = omega arith
number-within b (c ∷ cs) =
    by-test (λ (n : ℕ). n ≤ suc (length cs)) (eq_l b c) (λ u. 0) (λ u. suc (number_in b cs)) (λ h. omega arith)
    (λ h. suc-le-suc (number-within b cs))

pub number-there : (b : List ℕ) (cs : List (List ℕ)) → number_in b cs < length cs → get_or cs (number_in b cs) [] ≡ b
unfolding number_in
number-there b [] h = absurd (omega arith)
number-there b (c ∷ cs) h =
    by-test (λ (n : ℕ). n < suc (length cs) → get_or (c ∷ cs) n [] ≡ b) (eq_l b c) (λ u. 0) (λ u. suc (number_in b cs))
    (λ t k. sym (eq_l-sound b c t)) (λ t k. number-there b cs (le_of_suc-le-suc k)) h

-- no place before it has the block
pub number-first : (b : List ℕ) (cs : List (List ℕ)) (i : ℕ) → i < length cs → get_or cs i [] ≡ b → number_in b cs ≤ i
unfolding number_in
number-first b [] i h e = absurd (omega arith)
number-first b (c ∷ cs) zero h e =
    by-test (λ (n : ℕ). n ≤ 0) (eq_l b c) (λ u. 0) (λ u. suc (number_in b cs)) (λ t. omega arith)
    (λ t. absurd (T_not (eq_l b c) t (same_test b c e)))
number-first b (c ∷ cs) (suc i) h e =
    by-test (λ (n : ℕ). n ≤ suc i) (eq_l b c) (λ u. 0) (λ u. suc (number_in b cs)) (λ t. omega arith)
    (λ t. suc-le-suc (number-first b cs i (le_of_suc-le-suc h) e))

-- the block stands in the list
abbrev pub Among : List ℕ → List (List ℕ) → Type 0
Among b cs = (i : ℕ) × (i < length cs) × (get_or cs i [] ≡ b)

-- the number is a place of the list exactly where the block stands there
pub number-known : (b : List ℕ) (cs : List (List ℕ)) → (number_in b cs < length cs → Among b cs) × (Among b cs → number_in b cs < length cs)
number-known b cs = (λ h. (number_in b cs, h, number-there b cs h), λ a. omega (arith, a.1, number-first b cs a.0 a.1 a.2))

-- ---- blocks behind the others

-- a number that is known stays
pub number_append : (b : List ℕ) (cs ds : List (List ℕ)) → number_in b cs < length cs → number_in b (cs ++ ds) ≡ number_in b cs
unfolding number_in
number_append b [] ds h = absurd (omega arith)
number_append b (c ∷ cs) ds h =
    by-test (λ (n : ℕ). n < suc (length cs) → number_in b (c ∷ (cs ++ ds)) ≡ n) (eq_l b c) (λ u. 0) (λ u. suc (number_in b cs))
    (λ t k. number_same b c (cs ++ ds) t)
    (λ t k. number-other b c (cs ++ ds) t ∙ ap suc (number_append b cs ds (le_of_suc-le-suc k))) h

-- a block that is none of the first is looked for behind them
pub number_past : (b : List ℕ) (cs ds : List (List ℕ)) → number_in b cs ≡ length cs → number_in b (cs ++ ds) ≡ length cs + number_in b ds
unfolding number_in
number_past b [] ds h = omega arith
number_past b (c ∷ cs) ds h =
    by-test (λ (n : ℕ). n ≡ suc (length cs) → number_in b (c ∷ (cs ++ ds)) ≡ suc (length cs) + number_in b ds) (eq_l b c) (λ u. 0)
    (λ u. suc (number_in b cs)) (λ t k. absurd (omega arith))
    (λ t k. omega (arith, number-other b c (cs ++ ds) t, number_past b cs ds (suc_inj k))) h

-- a new block has the next number
pub number-new : (b : List ℕ) (cs : List (List ℕ)) → number_in b cs ≡ length cs → number_in b (cs ++ b ∷ []) ≡ length cs
number-new b cs h = omega (arith, number_past b cs (b ∷ []) h, number_same b b [] (eq_l-refl b))
