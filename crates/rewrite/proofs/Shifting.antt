-- A place leaves a list by a shift of what follows it: less place i with the next one copied there, the list is what it was less place i.
-- Assumes nothing.
use Prim.Native.Nat.{ℕ, zero, suc, ◌+◌, ◌≤◌, ◌<◌}
use mathlib.Core.List.{List, [], ◌∷◌, ◌++◌}
use mathlib.Core.Path.{◌≡◌, refl, ap, sym, ◌∙◌}
use native.Mathlib.Numerals.{add-one}
use native.Mathlib.Omega.{arith}
use lib.ListN.{get_or, length, take, set}
use lib.Seq.{take-suc-set}
use Rattle.rewrite.specs.Stored.{removed}

shift : (i : ℕ) (xs : List ℕ) → suc i < length xs → removed (suc i) (set xs i (get_or xs (suc i) 0)) ≡ removed i xs
unfolding removed
shift zero [] h = absurd (omega arith)
shift zero (x ∷ []) h = absurd (omega arith)
shift zero (x ∷ y ∷ xs) h = refl
shift (suc i) [] h = absurd (omega arith)
shift (suc i) (x ∷ xs) h = ap (λ (l : List ℕ). x ∷ l) (shift i xs (omega arith))

pub shifted : (i : ℕ) (xs : List ℕ) → i + 1 < length xs → removed (i + 1) (set xs i (get_or xs (i + 1) 0)) ≡ removed i xs
shifted i xs h = rw (add-one i) (shift i xs (omega arith))

take-removed : (n : ℕ) (xs : List ℕ) → take n (removed n xs) ≡ take n xs
unfolding removed
take-removed zero [] = refl
take-removed zero (x ∷ xs) = refl
take-removed (suc n) [] = refl
take-removed (suc n) (x ∷ xs) = ap (λ (l : List ℕ). x ∷ l) (take-removed n xs)

take-nil : (n : ℕ) → ◌≡◌ {A = List ℕ} (take n []) []
take-nil zero = refl
take-nil (suc n) = refl

removed-take : (k n : ℕ) (xs : List ℕ) → k ≤ n → take n (removed k xs) ≡ removed k (take (suc n) xs)
unfolding removed
removed-take zero n [] h = take-nil n
removed-take zero n (x ∷ xs) h = refl
removed-take (suc k) zero xs h = absurd (omega arith)
removed-take (suc k) (suc n) [] h = refl
removed-take (suc k) (suc n) (x ∷ xs) h = ap (λ (l : List ℕ). x ∷ l) (removed-take k n xs (omega arith))

-- when everything after it was shifted
pub shifted-out : (k n i : ℕ) (xs ys : List ℕ) → k ≤ n → n ≤ i → i ≤ n → removed i ys ≡ removed k xs → take n ys ≡ removed k (take (n + 1) xs)
shifted-out k n i xs ys h a b e =
    let z : i ≡ n = omega arith in
    let e₂ : removed n ys ≡ removed k xs = rw z at e in
    sym (take-removed n ys) ∙ ap (take n) e₂ ∙ removed-take k n xs h ∙ ap (λ (m : ℕ). removed k (take m xs)) (sym (add-one n))

-- one event more, at the end
pub appended : (n e : ℕ) (xs : List ℕ) → n < length xs → take (n + 1) (set xs n e) ≡ take n xs ++ (e ∷ [])
appended n e xs h = rw (add-one n) (take-suc-set xs n e h)
