-- A state stands in a list, and no state stands twice: the laws that discovery's proof asks for.
-- The last one counts: a list of different states, each of which stands in a second list, is not longer than it (`distinct-shorter`), since the
-- first of them can be taken out of the second list and the others still stand there.
-- Assumes nothing.
use Prim.Native.Nat.{suc, ◌≤◌}
use mathlib.Core.Path.{◌≡◌, refl, subst, ap, sym}
use mathlib.Core.Bool.{true}
use mathlib.Core.List.{List, [], ◌∷◌, ◌++◌}
use mathlib.Core.Logic.{◌⊎◌, inl, inr, ⊎_elim}
use native.Mathlib.Omega.{arith}
use lib.Dec.{T, T_not}
use lib.ListN.{length}
use Rattle.paper.specs.Lists.{choose}
use Rattle.paper.specs.Reaction.{State}
use Rattle.paper.specs.Discovery.{eq_s, has_s}
use Rattle.paper.proofs.Choices.{by-test}
use Rattle.paper.proofs.Equal.{eq_s-sound, eq_s-refl}

abbrev pub Has : State → List State → Type 0
Has s xs = T (has_s s xs)

pub has-head : (s x : State) (xs : List State) → T (eq_s s x) → Has s (x ∷ xs)
unfolding has_s
has-head s x xs t = by-test T (eq_s s x) (λ u. true) (λ u. has_s s xs) (λ h. tt) (λ h. absurd (T_not (eq_s s x) h t))

pub has-tail : (s x : State) (xs : List State) → Has s xs → Has s (x ∷ xs)
unfolding has_s
has-tail s x xs t = by-test T (eq_s s x) (λ u. true) (λ u. has_s s xs) (λ h. tt) (λ h. t)

pub has-cases : (s x : State) (xs : List State) → Has s (x ∷ xs) → T (eq_s s x) ⊎ Has s xs
unfolding has_s
has-cases s x xs =
    by-test (λ b. T b → T (eq_s s x) ⊎ Has s xs) (eq_s s x) (λ u. true) (λ u. has_s s xs) (λ h t. inl h) (λ h t. inr t)

pub has-none : (s : State) → Has s [] → ⊥
unfolding has_s
has-none s h = h

pub has_left : (s : State) (xs ys : List State) → Has s xs → Has s (xs ++ ys)
has_left s [] ys t = absurd (has-none s t)
has_left s (x ∷ xs) ys t =
    ⊎_elim (λ h. has-head s x (xs ++ ys) h) (λ h. has-tail s x (xs ++ ys) (has_left s xs ys h)) (has-cases s x xs t)

pub has_right : (s : State) (xs ys : List State) → Has s ys → Has s (xs ++ ys)
has_right s [] ys t = t
has_right s (x ∷ xs) ys t = has-tail s x (xs ++ ys) (has_right s xs ys t)

pub has-append : (s : State) (xs ys : List State) → Has s (xs ++ ys) → Has s xs ⊎ Has s ys
has-append s [] ys t = inr t
has-append s (x ∷ xs) ys t =
    ⊎_elim (λ h. inl (has-head s x xs h))
    (λ h. ⊎_elim (λ k. inl (has-tail s x xs k)) (λ k. inr k) (has-append s xs ys h))
    (has-cases s x (xs ++ ys) t)

-- no state stands twice
unfoldable pub Distinct : List State → Type 0
Distinct [] = Unit {0}
Distinct (x ∷ xs) = (Has x xs → ⊥) × Distinct xs

eq_s-sym : (x y : State) → T (eq_s x y) → T (eq_s y x)
eq_s-sym x y t = subst (λ (z : State). T (eq_s z x)) (eq_s-sound x y t) (eq_s-refl x)

pub distinct-one : (x : State) → Distinct (x ∷ [])
unfolding Distinct
distinct-one x = (has-none x, tt)

-- a state that does not stand there yet may join
pub distinct_more : (xs : List State) (n : State) → Distinct xs → (Has n xs → ⊥) → Distinct (xs ++ n ∷ [])
unfolding Distinct
distinct_more [] n d h = (has-none n, tt)
distinct_more (x ∷ xs) n d h = (
  λ e.
      ⊎_elim d.0
      (λ k. h (has-head n x xs (eq_s-sym x n (⊎_elim (λ m. m) (λ m. absurd (has-none x m)) (has-cases x n [] k)))))
      (has-append x xs (n ∷ []) e),
  distinct_more xs n d.1 (λ k. h (has-tail n x xs k)),
)

-- the list less its first x
unfoldable less : State → List State → List State
less x [] = []
less x (y ∷ ys) = choose (eq_s x y) (λ u. ys) (λ u. y ∷ less x ys)

less-shorter : (x : State) (ys : List State) → Has x ys → suc (length (less x ys)) ≡ length ys
unfolding less
less-shorter x [] h = absurd (has-none x h)
less-shorter x (y ∷ ys) h =
    by-test (λ zs. suc (length zs) ≡ suc (length ys)) (eq_s x y) (λ u. ys) (λ u. y ∷ less x ys) (λ e. refl)
    (λ e. ap suc (less-shorter x ys (⊎_elim (λ k. absurd (T_not (eq_s x y) e k)) (λ k. k) (has-cases x y ys h))))

less-keeps : (x z : State) (ys : List State) → (T (eq_s z x) → ⊥) → Has z ys → Has z (less x ys)
unfolding less
less-keeps x z [] d h = absurd (has-none z h)
less-keeps x z (y ∷ ys) d h =
    by-test (Has z) (eq_s x y) (λ u. ys) (λ u. y ∷ less x ys)
    (λ e. ⊎_elim (λ k. absurd (d (subst (λ (w : State). T (eq_s z w)) (sym (eq_s-sound x y e)) k))) (λ k. k) (has-cases z y ys h))
    (λ e.
    ⊎_elim (λ k. has-head z y (less x ys) k) (λ k. has-tail z y (less x ys) (less-keeps x z ys d k)) (has-cases z y ys h))

pub distinct-shorter : (xs ys : List State) → Distinct xs → ((s : State) → Has s xs → Has s ys) → length xs ≤ length ys
unfolding Distinct
distinct-shorter [] ys d h = omega arith
distinct-shorter (x ∷ xs) ys d h =
    omega (
      arith,
      less-shorter x ys (h x (has-head x x xs (eq_s-refl x))),
      distinct-shorter xs (less x ys) d.1
          (λ s k.
          less-keeps x s ys (λ e. d.0 (subst (λ (w : State). Has w xs) (eq_s-sound s x e) k)) (h s (has-tail s x xs k))),
    )
