-- The tests of equality say exactly what they test: `eq_t`, `eq_l`, `eq_s` hold of equal trees, lists and states, and of no others.
-- Equal trees: the test is the derived decision, so its two answers are the two halves. Lists and states: part by part.
-- Assumes nothing.
use Prim.Native.Nat.{ℕ}
use mathlib.Core.Path.{◌≡◌, refl, ap}
use mathlib.Core.Bool.{Bool, true, false, ◌&&◌}
use mathlib.Core.List.{List, [], ◌∷◌}
use native.Mathlib.Decide.{ℕ_discrete}
use lib.Dec.{T, eqb, eqb→eq, eqb_refl}
use Rattle.paper.specs.Lists.{eq_l}
use Rattle.paper.specs.Term.{Term, Left, gone, still, eq_t, is_yes, Term-discrete}
use Rattle.paper.specs.Reaction.{State}
use Rattle.paper.specs.Discovery.{eq_left, eq_s}

pub and_left : (a b : Bool) → T (a && b) → T a
and_left true b t = tt
and_left false b t = t

pub and_right : (a b : Bool) → T (a && b) → T b
and_right true b t = t
and_right false b t = absurd t

pub and_both : (a b : Bool) → T a → T b → T (a && b)
and_both true b t u = u
and_both false b t u = t

pub yes-is : {A : Type 0} (d : Dec A) → T (is_yes d) → A
unfolding is_yes
yes-is (yes p) t = p
yes-is (no q) t = absurd t

pub is-yes : {A : Type 0} (d : Dec A) → A → T (is_yes d)
unfolding is_yes
is-yes (yes p) a = tt
is-yes (no q) a = q a

-- equal trees are tested exactly
pub eq_t-sound : (x y : Term) → T (eq_t x y) → x ≡ y
unfolding eq_t
eq_t-sound x y t = yes-is (Term-discrete ℕ_discrete x y) t

pub eq_t-complete : (x y : Term) → x ≡ y → T (eq_t x y)
unfolding eq_t
eq_t-complete x y p = is-yes (Term-discrete ℕ_discrete x y) p

pub eq_l-sound : (x y : List ℕ) → T (eq_l x y) → x ≡ y
unfolding eq_l
eq_l-sound [] [] t = refl
eq_l-sound [] (y ∷ ys) t = absurd t
eq_l-sound (x ∷ xs) [] t = absurd t
eq_l-sound (x ∷ xs) (y ∷ ys) t =
    let p = eqb→eq x y (and_left (eqb x y) (eq_l xs ys) t) in
    let q = eq_l-sound xs ys (and_right (eqb x y) (eq_l xs ys) t) in
    λ i. p i ∷ q i

pub eq_l-refl : (x : List ℕ) → T (eq_l x x)
unfolding eq_l
eq_l-refl [] = tt
eq_l-refl (x ∷ xs) = and_both (eqb x x) (eq_l xs xs) (eqb_refl x) (eq_l-refl xs)

pub eq_left-sound : (x y : Left) → T (eq_left x y) → x ≡ y
eq_left-sound gone gone t = refl
eq_left-sound gone (still y) t = absurd t
eq_left-sound (still x) gone t = absurd t
eq_left-sound (still x) (still y) t = ap still (eq_t-sound x y t)

pub eq_left-refl : (x : Left) → T (eq_left x x)
eq_left-refl gone = tt
eq_left-refl (still x) = eq_t-complete x x refl

-- equal states are tested exactly
pub eq_s-sound : (x y : State) → T (eq_s x y) → x ≡ y
unfolding eq_s
eq_s-sound x y t =
    let m = eq_l-sound x.memory y.memory (search (and_left, and_right)) in
    let s = eq_l-sound x.stopped y.stopped (search (and_left, and_right)) in
    let l = eq_left-sound x.left y.left (search (and_left, and_right)) in
    λ i. record { left = l i; memory = m i; stopped = s i }

pub eq_s-refl : (x : State) → T (eq_s x x)
unfolding eq_s
eq_s-refl x = search (and_both, eq_l-refl, eq_left-refl)
