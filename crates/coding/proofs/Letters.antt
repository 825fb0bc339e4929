-- Lists of letters (`laws`, `Letters`): those below a number, those that a test keeps of them, and that different letters which all stand in another
-- list are not more than it has (`once-shorter`): each can be taken out of the other, and the rest still stand there. Assumes nothing.
use Prim.Native.Nat.{ℕ, zero, suc, ◌+◌, ◌≤◌, ◌<◌}
use mathlib.Core.Bool.{Bool, true, false, ◌||◌}
use mathlib.Core.List.{List, [], ◌∷◌, ◌++◌}
use mathlib.Core.Path.{◌≡◌, refl, sym, ap, subst, ◌∙◌}
use native.Mathlib.Omega.{arith}
use lib.Dec.{T, eqb, eqb→eq, eqb_refl}
use lib.ListN.{length}
use borrow.Author.Tests.{eqb-true}
use Rattle.paper.specs.Lists.{has, without, keep, from, below}
use Rattle.paper.proofs.Equal.{and_left, and_both}
use Rattle.laws.proofs.Letters.{by_cond, false-not, has_here, has_there, has-keep, Once}
use Rattle.laws.proofs.Names.{or-both}
use Rattle.nodes.proofs.Choice.{by-eq}

pub by-or : {A : Type 0} (a b : Bool) → T (a || b) → (T a → A) → (T b → A) → A
by-or true b t f g = f tt
by-or false b t f g = g t

pub has_first : (x : ℕ) (v w : List ℕ) → T (has x v) → T (has x (v ++ w))
unfolding has
has_first x [] w t = absurd t
has_first x (y ∷ v) w t = or-both (eqb x y) (has x v) (eqb x y) (has x (v ++ w)) (λ h. h) (has_first x v w) t

has-from : (n k l : ℕ) → k ≤ l → l < k + n → T (has l (from k n))
unfolding from
has-from zero k l a b = absurd (omega arith)
has-from (suc n) k l a b =
    by-eq l k (λ e. has_here l k (from (suc k) n) (subst (λ (x : ℕ). T (eqb l x)) e (eqb_refl l)))
    (λ d. has_there l k (from (suc k) n) (has-from n (suc k) l (omega arith) (omega arith)))

from-has : (n k l : ℕ) → T (has l (from k n)) → l < k + n
unfolding from has
from-has zero k l t = absurd t
from-has (suc n) k l t =
    by-or (eqb l k) (has l (from (suc k) n)) t (λ h. omega (arith, eqb→eq l k h)) (λ h. omega (arith, from-has n (suc k) l h))

pub has-below : (n l : ℕ) → l < n → T (has l (below n))
unfolding below
has-below n l h = has-from n 0 l (omega arith) (omega arith)

pub below-has : (n l : ℕ) → T (has l (below n)) → l < n
unfolding below
below-has n l t = omega (arith, from-has n 0 l t)

-- those below n that pass
pub kept-below : (q : ℕ → Bool) (n l : ℕ) → T (has l (keep q (below n))) → l < n
kept-below q n l t = below-has n l (and_left (has l (below n)) (q l) (subst T (has-keep q l (below n)) t))

pub below-kept : (q : ℕ → Bool) (n l : ℕ) → l < n → T (q l) → T (has l (keep q (below n)))
below-kept q n l h t = subst T (sym (has-keep q l (below n))) (and_both (has l (below n)) (q l) (has-below n l h) t)

-- a letter that stands in the list, taken out
without-shorter : (x : ℕ) (ys : List ℕ) → T (has x ys) → suc (length (without x ys)) ≡ length ys
unfolding has without
without-shorter x [] h = absurd h
without-shorter x (y ∷ ys) h =
    by_cond (λ (zs : List ℕ). suc (length zs) ≡ suc (length ys)) (eqb x y) ys (y ∷ without x ys) (λ e. refl)
    (λ e. ap suc (without-shorter x ys (by-or (eqb x y) (has x ys) h (λ t. absurd (false-not (eqb x y) e t)) (λ t. t))))

without-keeps : (x e : ℕ) (ys : List ℕ) → (e ≡ x → ⊥) → T (has e ys) → T (has e (without x ys))
unfolding has without
without-keeps x e [] d h = h
without-keeps x e (y ∷ ys) d h =
    by_cond (λ (zs : List ℕ). T (has e zs)) (eqb x y) ys (y ∷ without x ys)
    (λ q. by-or (eqb e y) (has e ys) h (λ t. absurd (d (eqb→eq e y t ∙ sym (eqb-true x y q)))) (λ t. t))
    (λ q. or-both (eqb e y) (has e ys) (eqb e y) (has e (without x ys)) (λ t. t) (without-keeps x e ys d) h)

pub once-shorter : (xs ys : List ℕ) → Once xs → ((e : ℕ) → T (has e xs) → T (has e ys)) → length xs ≤ length ys
unfolding Once
once-shorter [] ys o h = omega arith
once-shorter (x ∷ xs) ys o h =
    omega (
      arith,
      without-shorter x ys (h x (has_here x x xs (eqb_refl x))),
      once-shorter xs (without x ys) o.1
          (λ e t. without-keeps x e ys (λ q. o.0 (subst (λ (z : ℕ). T (has z xs)) q t)) (h e (has_there e x xs t))),
    )
