-- Cases by a test: one number below another, or two numbers the same. Assumes nothing.
use Prim.Native.Nat.{ℕ, ◌≤◌, ◌<◌}
use mathlib.Core.Path.{◌≡◌, refl}
use mathlib.Core.Bool.{Bool, true, false, ◌&&◌}
use lib.Dec.{ltb, eqb}
use borrow.Author.Tests.{ltb-true, ltb-false, eqb-true, eqb-false}

pub by-lt : {A : Type 0} (m n : ℕ) → (m < n → A) → (n ≤ m → A) → A
by-lt {A} m n f g = go (ltb m n) refl
  where
    go : (b : Bool) → ltb m n ≡ b → A
    go true e = f (ltb-true m n e)
    go false e = g (ltb-false m n e)

pub by-eq : {A : Type 0} (m n : ℕ) → (m ≡ n → A) → ((m ≡ n → ⊥) → A) → A
by-eq {A} m n f g = go (eqb m n) refl
  where
    go : (b : Bool) → eqb m n ≡ b → A
    go true e = f (eqb-true m n e)
    go false e = g (eqb-false m n e)

-- both halves of a test hold
pub and_first : (a b : Bool) → (a && b) ≡ true → a ≡ true
and_first true b e = refl
and_first false b e = e

pub and_second : (a b : Bool) → (a && b) ≡ true → b ≡ true
and_second true b e = e
and_second false b e = let z : ◌≡◌ {A = Bool} false true = e in cc
