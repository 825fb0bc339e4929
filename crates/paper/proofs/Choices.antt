-- How a choice is taken apart: what holds of each branch, where its test says so, holds of the choice; and the case that cannot be (`clash`, with the
-- two constructors that differ: `clash (cc)`). Assumes nothing.
use Prim.Native.Nat.{ℕ}
use mathlib.Core.Path.{◌≡◌, refl}
use mathlib.Core.Bool.{Bool, true, false, not}
use mathlib.Core.Option.{Option, none, some}
use native.Mathlib.Omega.{arith}
use lib.Dec.{T}
use Rattle.paper.specs.Lists.{choose, chosen}

pub by-test : {A : Type 0} (P : A → Type 0) (b : Bool) (x y : Unit {0} → A) → (T b → P (x tt)) → (T (not b) → P (y tt)) → P (choose b x y)
by-test P true x y h k = h tt
by-test P false x y h k = k tt

pub by-option : {A B : Type 0} (P : B → Type 0) (o : Option A) (x : Unit {0} → B) (k : A → B) → (o ≡ none → P (x tt)) → ((a : A) → o ≡ some a → P (k a)) → P (chosen o x k)
by-option P none x k h g = h refl
by-option P (some a) x k h g = g a refl

pub clash : {A : Type 0} → ◌≡◌ {A = ℕ} 0 1 → A
clash e = absurd (omega arith)
