-- A first place and a least place are the same where places ascend: what a part finds sits between its text's ends, so of two parts side by side the
-- first to find one finds the least. Assumes nothing.
use Prim.Native.Nat.{ℕ, ◌<◌, ◌≤◌, min}
use mathlib.Core.Path.{◌≡◌, refl, ap, subst}
use mathlib.Core.Bool.{Bool, true, false, cond}
use mathlib.Core.Option.{Option, none, some}
use native.Mathlib.Omega.{arith}
use borrow.Author.Tests.{lt-ltb}
use Rattle.stars.specs.Nodes.{far, there}

-- a place in [lo, hi), or none and far
pub data Sits (lo hi : ℕ) : Option ℕ → ℕ → Type 0 where
  nowhere : Sits lo hi none far
  here : {x : ℕ} → lo ≤ x → x < hi → Sits lo hi (some x) x

abbrev pub or_else : Option ℕ → Option ℕ → Option ℕ
or_else none b = b
or_else (some x) b = some x

pub or_else-cond : (b : Bool) (p : ℕ) (x y z : Option ℕ) → x ≡ or_else y z → cond b (some p) x ≡ or_else (cond b (some p) y) z
or_else-cond true p x y z e = refl
or_else-cond false p x y z e = e

pub sits-is : {lo hi : ℕ} {o : Option ℕ} {m : ℕ} (m' : ℕ) → m ≡ m' → Sits lo hi o m → Sits lo hi o m'
sits-is {lo} {hi} {o} m' e s = subst (λ (k : ℕ). Sits lo hi o k) e s

pub sits-finds : {lo hi : ℕ} {o : Option ℕ} {m : ℕ} (o' : Option ℕ) → o ≡ o' → Sits lo hi o m → Sits lo hi o' m
sits-finds {lo} {hi} {o} {m} o' e s = subst (λ (k : Option ℕ). Sits lo hi k m) e s

pub sits-both : (lo mid hi : ℕ) {o o' : Option ℕ} {m m' : ℕ} → lo ≤ mid → mid ≤ hi → hi ≤ far → Sits lo mid o m → Sits mid hi o' m'
    → Sits lo hi (or_else o o') (min m m')
sits-both lo mid hi a b c nowhere nowhere = nowhere
sits-both lo mid hi a b c nowhere (here {x} p q) = sits-is (min far x) (omega arith) (here {x = x} (omega arith) q)
sits-both lo mid hi a b c (here {x} p q) nowhere = sits-is (min x far) (omega arith) (here {x = x} p (omega arith))
sits-both lo mid hi a b c (here {x} p q) (here {x = y} u v) = sits-is (min x y) (omega arith) (here {x = x} p (omega arith))

pub sits-one : (lo hi : ℕ) (b : Bool) (p : ℕ) → lo ≤ p → p < hi → Sits lo hi (cond b (some p) none) (cond b p far)
sits-one lo hi true p l h = here l h
sits-one lo hi false p l h = nowhere

pub sits-wide : (lo hi lo' hi' : ℕ) {o : Option ℕ} {m : ℕ} → lo' ≤ lo → hi ≤ hi' → Sits lo hi o m → Sits lo' hi' o m
sits-wide lo hi lo' hi' a b nowhere = nowhere
sits-wide lo hi lo' hi' a b (here {x} p q) = here {x = x} (omega arith) (omega arith)

pub sits-there : (lo hi : ℕ) {o : Option ℕ} {m : ℕ} → hi ≤ far → Sits lo hi o m → there m ≡ o
sits-there lo hi h nowhere = refl
sits-there lo hi h (here {x} p q) = ap (λ (b : Bool). cond b (some x) none) (lt-ltb x far (omega arith))
