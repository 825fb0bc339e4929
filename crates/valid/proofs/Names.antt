-- Names ascend exactly when each is at least the least that may follow. Assumes nothing.
use Prim.Native.Nat.{ℕ, ◌+◌, ◌-◌, ◌<◌, ◌≤◌}
use mathlib.Core.Path.{◌≡◌, refl, sym, ap, ap₂, ◌∙◌}
use mathlib.Core.Bool.{Bool, true, false, cond, ◌&&◌, ◌||◌, and-false}
use mathlib.Core.List.{List}
use native.Mathlib.Omega.{arith}
use borrow.Author.Tests.{le-leb, lt-leb, ne_eqb}
use lib.Dec.{eqb, leb, ltb}
use Rattle.paper.specs.Lists.{every}
use Rattle.paper.specs.IsTable.{name_at, ascend}
use Rattle.layout.proofs.Tests.{least-test}
use Rattle.layout.proofs.Every.{every_more, every-not}

-- the least that the k-th name may be
abbrev pub least_of : List ℕ → (from k : ℕ) → ℕ
least_of t from k = cond (eqb k 0) 0 (name_at t (from + k - 1) + 1)

abbrev name_ok : List ℕ → (from k : ℕ) → Bool
name_ok t from k = leb (name_at t (from + k)) 25 && (eqb k 0 || ltb (name_at t (from + k - 1)) (name_at t (from + k)))

name-test : (t : List ℕ) (from k name : ℕ) → name ≡ name_at t (from + k) → name_ok t from k ≡ (leb name 25 && leb (least_of t from k) name)
name-test t from k name e =
    ap (λ (b : Bool). leb (name_at t (from + k)) 25 && b) (least-test (eqb k 0) (name_at t (from + k - 1)) (name_at t (from + k)))
    ∙ ap (λ (n : ℕ). leb n 25 && leb (least_of t from k) n) (sym e)

pub ascend-over : (t : List ℕ) (from count k name : ℕ) → k < count → name ≡ name_at t (from + k) → 25 < name → ascend t from count ≡ false
unfolding ascend
ascend-over t from count k name h e l =
    every-not count (name_ok t from) k h (name-test t from k name e ∙ ap (λ (b : Bool). b && leb (least_of t from k) name) (lt-leb name 25 l))

pub ascend-under : (t : List ℕ) (from count k name least : ℕ) → k < count → name ≡ name_at t (from + k) → least ≡ least_of t from k → name < least
    → ascend t from count ≡ false
unfolding ascend
ascend-under t from count k name least h e f l =
    every-not count (name_ok t from) k h
    (name-test t from k name e
    ∙ ap (λ (b : Bool). leb name 25 && b) (ap (λ (n : ℕ). leb n name) (sym f) ∙ lt-leb least name l) ∙ and-false (leb name 25))

pub ascend-none : (t : List ℕ) (from : ℕ) → ascend t from 0 ≡ true
unfolding ascend every
ascend-none t from = refl

pub ascend-more : (t : List ℕ) (from k name least : ℕ) → ascend t from k ≡ true → name ≡ name_at t (from + k) → least ≡ least_of t from k → name ≤ 25
    → least ≤ name → ascend t from (k + 1) ≡ true
unfolding ascend
ascend-more t from k name least h e f a b =
    every_more k (name_ok t from) h
    (name-test t from k name e
    ∙ ap₂ (λ (x y : Bool). x && y) (le-leb name 25 a) (ap (λ (n : ℕ). leb n name) (sym f) ∙ le-leb least name b))

pub least_more : (t : List ℕ) (from k name : ℕ) → name ≡ name_at t (from + k) → name + 1 ≡ least_of t from (k + 1)
least_more t from k name e =
    let i : from + (k + 1) - 1 ≡ from + k = omega arith in
    let z : eqb (k + 1) 0 ≡ false = ne_eqb (k + 1) 0 (λ q. omega arith) in
    ap (λ (n : ℕ). n + 1) (e ∙ ap (name_at t) (sym i)) ∙ ap (λ (b : Bool). cond b 0 (name_at t (from + (k + 1) - 1) + 1)) (sym z)
