-- How tests go together: what `not`, `&&` and `||` tell of their parts. By cases. Assumes nothing.
use Prim.Native.Nat.{ℕ, ◌+◌}
use mathlib.Core.Path.{◌≡◌, refl, sym, ap, ap₂, ◌∙◌}
use mathlib.Core.Bool.{Bool, true, false, cond, not, ◌&&◌, ◌||◌}
use mathlib.Core.Logic.{◌⊎◌, inl, inr}
use native.Mathlib.Numerals.{add-one}
use borrow.Author.Tests.{not-true, not-false}
use lib.Dec.{leb, ltb, leb-zero}

pub not-not : (b : Bool) → not (not b) ≡ b
not-not true = refl
not-not false = refl

pub or_left : (a b : Bool) → a ≡ true → (a || b) ≡ true
or_left a b h = ap (λ (x : Bool). x || b) h

pub or_right : (a b : Bool) → b ≡ true → (a || b) ≡ true
or_right true b h = refl
or_right false b h = h

pub or_cases : (a b : Bool) → (a || b) ≡ true → (a ≡ true) ⊎ (b ≡ true)
or_cases true b h = inl refl
or_cases false b h = inr h

pub not-or : (a b : Bool) → not (a || b) ≡ true → (a ≡ false) × (b ≡ false)
not-or true b h = (sym h, at b h)
  where
    at : (b : Bool) → false ≡ true → b ≡ false
    at true h = sym h
    at false h = refl
not-or false true h = (refl, sym h)
not-or false false h = (refl, refl)

pub and_both : (a b : Bool) → (a && b) ≡ true → (a ≡ true) × (b ≡ true)
and_both true b h = (refl, h)
and_both false true h = (h, refl)
and_both false false h = (h, h)

-- three conditions, each told as what breaks it
pub not_three : (a b c : Bool) → not (not a || not b || not c) ≡ (a && b && c)
not_three true true c = not-not c
not_three true false c = refl
not_three false b c = refl

-- above the one before, if there is one: at least the least
pub least-test : (b : Bool) (prev name : ℕ) → (b || ltb prev name) ≡ leb (cond b 0 (prev + 1)) name
least-test true prev name = sym (leb-zero name)
least-test false prev name = ap (λ (n : ℕ). leb n name) (sym (add-one prev))

pub third : (a b c : Bool) → a ≡ true → b ≡ true → c ≡ (a && b && c)
third a b c h g = sym (ap₂ (λ (x y : Bool). x && y && c) h g)

pub second : (a b c : Bool) → a ≡ true → c ≡ b → c ≡ (a && b)
second a b c h g = g ∙ sym (ap (λ (x : Bool). x && b) h)

pub first-fails : (a b : Bool) → a ≡ false → false ≡ (a && b)
first-fails a b h = sym (ap (λ (x : Bool). x && b) h)

-- what a part of the check answers, and the code's test of it
pub broken : (r b : Bool) → r ≡ not b → not r ≡ true → b ≡ true
broken r b e h = not-false b (sym e ∙ not-true r h)

pub kept : (r b : Bool) → r ≡ not b → not r ≡ false → not b ≡ true
kept r b e h = sym e ∙ not-false r h
