-- An entry read as one number passes the code's test exactly when the entry's fields pass those of No. 19. The number is possible bit, next state and
-- orders side by side (`field-add`), so it is zero exactly when all three are, and its head tells the first two. Assumes nothing.
use Prim.Native.Nat.{ℕ, zero, suc, ◌+◌, ◌*◌, ◌/◌, ◌%◌, ◌^◌, ◌<◌, ◌≤◌}
use mathlib.Core.Path.{◌≡◌, refl, sym, ap, ap₂, ◌∙◌}
use mathlib.Core.Bool.{Bool, true, false, cond, ◌&&◌, ◌||◌, and-true, and-false}
use mathlib.Core.List.{List}
use native.Mathlib.Nat.{mul-le-mul_right, mul-one, zero-div, lt_of_lt_of_le}
use native.Mathlib.Omega.{arith}
use borrow.Author.Tests.{lt-ltb, le-ltb, ne_eqb}
use lib.Dec.{eqb, ltb, lit<, eqb-suc-zero}
use lib.ListN.{length}
use lib.Pow.{high, pow_pos, pow_mono}
use Rattle.paper.specs.Lists.{every}
use Rattle.paper.specs.IsTable.{field}
use Rattle.fields.proofs.Fields.{field-add, field_lt}
use Rattle.entries.specs.Entries.{next_of}

-- ---- the tests on numbers

-- a sum is zero where both are
eqb-sum : (a b c : ℕ) → 0 < c → eqb (a * c + b) 0 ≡ (eqb a 0 && eqb b 0)
eqb-sum zero b c h = ap (λ (n : ℕ). eqb n 0) (none b c)
  where
    none : (b c : ℕ) → 0 * c + b ≡ b
    none b c = omega arith
eqb-sum (suc a) b c h =
    ne_eqb (suc a * c + b) 0 (λ e. some (mul-le-mul_right c (suc-le a)) e)
    ∙ ap (λ (x : Bool). x && eqb b 0) (sym (eqb-suc-zero a))
  where
    suc-le : (a : ℕ) → 1 ≤ suc a
    suc-le a = omega arith

    some : 1 * c ≤ suc a * c → suc a * c + b ≡ 0 → ⊥
    some m e = omega arith

-- ---- the code's test of an entry: possible bit p, next state n, orders o in d bits

-- with the case of an entry of zeros apart
abbrev next_or : (entry down blank : ℕ) → ℕ
next_or entry down blank = cond (eqb entry 0) blank ((entry / 2 ^ down + 512) % 1024)

zeros-pass : (e d : ℕ) → e < 67108864 → next_of e d 67108863 ≡ next_or e d 0
zeros-pass zero d h = times_zero ((0 / 2 ^ d + 512) % 1024)
  where
    times_zero : (x : ℕ) → x * ((0 + 67108863) / 67108864) ≡ 0
    times_zero x = omega arith
zeros-pass (suc e) d h =
    let f : (suc e + 67108863) / 67108864 ≡ 1 = omega arith in
    ap (λ (n : ℕ). (suc e / 2 ^ d + 512) % 1024 * n) f ∙ mul-one ((suc e / 2 ^ d + 512) % 1024)
    ∙ ap (λ (b : Bool). cond b 0 ((suc e / 2 ^ d + 512) % 1024)) (sym (eqb-suc-zero e))

zeros-fail : (e d : ℕ) → e < 67108864 → next_of e d 67108864 ≡ next_or e d 512
zeros-fail e d h =
    let f : (e + 67108864) / 67108864 ≡ 1 = omega arith in
    ap (λ (n : ℕ). (e / 2 ^ d + 512) % 1024 * n) f ∙ mul-one ((e / 2 ^ d + 512) % 1024) ∙ zero_is e
  where
    zero_is : (e : ℕ) → (e / 2 ^ d + 512) % 1024 ≡ next_or e d 512
    zero_is zero = ap (λ (n : ℕ). (n + 512) % 1024) (zero-div (2 ^ d))
    zero_is (suc e) = ap (λ (b : Bool). cond b 512 ((suc e / 2 ^ d + 512) % 1024)) (sym (eqb-suc-zero e))

abbrev entry_right : (entry down states blank : ℕ) → Bool
entry_right entry down states blank = ltb (next_or entry down blank) states

-- a test goes into both branches
ltb-cond : (b : Bool) (x y s : ℕ) → ltb (cond b x y) s ≡ cond b (ltb x s) (ltb y s)
ltb-cond true x y s = refl
ltb-cond false x y s = refl

two : (p : ℕ) → suc (suc p) < 2 → ⊥
two p h = omega arith

module _ (n o d s : ℕ) (hn : n < 512) (ho : o < 2 ^ d) (hs : 1 ≤ s) (few : s ≤ 512) where
  entry_is : (p x : ℕ) → entry_right ((p * 512 + n) * 2 ^ d + o) d s x ≡ cond (eqb (p * 512 + n) 0 && eqb o 0) (ltb x s) (ltb ((p * 512 + n + 512) % 1024) s)
  entry_is p x =
      ap₂ (λ (b : Bool) (h : ℕ). ltb (cond b x ((h + 512) % 1024)) s) (eqb-sum (p * 512 + n) o (2 ^ d) (pow_pos d)) (high (p * 512 + n) d ho)
      ∙ ltb-cond (eqb (p * 512 + n) 0 && eqb o 0) x ((p * 512 + n + 512) % 1024) s

  possible-right : (x : ℕ) → entry_right ((1 * 512 + n) * 2 ^ d + o) d s x ≡ ltb n s
  possible-right x =
      let z : eqb (1 * 512 + n) 0 ≡ false = ne_eqb (1 * 512 + n) 0 (λ e. omega arith) in
      let e : (1 * 512 + n + 512) % 1024 ≡ n = omega arith in
      entry_is 1 x ∙ ap (λ (b : Bool). cond (b && eqb o 0) (ltb x s) (ltb ((1 * 512 + n + 512) % 1024) s)) z ∙ ap (λ (k : ℕ). ltb k s) e

  zero_right : (x : ℕ) → entry_right ((0 * 512 + n) * 2 ^ d + o) d s x ≡ cond (eqb n 0 && eqb o 0) (ltb x s) false
  zero_right x =
      let e : 0 * 512 + n ≡ n = omega arith in
      let l : ltb ((0 * 512 + n + 512) % 1024) s ≡ false = le-ltb ((0 * 512 + n + 512) % 1024) s (omega arith) in
      entry_is 0 x ∙ ap₂ (λ (k : ℕ) (b : Bool). cond (eqb k 0 && eqb o 0) (ltb x s) b) e l

  -- the tests of No. 19 on the three
  module-tests : (p : ℕ) → p < 2 → entry_right ((p * 512 + n) * 2 ^ d + o) d s 0 ≡ (ltb n s && (eqb p 1 || (eqb n 0 && eqb o 0)))
  module-tests zero h = zero_right 0 ∙ ap (λ (b : Bool). cond (eqb n 0 && eqb o 0) b false) (lt-ltb 0 s hs) ∙ zero_next n o s hs
    where
      same : (b : Bool) → cond b true false ≡ b
      same true = refl
      same false = refl

      zero_next : (n o s : ℕ) → 1 ≤ s → cond (eqb n 0 && eqb o 0) true false ≡ (ltb n s && (eqb n 0 && eqb o 0))
      zero_next zero o s h = same (eqb o 0) ∙ ap (λ (b : Bool). b && eqb o 0) (sym (lt-ltb 0 s h))
      zero_next (suc n) o s h = rw eqb-suc-zero (sym (and-false (ltb (suc n) s)))
  module-tests (suc zero) h = possible-right 0 ∙ sym (and-true (ltb n s))
  module-tests (suc (suc p)) h = absurd (two p h)

  event-tests : (p : ℕ) → p < 2 → entry_right ((p * 512 + n) * 2 ^ d + o) d s 512 ≡ ((ltb n s && (eqb p 1 || (eqb n 0 && eqb o 0))) && eqb p 1)
  event-tests zero h =
      zero_right 512 ∙ ap (λ (b : Bool). cond (eqb n 0 && eqb o 0) b false) (le-ltb 512 s few) ∙ none (eqb n 0 && eqb o 0)
      ∙ sym (and-false (ltb n s && (eqb n 0 && eqb o 0)))
    where
      none : (b : Bool) → cond b false false ≡ false
      none true = refl
      none false = refl
  event-tests (suc zero) h = possible-right 512 ∙ sym (and-true (ltb n s)) ∙ sym (and-true (ltb n s && true))
  event-tests (suc (suc p)) h = absurd (two p h)

-- ---- the entry's fields

orders-zero : (t : List ℕ) (at m : ℕ) → at + 2 * m ≤ 8 * length t → every m (λ k. eqb (field t (at + 2 * k) 2) 0) ≡ eqb (field t at (2 * m)) 0
unfolding every
orders-zero t at zero h = ap (λ (n : ℕ). eqb n 0) (sym (small (field_lt t at (2 * 0))))
  where
    small : field t at (2 * 0) < 1 → field t at (2 * 0) ≡ 0
    small l = omega arith
orders-zero t at (suc m) h =
    let e : 2 * suc m ≡ 2 * m + 2 = omega arith in
    ap (λ (b : Bool). b && eqb (field t (at + 2 * m) 2) 0) (orders-zero t at m (omega arith))
    ∙ sym (eqb-sum (field t at (2 * m)) (field t (at + 2 * m) 2) 4 (lit< tt))
    ∙ ap (λ (n : ℕ). eqb n 0) (sym (ap (field t at) e ∙ field-add t at (2 * m) 2 (omega arith)))

-- an entry is a small number
pub entry_small : (t : List ℕ) (at d : ℕ) → d ≤ 16 → field t at (10 + d) < 67108864
entry_small t at d h = lt_of_lt_of_le (field_lt t at (10 + d)) (pow_mono {j = 26} (omega arith))

module _ (t : List ℕ) (at m s : ℕ) (within : at + (10 + 2 * m) ≤ 8 * length t) (narrow : m ≤ 8) (some : 1 ≤ s) (few : s ≤ 512) where
  entry-fields : field t at (10 + 2 * m) ≡ (field t at 1 * 512 + field t (at + 1) 9) * 2 ^ (2 * m) + field t (at + 10) (2 * m)
  entry-fields =
      field-add t at 10 (2 * m) (omega arith)
      ∙ ap (λ (n : ℕ). n * 2 ^ (2 * m) + field t (at + 10) (2 * m)) (field-add t at 1 9 (omega arith))

  orders_are : every m (λ k. eqb (field t (at + 10 + 2 * k) 2) 0) ≡ eqb (field t (at + 10) (2 * m)) 0
  orders_are = orders-zero t (at + 10) m (omega arith)

  small : field t at (10 + 2 * m) < 67108864
  small = entry_small t at (2 * m) (omega arith)

  pub module-entry : ltb (next_of (field t at (10 + 2 * m)) (2 * m) 67108863) s
      ≡ (ltb (field t (at + 1) 9) s && (eqb (field t at 1) 1 || (eqb (field t (at + 1) 9) 0 && every m (λ k. eqb (field t (at + 10 + 2 * k) 2) 0))))
  module-entry =
      ap (λ (n : ℕ). ltb n s) (zeros-pass (field t at (10 + 2 * m)) (2 * m) small) ∙ ap (λ (e : ℕ). entry_right e (2 * m) s 0) entry-fields
      ∙ module-tests (field t (at + 1) 9) (field t (at + 10) (2 * m)) (2 * m) s (field_lt t (at + 1) 9) (field_lt t (at + 10) (2 * m)) some few
      (field t at 1) (field_lt t at 1)
      ∙ ap (λ (b : Bool). ltb (field t (at + 1) 9) s && (eqb (field t at 1) 1 || (eqb (field t (at + 1) 9) 0 && b))) (sym orders_are)

  pub event-entry : ltb (next_of (field t at (10 + 2 * m)) (2 * m) 67108864) s
      ≡ ((ltb (field t (at + 1) 9) s && (eqb (field t at 1) 1 || (eqb (field t (at + 1) 9) 0 && every m (λ k. eqb (field t (at + 10 + 2 * k) 2) 0))))
      && eqb (field t at 1) 1)
  event-entry =
      ap (λ (n : ℕ). ltb n s) (zeros-fail (field t at (10 + 2 * m)) (2 * m) small) ∙ ap (λ (e : ℕ). entry_right e (2 * m) s 512) entry-fields
      ∙ event-tests (field t (at + 1) 9) (field t (at + 10) (2 * m)) (2 * m) s (field_lt t (at + 1) 9) (field_lt t (at + 10) (2 * m)) some few
      (field t at 1) (field_lt t at 1)
      ∙ ap
      (λ (b : Bool). (ltb (field t (at + 1) 9) s && (eqb (field t at 1) 1 || (eqb (field t (at + 1) 9) 0 && b))) && eqb (field t at 1) 1)
      (sym orders_are)
