-- What of the numbers below n passes a test, and how many: the next number joins at the end where it passes. Two tests have at most as many together
-- as one and the other. Assumes nothing.
use Prim.Native.Nat.{ℕ, zero, suc, ◌+◌, ◌-◌, ◌<◌, ◌≤◌}
use mathlib.Core.Path.{◌≡◌, refl, sym, ap, ◌∙◌}
use mathlib.Core.Bool.{Bool, true, false, ◌||◌}
use mathlib.Core.List.{List, [], ◌∷◌, ◌++◌, append-nil}
use native.Mathlib.Nat.{add-zero}
use native.Mathlib.Numerals.{add-one}
use native.Mathlib.Omega.{arith}
use lib.Dec.{eqb}
use lib.ListN.{length, set, replicate, length-append}
use borrow.Author.Tests.{eqb-true}
use Rattle.paper.specs.Lists.{with_if, keep, from, below}
use Rattle.letters.specs.declared.Names.{Names}
use Rattle.letters.specs.Letters.{names_of}
use Rattle.letters.proofs.Padded.{padded, padded-more}

from-snoc : (k n : ℕ) → from k (suc n) ≡ from k n ++ ((k + n) ∷ [])
unfolding from
from-snoc k zero = ap (λ (m : ℕ). m ∷ []) (sym (add-zero k))
from-snoc k (suc n) =
    let e : suc k + n ≡ k + suc n = omega arith in
    ap (λ (l : List ℕ). k ∷ l) (from-snoc (suc k) n ∙ ap (λ (m : ℕ). from (suc k) n ++ (m ∷ [])) e)

with-if-append : (t : Bool) (x : ℕ) (xs ys : List ℕ) → with_if t x (xs ++ ys) ≡ with_if t x xs ++ ys
with-if-append true x xs ys = refl
with-if-append false x xs ys = refl

keep_append : (f : ℕ → Bool) (xs ys : List ℕ) → keep f (xs ++ ys) ≡ keep f xs ++ keep f ys
unfolding keep
keep_append f [] ys = refl
keep_append f (x ∷ xs) ys = ap (with_if (f x) x) (keep_append f xs ys) ∙ with-if-append (f x) x (keep f xs) (keep f ys)

pub keep-more : (f : ℕ → Bool) (n : ℕ) → keep f (below (suc n)) ≡ keep f (below n) ++ with_if (f n) n []
unfolding below keep
keep-more f n =
    let e : 0 + n ≡ n = omega arith in
    ap (keep f) (from-snoc 0 n ∙ ap (λ (m : ℕ). from 0 n ++ (m ∷ [])) e) ∙ keep_append f (from 0 n) (n ∷ [])

unfoldable pub tally : (ℕ → Bool) → ℕ → ℕ
tally f n = length (keep f (below n))

abbrev pub bit : Bool → ℕ
bit true = 1
bit false = 0

with-if-length : (t : Bool) (n : ℕ) → length (with_if t n []) ≡ bit t
with-if-length true n = refl
with-if-length false n = refl

tally-more : (f : ℕ → Bool) (n : ℕ) → tally f (suc n) ≡ tally f n + bit (f n)
unfolding tally
tally-more f n =
    ap length (keep-more f n)
    ∙ (length-append (keep f (below n)) (with_if (f n) n []) ∙ ap (λ (k : ℕ). length (keep f (below n)) + k) (with-if-length (f n) n))

pub tally-least : (f : ℕ → Bool) (n k : ℕ) → tally f n ≤ tally f (n + k)
tally-least f n zero = let e : tally f n ≡ tally f (n + 0) = ap (tally f) (sym (add-zero n)) in omega arith
tally-least f n (suc k) =
    let e : n + suc k ≡ suc (n + k) = omega arith in
    omega (arith, ap (tally f) e, tally-more f (n + k), tally-least f n k)

pub keep_same : (f g : ℕ → Bool) (n : ℕ) → ((l : ℕ) → l < n → f l ≡ g l) → keep f (below n) ≡ keep g (below n)
unfolding below keep from
keep_same f g zero h = refl
keep_same f g (suc n) h =
    keep-more f n
    ∙ (ap (λ (l : List ℕ). l ++ with_if (f n) n []) (keep_same f g n (λ l p. h l (omega arith)))
    ∙ (ap (λ (t : Bool). keep g (below n) ++ with_if t n []) (h n (omega arith)) ∙ sym (keep-more g n)))

pub tally-same : (f g : ℕ → Bool) (n : ℕ) → ((l : ℕ) → l < n → f l ≡ g l) → tally f n ≡ tally g n
unfolding tally
tally-same f g n h = ap length (keep_same f g n h)

pub tally-none : (n : ℕ) → tally (λ l. false) n ≡ 0
unfolding tally below keep from
tally-none zero = refl
tally-none (suc n) = tally-more (λ l. false) n ∙ (add-zero (tally (λ l. false) n) ∙ tally-none n)

bit_or : (a b : Bool) → bit (a || b) ≤ bit a + bit b
bit_or true true = omega arith
bit_or true false = omega arith
bit_or false true = omega arith
bit_or false false = omega arith

tally-or : (e f : ℕ → Bool) (n : ℕ) → tally (λ l. e l || f l) n ≤ tally e n + tally f n
unfolding tally below keep from
tally-or e f zero = omega arith
tally-or e f (suc n) =
    omega (arith, tally-more (λ l. e l || f l) n, tally-more e n, tally-more f n, bit_or (e n) (f n), tally-or e f n)

-- one number passes "is b"
tally-is-by : (base b n k : ℕ) (t : Bool) → eqb (base + n) b ≡ t → (k ≤ 1) × (k ≤ base + n - b) → (k + bit t ≤ 1) × (k + bit t ≤ base + suc n - b)
tally-is-by base b n k true e h = (omega (arith, eqb-true (base + n) b e), omega (arith, eqb-true (base + n) b e))
tally-is-by base b n k false e h = (omega arith, omega arith)

tally-is : (base b n : ℕ) → (tally (λ l. eqb (base + l) b) n ≤ 1) × (tally (λ l. eqb (base + l) b) n ≤ base + n - b)
unfolding tally below keep from
tally-is base b zero = (omega arith, omega arith)
tally-is base b (suc n) =
    let r = tally-is-by base b n (tally (λ l. eqb (base + l) b) n) (eqb (base + n) b) refl (tally-is base b n) in
    let m = tally-more (λ l. eqb (base + l) b) n in
    (omega (arith, m, r.0), omega (arith, m, r.1))

pub tally-one-more : (base b : ℕ) (f : ℕ → Bool) (n : ℕ) → tally (λ l. eqb (base + l) b || f l) n ≤ tally f n + 1
tally-one-more base b f n = omega (arith, tally-or (λ l. eqb (base + l) b) f n, (tally-is base b n).0)

pub names-is : (ls : List ℕ) (k : ℕ) (xs : List ℕ) → ls ≡ padded 8 0 xs → k ≡ length xs → ◌≡◌ {A = Names} (record { letters = ls; count = k }) (names_of xs)
unfolding padded
names-is ls k xs p q =
    ap {B = Names} (λ x. record { letters = x; count = k }) p
    ∙ ap {B = Names} (λ n. record { letters = xs ++ replicate (8 - length xs) 0; count = n }) q

-- a turn over the flags: the number l passes and is stored, or does not
module _ (f : ℕ → Bool) (l count : ℕ) (letters : List ℕ) (counts : count ≡ length (keep f (below l))) (holds : letters ≡ padded 8 0 (keep f (below l))) where
  joined : (t : Bool) → f l ≡ t → keep f (below (l + 1)) ≡ keep f (below l) ++ with_if t l []
  joined t e =
      ap (λ (n : ℕ). keep f (below n)) (add-one l) ∙ (keep-more f l ∙ ap (λ (u : Bool). keep f (below l) ++ with_if u l []) e)

  pub collect-room : f l ≡ true → l < 26 → length (keep f (below 26)) ≤ 8 → count < 8
  unfolding tally
  collect-room e h few =
      let k : suc l + (26 - suc l) ≡ 26 = omega arith in
      omega (arith, few, ap (tally f) k, tally-least f (suc l) (26 - suc l), tally-more f l, ap bit e)

  pub collect-on : f l ≡ true → count < 8 → (count + 1 ≡ length (keep f (below (l + 1)))) × (set letters count l ≡ padded 8 0 (keep f (below (l + 1))))
  collect-on e h = (
    omega (arith, ap length (joined true e), length-append (keep f (below l)) (l ∷ [])),
    ap (λ (x : List ℕ). set x count l) holds ∙ (padded-more 8 0 (keep f (below l)) l count counts h ∙ ap (padded 8 0) (sym (joined true e))),
  )

  pub collect-off : f l ≡ false → (count ≡ length (keep f (below (l + 1)))) × (letters ≡ padded 8 0 (keep f (below (l + 1))))
  collect-off e =
      let j : keep f (below (l + 1)) ≡ keep f (below l) = joined false e ∙ append-nil (keep f (below l)) in
      (counts ∙ ap length (sym j), holds ∙ ap (padded 8 0) (sym j))
