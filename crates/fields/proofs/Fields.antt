-- Fields side by side are one field (`field-add`), and a field of w bits is below 2 ^ w (`field_lt`): both from the same laws of the number that bits
-- write. Assumes nothing.
use mathlib.Core.Path.{◌≡◌, sym, ap, ◌∙◌, subst}
use mathlib.Core.List.{List, [], ◌∷◌, ◌++◌}
use Prim.Native.Nat.{ℕ, zero, suc, ◌+◌, ◌*◌, ◌/◌, ◌^◌, ◌≤◌, ◌<◌}
use native.Mathlib.Nat.{add_assoc, mul_assoc, mul_comm, add-mul, pow-suc, mod-lt, lt_of_lt_of_le, mul-le-mul_right, mul-le-mul_left}
use native.Mathlib.Omega.{arith}
use lib.ListN.{length, get_or, take, drop, length-drop}
use lib.Seq.{drop-drop, take-add, length-take-le}
use lib.Pow.{pow_pos}
use lib.Dec.{lit<}
use Rattle.paper.specs.Lists.{gather}
use Rattle.paper.specs.Table.{bits}
use Rattle.paper.specs.IsTable.{bits_of, number_from, field}
use Rattle.fields.proofs.Bits.{bits_of-length, number_append}

-- ---- fields side by side

pub number-from : (n : ℕ) (l : List ℕ) → number_from n l ≡ n * 2 ^ length l + number_from 0 l
unfolding number_from
number-from n [] = omega arith
number-from n (x ∷ xs) =
    let p : ℕ = 2 ^ length xs in
    let e : 2 ^ suc (length xs) ≡ 2 * p = pow-suc 2 (length xs) ∙ mul_comm p 2 in
    number-from (n * 2 + x) xs
    ∙ ap (λ (k : ℕ). k + number_from 0 xs) (add-mul (n * 2) x p ∙ ap (λ (k : ℕ). k + x * p) (mul_assoc n 2 p ∙ ap (λ (k : ℕ). n * k) (sym e)))
    ∙ add_assoc (n * 2 ^ suc (length xs)) (x * p) (number_from 0 xs)
    ∙ ap (λ (k : ℕ). n * 2 ^ suc (length xs) + k) (ap (λ (k : ℕ). k * p + number_from 0 xs) (none x) ∙ sym (number-from (0 * 2 + x) xs))
  where
    none : (x : ℕ) → x ≡ 0 * 2 + x
    none x = omega arith

pub field-add : (t : List ℕ) (at a b : ℕ) → at + a + b ≤ 8 * length t → field t at (a + b) ≡ field t at a * 2 ^ b + field t (at + a) b
unfolding field
field-add t at a b h =
    let l : List ℕ = drop at (bits_of t) in
    let r : List ℕ = take b (drop (at + a) (bits_of t)) in
    let hb : b ≤ length (drop (at + a) (bits_of t)) = simp (length-drop, bits_of-length) (omega arith) in
    let n : length r ≡ b = length-take-le b (drop (at + a) (bits_of t)) hb in
    ap (number_from 0) (take-add a b l ∙ ap (λ (k : List ℕ). take a l ++ take b k) (drop-drop a at (bits_of t)))
    ∙ number_append 0 (take a l) r ∙ number-from (number_from 0 (take a l)) r
    ∙ ap (λ (k : ℕ). number_from 0 (take a l) * 2 ^ k + number_from 0 r) n

-- ---- a field's bound

-- each is 0 or 1
abbrev pub AreBits : List ℕ → Type 0
AreBits l = (i : ℕ) → get_or l i 0 < 2

pub bits_are : (w v : ℕ) (r : List ℕ) → AreBits r → AreBits (bits w v ++ r)
unfolding bits
bits_are zero v r h i = h i
bits_are (suc w) v r h zero = mod-lt (v / 2 ^ w) (lit< tt)
bits_are (suc w) v r h (suc i) = bits_are w v r h i

pub bits_of-are : (s : List ℕ) → AreBits (bits_of s)
unfolding bits_of gather
bits_of-are [] i = lit< tt
bits_of-are (x ∷ xs) i = bits_are 8 x (bits_of xs) (bits_of-are xs) i

pub drop-are : (n : ℕ) (l : List ℕ) → AreBits l → AreBits (drop n l)
drop-are zero l h i = h i
drop-are (suc n) [] h i = h i
drop-are (suc n) (x ∷ xs) h i = drop-are n xs (λ j. h (suc j)) i

pub number_lt : (n w : ℕ) (l : List ℕ) → AreBits l → number_from n (take w l) < (n + 1) * 2 ^ w
unfolding number_from
number_lt n zero l h = omega arith
number_lt n (suc w) [] h = omega (arith, mul-le-mul_left (n + 1) (pow_pos (suc w)))
number_lt n (suc w) (x ∷ xs) h =
    let b : x < 2 = h 0 in
    let m : (n * 2 + x + 1) * 2 ^ w ≤ ((n + 1) * 2) * 2 ^ w = mul-le-mul_right (2 ^ w) (omega arith) in
    let e : ((n + 1) * 2) * 2 ^ w ≡ (n + 1) * 2 ^ suc w = mul_assoc (n + 1) 2 (2 ^ w) ∙ ap (λ (k : ℕ). (n + 1) * k) (mul_comm 2 (2 ^ w) ∙ sym (pow-suc 2 w)) in
    lt_of_lt_of_le (number_lt (n * 2 + x) w xs (λ i. h (suc i))) (subst (λ (k : ℕ). (n * 2 + x + 1) * 2 ^ w ≤ k) e m)

pub field_lt : (t : List ℕ) (at w : ℕ) → field t at w < 2 ^ w
unfolding field
field_lt t at w = subst (λ (k : ℕ). field t at w < k) (one-times (2 ^ w)) (number_lt 0 w (drop at (bits_of t)) (drop-are at (bits_of t) (bits_of-are t)))
  where
    one-times : (p : ℕ) → (0 + 1) * p ≡ p
    one-times p = omega arith
