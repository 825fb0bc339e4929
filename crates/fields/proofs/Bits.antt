-- Bit lists: their lengths, their parts, and the numbers they write. Each law is over the width: a part of the bits of a number is the bits of its
-- quotient, and the bits of two numbers side by side are those of one. Assumes nothing.
use mathlib.Core.Path.{◌≡◌, refl, sym, ap, ap₂, ◌∙◌}
use mathlib.Core.List.{List, [], ◌∷◌, ◌++◌, append_assoc}
use Prim.Native.Nat.{ℕ, zero, suc, ◌+◌, ◌*◌, ◌/◌, ◌%◌, ◌^◌, ◌<◌}
use native.Mathlib.Nat.{zero-add, suc-add, add_assoc, add_comm, mul_assoc, mul_comm, add-mul, pow-suc, mul-add-div_right, mul-add-mod_self_right}
use native.Mathlib.Numerals.{one-add}
use native.Mathlib.Omega.{arith}
use lib.ListN.{length, take, drop, length-append, take-append-drop}
use lib.Seq.{drop_at, drop-nil, drop-drop}
use lib.Pow.{pow_pos, shr-shr, high, mod-pow-add}
use Rattle.paper.specs.Lists.{gather}
use Rattle.paper.specs.Table.{bits}
use Rattle.paper.specs.IsTable.{bits_of, number_from}

pub bits-length : (w v : ℕ) → length (bits w v) ≡ w
unfolding bits
bits-length zero v = refl
bits-length (suc w) v = ap suc (bits-length w v)

pub bits_of-length : (s : List ℕ) → length (bits_of s) ≡ 8 * length s
unfolding bits_of gather
bits_of-length [] = refl
bits_of-length (x ∷ xs) = simp (length-append, bits-length, bits_of-length xs) (omega arith)

pub bits_of-append : (s t : List ℕ) → bits_of (s ++ t) ≡ bits_of s ++ bits_of t
unfolding bits_of gather
bits_of-append [] t = refl
bits_of-append (x ∷ xs) t = ap (λ (r : List ℕ). bits 8 x ++ r) (bits_of-append xs t) ∙ sym (append_assoc (bits 8 x) (bits_of xs) (bits_of t))

-- whole bytes are dropped at once
pub bits_of-drop : (i : ℕ) (s : List ℕ) → drop (i * 8) (bits_of s) ≡ bits_of (drop i s)
unfolding bits_of gather
bits_of-drop zero s = refl
bits_of-drop (suc i) [] = drop-nil (suc i * 8)
bits_of-drop (suc i) (x ∷ xs) =
    let e : suc i * 8 ≡ 8 + i * 8 = omega arith in
    ap (λ (n : ℕ). drop n (bits 8 x ++ bits_of xs)) e ∙ sym (drop-drop (i * 8) 8 (bits 8 x ++ bits_of xs))
    ∙ ap (drop (i * 8)) (drop_at (bits 8 x) (bits_of xs) 8 (bits-length 8 x)) ∙ bits_of-drop i xs

-- ---- the bits of a number: a part of them, two numbers side by side

pub bits-drop : (j n v : ℕ) → drop j (bits (j + n) v) ≡ bits n v
unfolding bits
bits-drop zero n v = ap (λ (k : ℕ). bits k v) (zero-add n)
bits-drop (suc j) n v = ap (λ (k : ℕ). drop (suc j) (bits k v)) (suc-add j n) ∙ bits-drop j n v

pub bits-take : (w n v : ℕ) → take w (bits (w + n) v) ≡ bits w (v / 2 ^ n)
unfolding bits
bits-take zero n v = refl
bits-take (suc w) n v =
    let e : v / 2 ^ (w + n) ≡ v / 2 ^ n / 2 ^ w = ap (λ (k : ℕ). v / 2 ^ k) (add_comm w n) ∙ sym (shr-shr v n w) in
    ap (λ (k : ℕ). take (suc w) (bits k v)) (suc-add w n)
    ∙ ap₂ (λ (b : ℕ) (r : List ℕ). (b % 2) ∷ r) e (bits-take w n v)

-- the w low bits do not tell what stands above them
pub bits-low : (w a v : ℕ) → bits w (a * 2 ^ w + v) ≡ bits w v
unfolding bits
bits-low zero a v = refl
bits-low (suc w) a v =
    let e : a * 2 ^ suc w ≡ (a * 2) * 2 ^ w = ap (λ (n : ℕ). a * n) (pow-suc 2 w ∙ mul_comm (2 ^ w) 2) ∙ sym (mul_assoc a 2 (2 ^ w)) in
    let h : (a * 2 * 2 ^ w + v) / 2 ^ w % 2 ≡ v / 2 ^ w % 2 =
    ap (λ (n : ℕ). n % 2) (mul-add-div_right (pow_pos w) (a * 2) v) ∙ mul-add-mod_self_right a 2 (v / 2 ^ w)
    in
    ap (λ (n : ℕ). ((n + v) / 2 ^ w % 2) ∷ bits w (n + v)) e ∙ ap₂ (λ (b : ℕ) (r : List ℕ). b ∷ r) h (bits-low w (a * 2) v)

pub bits-join : (a b x y : ℕ) → y < 2 ^ b → bits (a + b) (x * 2 ^ b + y) ≡ bits a x ++ bits b y
bits-join a b x y h =
    let n : ℕ = x * 2 ^ b + y in
    sym (take-append-drop a (bits (a + b) n))
    ∙ ap₂ (λ (l r : List ℕ). l ++ r) (bits-take a b n ∙ ap (bits a) (high x b h)) (bits-drop a b n ∙ bits-low b x y)

-- ---- the number of a list of bits

pub number_append : (n : ℕ) (xs ys : List ℕ) → number_from n (xs ++ ys) ≡ number_from (number_from n xs) ys
unfolding number_from
number_append n [] ys = refl
number_append n (x ∷ xs) ys = number_append (n * 2 + x) xs ys

pub number-bits : (a w v : ℕ) → number_from a (bits w v) ≡ a * 2 ^ w + v % 2 ^ w
unfolding bits number_from
number-bits a zero v = omega arith
number-bits a (suc w) v =
    let b : ℕ = v / 2 ^ w % 2 in
    let p : 2 ^ suc w ≡ 2 * 2 ^ w = pow-suc 2 w ∙ mul_comm (2 ^ w) 2 in
    let m : v % 2 ^ suc w ≡ b * 2 ^ w + v % 2 ^ w = ap (λ (n : ℕ). v % 2 ^ n) (sym (one-add w)) ∙ mod-pow-add v 1 w in
    number-bits (a * 2 + b) w v
    ∙ ap (λ (n : ℕ). n + v % 2 ^ w) (add-mul (a * 2) b (2 ^ w)) ∙ add_assoc (a * 2 * 2 ^ w) (b * 2 ^ w) (v % 2 ^ w)
    ∙ ap₂ (λ (x y : ℕ). x + y) (mul_assoc a 2 (2 ^ w) ∙ ap (λ (n : ℕ). a * n) (sym p)) (sym m)

pub number_is : (w v : ℕ) → number_from 0 (bits w v) ≡ v % 2 ^ w
number_is w v = number-bits 0 w v ∙ no_more (2 ^ w) (v % 2 ^ w)
  where
    no_more : (p n : ℕ) → 0 * p + n ≡ n
    no_more p n = omega arith
