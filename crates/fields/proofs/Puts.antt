-- A byte with one bit changed, and a field written bit by bit. What stands above, at and below the changed bit is told apart by quotients
-- (`put-above`, `put_same`, `put-below`); one law over the width then says which bits a number has. Assumes nothing.
use mathlib.Core.Path.{◌≡◌, sym, ap, ap₂, ◌∙◌, subst}
use mathlib.Core.Logic.{◌⊎◌, inl, inr}
use mathlib.Core.List.{List, [], ◌∷◌, ◌++◌}
use Prim.Native.Nat.{ℕ, zero, suc, ◌+◌, ◌-◌, ◌*◌, ◌/◌, ◌%◌, ◌^◌, ◌≤◌, ◌<◌}
use native.Mathlib.Nat.{zero-add, suc-add, mul_assoc, add-mul, le_of_suc-le-suc, not-suc-le-zero, mod-lt, lt_of_le_of_lt, one-mul, add_comm}
use native.Mathlib.Numerals.{add-one}
use native.Mathlib.Decide.{dec_lt}
use native.Mathlib.Omega.{arith}
use lib.ListN.{length, get_or, set, length-set, get_or-append}
use lib.Seq.{get_or-append-add, get_or-set_same, get_or-set_other, ext_get_or, set-append_left, paste, paste-suc}
use lib.Arith.{digits_lt}
use lib.Pow.{pow_pos, pow-add, shr-shr, high, low, field, mod-mod-pow, shl_exact, shl_lt, shr_le, shr_lt}
use lib.Dec.{lit<}
use lib.Bits.{bit_and, bit_or, and_mask, or_shifted}
use Rattle.paper.specs.Lists.{gather}
use Rattle.paper.specs.Table.{bits}
use Rattle.paper.specs.IsTable.{bits_of}
use Rattle.fields.specs.Window.{put_bit}
use Rattle.fields.proofs.Bits.{bits-length, bits_of-length}

-- the bit at place j of w bits_of
pub bits_at : (w v j : ℕ) → j < w → get_or (bits w v) j 0 ≡ v / 2 ^ (w - 1 - j) % 2
unfolding bits
bits_at zero v j h = absurd (not-suc-le-zero h)
bits_at (suc w) v zero h = ap (λ (n : ℕ). v / 2 ^ n % 2) (omega arith)
bits_at (suc w) v (suc j) h = bits_at w v j (le_of_suc-le-suc h) ∙ ap (λ (n : ℕ). v / 2 ^ n % 2) (omega arith)

pub bits_of-at : (s : List ℕ) (i j : ℕ) → i < length s → j < 8 → get_or (bits_of s) (i * 8 + j) 0 ≡ get_or (bits 8 (get_or s i 0)) j 0
unfolding bits_of gather
bits_of-at [] i j h l = absurd (not-suc-le-zero h)
bits_of-at (x ∷ xs) zero j h l =
    let l' : j < length (bits 8 x) = rw bits-length l in
    ap (λ (n : ℕ). get_or (bits 8 x ++ bits_of xs) n 0) (zero-add j) ∙ get_or-append (bits 8 x) (bits_of xs) 0 j l'
bits_of-at (x ∷ xs) (suc i) j h l =
    let e : suc i * 8 + j ≡ length (bits 8 x) + (i * 8 + j) = rw bits-length (omega arith) in
    ap (λ (n : ℕ). get_or (bits 8 x ++ bits_of xs) n 0) e ∙ get_or-append-add (bits 8 x) (bits_of xs) (i * 8 + j) 0
    ∙ bits_of-at xs i j (le_of_suc-le-suc h) l

set-append-add : (xs ys : List ℕ) (n a : ℕ) → set (xs ++ ys) (length xs + n) a ≡ xs ++ set ys n a
set-append-add [] ys n a = ap (λ (k : ℕ). set ys k a) (zero-add n)
set-append-add (x ∷ xs) ys n a =
    ap (λ (k : ℕ). set (x ∷ (xs ++ ys)) k a) (suc-add (length xs) n) ∙ ap (λ (r : List ℕ). x ∷ r) (set-append-add xs ys n a)

-- a byte is replaced by one whose bits_of differ at place j alone
pub bits_of-set : (s : List ℕ) (i j x v : ℕ) → i < length s → j < 8 → bits 8 x ≡ set (bits 8 (get_or s i 0)) j v
    → bits_of (set s i x) ≡ set (bits_of s) (i * 8 + j) v
unfolding bits_of gather
bits_of-set [] i j x v h l e = absurd (not-suc-le-zero h)
bits_of-set (y ∷ ys) zero j x v h l e =
    let l' : j < length (bits 8 y) = rw bits-length l in
    ap (λ (r : List ℕ). r ++ bits_of ys) e ∙ sym (set-append_left (bits 8 y) (bits_of ys) j v l')
    ∙ ap (λ (n : ℕ). set (bits 8 y ++ bits_of ys) n v) (sym (zero-add j))
bits_of-set (y ∷ ys) (suc i) j x v h l e =
    let q : length (bits 8 y) + (i * 8 + j) ≡ suc i * 8 + j = rw bits-length (omega arith) in
    ap (λ (r : List ℕ). bits 8 y ++ r) (bits_of-set ys i j x v (le_of_suc-le-suc h) l e)
    ∙ sym (set-append-add (bits 8 y) (bits_of ys) (i * 8 + j) v)
    ∙ ap (λ (n : ℕ). set (bits 8 y ++ bits_of ys) n v) q

-- ---- a number with the bit at place p from the low end put to v
-- the bits_of above p, p itself, and those below
put-above : (x p v q : ℕ) → v < 2 → p < q → put_bit x p v / 2 ^ q ≡ x / 2 ^ q
put-above x p v q hv h =
    let r : ℕ = q - (p + 1) in
    let e : (p + 1) + r ≡ q = omega arith in
    let d : put_bit x p v / 2 ^ (p + 1) ≡ x / 2 ^ (p + 1) =
    sym (shr-shr (put_bit x p v) p 1) ∙ ap (λ (n : ℕ). n / 2) (high (x / 2 ^ (p + 1) * 2 + v) p (mod-lt x (pow_pos p))) ∙ high (x / 2 ^ (p + 1)) 1 hv
    in
    ap (λ (n : ℕ). put_bit x p v / 2 ^ n) (sym e) ∙ sym (shr-shr (put_bit x p v) (p + 1) r)
    ∙ ap (λ (n : ℕ). n / 2 ^ r) d ∙ shr-shr x (p + 1) r ∙ ap (λ (n : ℕ). x / 2 ^ n) e

put_same : (x p v : ℕ) → v < 2 → put_bit x p v / 2 ^ p % 2 ≡ v
put_same x p v hv =
    ap (λ (n : ℕ). n % 2) (high (x / 2 ^ (p + 1) * 2 + v) p (mod-lt x (pow_pos p))) ∙ low (x / 2 ^ (p + 1)) 1 hv

-- a bit below p is told by the p low bits_of
by-low : (x p q : ℕ) → q < p → x / 2 ^ q % 2 ≡ x % 2 ^ p % 2 ^ (1 + q) / 2 ^ q
by-low x p q h =
    let r : ℕ = p - (1 + q) in
    let e : r + (1 + q) ≡ p = omega arith in
    sym (field x 1 q) ∙ ap (λ (n : ℕ). n / 2 ^ q) (sym (mod-mod-pow x r (1 + q))) ∙ ap (λ (n : ℕ). x % 2 ^ n % 2 ^ (1 + q) / 2 ^ q) e

put-below : (x p v q : ℕ) → q < p → put_bit x p v / 2 ^ q % 2 ≡ x / 2 ^ q % 2
put-below x p v q h =
    by-low (put_bit x p v) p q h
    ∙ ap (λ (n : ℕ). n % 2 ^ (1 + q) / 2 ^ q) (low (x / 2 ^ (p + 1) * 2 + v) p (mod-lt x (pow_pos p)))
    ∙ sym (by-low x p q h)

-- one law over the width
pub put-bits : (w x p v : ℕ) → p < w → v < 2 → bits w (put_bit x p v) ≡ set (bits w x) (w - 1 - p) v
put-bits w x p v h hv =
    ext_get_or 0 (bits w (put_bit x p v)) (set (bits w x) (w - 1 - p) v)
    (bits-length w (put_bit x p v) ∙ sym (bits-length w x) ∙ sym (length-set (bits w x) (w - 1 - p) v))
    at
  where
    pick : (j : ℕ) → j < w → (j ≡ w - 1 - p) ⊎ ((j < w - 1 - p) ⊎ (w - 1 - p < j)) → get_or (bits w (put_bit x p v)) j 0 ≡ get_or (set (bits w x) (w - 1 - p) v) j 0
    pick j l (inl e) =
        let i : w - 1 - p < length (bits w x) = rw bits-length (omega arith) in
        let q : w - 1 - j ≡ p = omega arith in
        bits_at w (put_bit x p v) j l ∙ ap (λ (n : ℕ). put_bit x p v / 2 ^ n % 2) q ∙ put_same x p v hv
        ∙ sym (get_or-set_same (bits w x) (w - 1 - p) v 0 i) ∙ ap (λ (n : ℕ). get_or (set (bits w x) (w - 1 - p) v) n 0) (sym e)
    pick j l (inr (inl a)) =
        bits_at w (put_bit x p v) j l ∙ ap (λ (n : ℕ). n % 2) (put-above x p v (w - 1 - j) hv (omega arith))
        ∙ sym (bits_at w x j l) ∙ sym (get_or-set_other (bits w x) (w - 1 - p) j v 0 (λ e. omega arith))
    pick j l (inr (inr a)) =
        bits_at w (put_bit x p v) j l ∙ put-below x p v (w - 1 - j) (omega arith)
        ∙ sym (bits_at w x j l) ∙ sym (get_or-set_other (bits w x) (w - 1 - p) j v 0 (λ e. omega arith))

    three : (a b : ℕ) → Dec (a < b) → Dec (b < a) → (a ≡ b) ⊎ ((a < b) ⊎ (b < a))
    three a b (yes h) d = inr (inl h)
    three a b (no h) (yes g) = inr (inr g)
    three a b (no h) (no g) = inl (omega arith)

    at : (j : ℕ) → j < length (bits w (put_bit x p v)) → get_or (bits w (put_bit x p v)) j 0 ≡ get_or (set (bits w x) (w - 1 - p) v) j 0
    at j l = pick j (rw bits-length at l) (three j (w - 1 - p) (dec_lt j (w - 1 - p)) (dec_lt (w - 1 - p) j))

-- ---- what the code's shifts and masks come to
pub with-bit : (x p on : ℕ) → x < 256 → p < 8 → on < 2
    → bit_or (bit_or ((x / 2 ^ (p + 1) * 2 ^ (p + 1)) % 2 ^ 64) ((on * 2 ^ p) % 2 ^ 64)) (bit_and x ((1 * 2 ^ p) % 2 ^ 64 - 1)) ≡ put_bit x p on
with-bit x p on hx hp hon =
    let a : ℕ = x / 2 ^ (p + 1) in
    let e₁ : (a * 2 ^ (p + 1)) % 2 ^ 64 ≡ a * 2 ^ (p + 1) = shl_exact 8 (p + 1) 64 (lt_of_le_of_lt (shr_le x (p + 1)) hx) (omega arith) in
    let e₂ : (on * 2 ^ p) % 2 ^ 64 ≡ on * 2 ^ p = shl_exact 1 p 64 hon (omega arith) in
    let e₃ : (1 * 2 ^ p) % 2 ^ 64 ≡ 2 ^ p = shl_exact 1 p 64 (lit< tt) (omega arith) ∙ one-mul (2 ^ p) in
    let m : on * 2 ^ p < 2 ^ (p + 1) = subst (λ (n : ℕ). on * 2 ^ p < 2 ^ n) (add_comm 1 p) (shl_lt 1 p hon) in
    let t : 2 ^ (p + 1) ≡ 2 * 2 ^ p = ap (λ (n : ℕ). 2 ^ n) (add_comm p 1) ∙ pow-add 2 1 p in
    let g : bit_or (a * 2 ^ (p + 1)) (on * 2 ^ p) ≡ (a * 2 + on) * 2 ^ p =
    or_shifted a (p + 1) (on * 2 ^ p) m ∙ ap (λ (n : ℕ). a * n + on * 2 ^ p) t
    ∙ ap (λ (n : ℕ). n + on * 2 ^ p) (sym (mul_assoc a 2 (2 ^ p))) ∙ sym (add-mul (a * 2) on (2 ^ p))
    in
    ap₂ (λ (h l : ℕ). bit_or h l) (ap₂ (λ (y z : ℕ). bit_or y z) e₁ e₂ ∙ g) (ap (λ (n : ℕ). bit_and x (n - 1)) e₃ ∙ and_mask x p)
    ∙ or_shifted (a * 2 + on) p (x % 2 ^ p) (mod-lt x (pow_pos p))

-- a byte stays a byte
pub put-lt : (x p on : ℕ) → x < 256 → p < 8 → on < 2 → put_bit x p on < 256
put-lt x p on hx hp hon =
    let r : ℕ = 7 - p in
    let e : r + (p + 1) ≡ 8 = omega arith in
    let ha : x / 2 ^ (p + 1) < 2 ^ r = shr_lt r (p + 1) (subst (λ (n : ℕ). x < 2 ^ n) (sym e) hx) in
    let hb : x / 2 ^ (p + 1) * 2 + on < 2 ^ r * 2 = digits_lt ha hon in
    let hc : put_bit x p on < 2 ^ r * 2 * 2 ^ p = digits_lt hb (mod-lt x (pow_pos p)) in
    let f : r + 1 + p ≡ 8 = omega arith in
    let t : 2 ^ r * 2 * 2 ^ p ≡ 2 ^ 8 =
    ap (λ (n : ℕ). n * 2 ^ p) (sym (pow-add 2 r 1)) ∙ sym (pow-add 2 (r + 1) p) ∙ ap (λ (n : ℕ). 2 ^ n) f
    in
    subst (λ (n : ℕ). put_bit x p on < n) t hc

-- a bit number is a byte and a place in it
pub place : (bit : ℕ) → bit / 8 * 8 + bit % 8 ≡ bit
place bit = omega arith

pub one_up : (p : ℕ) → p < 8 → 1 ≤ (1 * 2 ^ p) % 2 ^ 64
one_up p hp = subst (λ (n : ℕ). 1 ≤ n) (sym (shl_exact 1 p 64 (lit< tt) (omega arith) ∙ one-mul (2 ^ p))) (pow_pos p)

pub write-bit : (s : List ℕ) (bit on x y : ℕ) → bit < 8 * length s → on < 2 → x ≡ get_or s (bit / 8) 0 → y ≡ put_bit x (7 - bit_and bit 7) on
    → bits_of (set s (bit / 8) y) ≡ set (bits_of s) bit on
write-bit s bit on x y h ho e f =
    let p : ℕ = 7 - bit % 8 in
    let hp : p < 8 = omega arith in
    let q : 8 - 1 - p ≡ bit % 8 = omega arith in
    let y' : y ≡ put_bit (get_or s (bit / 8) 0) p on =
    f ∙ ap₂ (λ (a b : ℕ). put_bit a (7 - b) on) e (and_mask bit 3)
    in
    let t : bits 8 y ≡ set (bits 8 (get_or s (bit / 8) 0)) (bit % 8) on =
    ap (bits 8) y' ∙ put-bits 8 (get_or s (bit / 8) 0) p on hp ho ∙ ap (λ (n : ℕ). set (bits 8 (get_or s (bit / 8) 0)) n on) q
    in
    bits_of-set s (bit / 8) (bit % 8) y on (omega arith) (omega arith) t ∙ ap (λ (n : ℕ). set (bits_of s) n on) (place bit)

pub put-more : (d o l : List ℕ) (bit width v k : ℕ) → bits_of o ≡ paste (bits_of d) bit (bits width v) k
    → bits_of l ≡ set (bits_of o) (bit + k) (bit_and (v / 2 ^ (width - 1 - k)) 1) → k < width → bit + width ≤ 8 * length d
    → bits_of l ≡ paste (bits_of d) bit (bits width v) (k + 1)
put-more d o l bit width v k eo el hk h =
    let hb : bit + k < length (bits_of d) = rw bits_of-length (omega arith) in
    let ht : k < length (bits width v) = rw bits-length hk in
    el ∙ ap₂ (λ (x : List ℕ) (y : ℕ). set x (bit + k) y) eo (and_mask (v / 2 ^ (width - 1 - k)) 1 ∙ sym (bits_at width v k hk))
    ∙ paste-suc (bits_of d) bit (bits width v) k 0 hb ht ∙ ap (λ (n : ℕ). paste (bits_of d) bit (bits width v) n) (sym (add-one k))
