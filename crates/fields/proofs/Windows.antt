-- A field is a part of the window that begins with its byte: the bits of its bytes are the bits of the window (`bits_of-window`), and zeros behind
-- the slice do not touch a field within it. Assumes nothing.
use mathlib.Core.Path.{◌≡◌, refl, sym, ap, ap₂, ◌∙◌, subst}
use mathlib.Core.List.{List, [], ◌∷◌, ◌++◌, append_assoc}
use Prim.Native.Nat.{ℕ, zero, suc, ◌+◌, ◌-◌, ◌*◌, ◌/◌, ◌%◌, ◌^◌, ◌≤◌, ◌<◌}
use native.Mathlib.Nat.{one-mul, add-zero}
use native.Mathlib.Omega.{arith}
use lib.ListN.{length, get_or, take, drop, replicate, length-append, length-drop, length-replicate}
use lib.Seq.{drop-cons, drop-drop, take-append-le, drop-append-le}
use lib.Pow.{pow_pos, shl_exact, shr-shr}
use lib.Dec.{lit<, lit≤}
use lib.Bits.{bit_and, bit_or, and_mask, or_shifted}
use Rattle.std.specs.Int.{w64, from_be_bytes}
use Rattle.paper.specs.Lists.{gather}
use Rattle.paper.specs.Table.{bits}
use Rattle.paper.specs.IsTable.{bits_of, number_from, field}
use Rattle.fields.specs.Window.{Bytes, window}
use Rattle.fields.proofs.Bits.{bits-length, bits_of-length, bits_of-append, bits_of-drop, bits-drop, bits-take, bits-join, number_is}

-- zeros behind the list change no element
get_d-padded : (n : ℕ) (s : List ℕ) (i : ℕ) → get_or (s ++ replicate n 0) i 0 ≡ get_or s i 0
get_d-padded zero [] i = refl
get_d-padded (suc n) [] zero = refl
get_d-padded (suc n) [] (suc i) = get_d-padded n [] i
get_d-padded n (x ∷ xs) zero = refl
get_d-padded n (x ∷ xs) (suc i) = get_d-padded n xs i

window_same : (k : ℕ) (s z : List ℕ) (i : ℕ) → ((j : ℕ) → get_or z j 0 ≡ get_or s j 0) → window k z i ≡ window k s i
unfolding window
window_same zero s z i h = refl
window_same (suc k) s z i h = ap₂ (λ (w b : ℕ). w * 256 + b) (window_same k s z i h) (h (i + k))

bits_of-cons : (z : List ℕ) (i : ℕ) → i < length z → bits_of (drop i z) ≡ bits 8 (get_or z i 0) ++ bits_of (drop (suc i) z)
unfolding bits_of gather
bits_of-cons z i h = ap bits_of (drop-cons z i 0 h)

no_bits : (v : ℕ) → bits 0 v ≡ []
unfolding bits
no_bits v = refl

-- the bits of bytes are those of their window
bits_of-window : (k : ℕ) (z : List ℕ) (i : ℕ) → Bytes z → i + k ≤ length z → bits_of (drop i z) ≡ bits (k * 8) (window k z i) ++ bits_of (drop (i + k) z)
unfolding window
bits_of-window zero z i hb h =
    ap (λ (n : ℕ). bits_of (drop n z)) (sym (add-zero i)) ∙ ap (λ (l : List ℕ). l ++ bits_of (drop (i + 0) z)) (sym (no_bits (window 0 z i)))
bits_of-window (suc k) z i hb h =
    let b : ℕ = get_or z (i + k) 0 in
    let w : ℕ = window k z i in
    let e : suc k * 8 ≡ k * 8 + 8 = omega arith in
    let f : suc (i + k) ≡ i + suc k = omega arith in
    bits_of-window k z i hb (omega arith)
    ∙ ap (λ (l : List ℕ). bits (k * 8) w ++ l) (bits_of-cons z (i + k) (omega arith) ∙ ap (λ (n : ℕ). bits 8 b ++ bits_of (drop n z)) f)
    ∙ sym (append_assoc (bits (k * 8) w) (bits 8 b) (bits_of (drop (i + suc k) z)))
    ∙ ap (λ (l : List ℕ). l ++ bits_of (drop (i + suc k) z)) (sym (bits-join (k * 8) 8 w b (hb (i + k))) ∙ ap (λ (n : ℕ). bits n (w * 256 + b)) (sym e))

-- a part of what stands in front does not tell what stands behind
part-front : (xs ys : List ℕ) (at w : ℕ) → at + w ≤ length xs → take w (drop at (xs ++ ys)) ≡ take w (drop at xs)
part-front xs ys at w h =
    let l : w ≤ length (drop at xs) = simp length-drop (omega arith) in
    ap (take w) (drop-append-le at xs ys (omega arith)) ∙ take-append-le w (drop at xs) ys l

part-bits : (n v j w : ℕ) → j + w ≤ n → take w (drop j (bits n v)) ≡ bits w (v / 2 ^ (n - j - w))
part-bits n v j w h =
    let e : n ≡ j + (n - j) = omega arith in
    let f : n - j ≡ w + (n - j - w) = omega arith in
    ap (λ (k : ℕ). take w (drop j (bits k v))) e ∙ ap (take w) (bits-drop j (n - j) v)
    ∙ ap (λ (k : ℕ). take w (bits k v)) f ∙ bits-take w (n - j - w) v

pub field-window : (k : ℕ) (s : List ℕ) (i j w : ℕ) → Bytes s → j + w ≤ k * 8 → i * 8 + j + w ≤ 8 * length s
    → field s (i * 8 + j) w ≡ window k s i / 2 ^ (k * 8 - j - w) % 2 ^ w
unfolding field
field-window k s i j w hb hj h =
    let zs : List ℕ = replicate k 0 in
    let z : List ℕ = s ++ zs in
    let lz : length z ≡ length s + k = length-append s zs ∙ ap (λ (n : ℕ). length s + n) (length-replicate k 0) in
    let same : (n : ℕ) → get_or z n 0 ≡ get_or s n 0 = get_d-padded k s in
    let hz : Bytes z = λ n. subst (λ (x : ℕ). x < 256) (sym (same n)) (hb n) in
    let r : List ℕ = bits_of (drop (i + k) z) in
    let hs : i * 8 + j + w ≤ length (bits_of s) = rw bits_of-length h in
    let hw : j + w ≤ length (bits (k * 8) (window k z i)) = rw bits-length hj in
    let p : take w (drop (i * 8 + j) (bits_of s)) ≡ bits w (window k z i / 2 ^ (k * 8 - j - w)) =
    sym (part-front (bits_of s) (bits_of zs) (i * 8 + j) w hs)
    ∙ ap (λ (l : List ℕ). take w (drop (i * 8 + j) l)) (sym (bits_of-append s zs))
    ∙ ap (take w) (sym (drop-drop j (i * 8) (bits_of z)) ∙ ap (drop j) (bits_of-drop i z ∙ bits_of-window k z i hz (omega arith)))
    ∙ part-front (bits (k * 8) (window k z i)) r j w hw ∙ part-bits (k * 8) (window k z i) j w hj
    in
    ap (number_from 0) p ∙ number_is w (window k z i / 2 ^ (k * 8 - j - w))
    ∙ ap (λ (n : ℕ). n / 2 ^ (k * 8 - j - w) % 2 ^ w) (window_same k s z i same)

-- ---- what the proof of `get` cites

pub ones : (w : ℕ) → w < 64 → (1 * 2 ^ w) % 2 ^ 64 ≡ 2 ^ w
ones w h = shl_exact 1 w 64 (lit< tt) (omega arith) ∙ one-mul (2 ^ w)

pub ones_pos : (w : ℕ) → w < 64 → 1 ≤ (1 * 2 ^ w) % 2 ^ 64
ones_pos w h = subst (λ (n : ℕ). 1 ≤ n) (sym (ones w h)) (pow_pos w)

pub get-field : (s : List ℕ) (bit w x : ℕ) → Bytes s → w ≤ 32 → bit + w ≤ 8 * length s → x ≡ window 8 s (bit / 8)
    → bit_and (x / 2 ^ (63 - bit_and bit 7 - w) / 2) ((1 * 2 ^ w) % 2 ^ 64 - 1) ≡ field s bit w
get-field s bit w x hb hw h ex =
    let j : ℕ = bit % 8 in
    let e : bit / 8 * 8 + j ≡ bit = omega arith in
    let f : 63 - j - w + 1 ≡ 8 * 8 - j - w = omega arith in
    ap₂ (λ (a m : ℕ). bit_and (x / 2 ^ (63 - a - w) / 2) (m - 1)) (and_mask bit 3) (ones w (omega arith))
    ∙ and_mask (x / 2 ^ (63 - j - w) / 2) w
    ∙ ap (λ (n : ℕ). n % 2 ^ w) (shr-shr x (63 - j - w) 1 ∙ ap₂ (λ (y n : ℕ). y / 2 ^ n) ex f)
    ∙ sym (field-window 8 s (bit / 8) j w hb (omega arith) (omega arith))
    ∙ ap (λ (n : ℕ). field s n w) e

-- one byte more, by a shift
pub join-byte : (h b x : ℕ) → h < 2 ^ 56 → b < 256 → x ≡ b → bit_or ((h * 2 ^ 8) % 2 ^ 64) x ≡ h * 256 + b
join-byte h b x hh hb e = ap₂ bit_or (shl_exact 56 8 64 hh (lit≤ tt)) e ∙ or_shifted h 8 b hb

-- the window of eight bytes, written out
pub window-eight : (s : List ℕ) (at : ℕ) → window 8 s at
    ≡ ((((((get_or s at 0 * 256 + get_or s (at + 1) 0) * 256 + get_or s (at + 2) 0) * 256 + get_or s (at + 3) 0) * 256 + get_or s (at + 4) 0) * 256 + get_or s (at + 5) 0) * 256 + get_or s (at + 6) 0) * 256 + get_or s (at + 7) 0
unfolding window
window-eight s at =
    let e : 0 * 256 + get_or s (at + 0) 0 ≡ get_or s at 0 = omega (arith, ap (λ (n : ℕ). get_or s n 0) (add-zero at)) in
    ap (λ (x : ℕ). ((((((x * 256 + get_or s (at + 1) 0) * 256 + get_or s (at + 2) 0) * 256 + get_or s (at + 3) 0) * 256 + get_or s (at + 4) 0) * 256 + get_or s (at + 5) 0) * 256 + get_or s (at + 6) 0) * 256 + get_or s (at + 7) 0) e

-- eight bytes as one number are the window where they stand
pub window-bytes : (s bs : List ℕ) (at : ℕ) → ((k : ℕ) → k < 8 → get_or bs k 0 ≡ get_or s (at + k) 0) → from_be_bytes w64 bs ≡ window 8 s at
unfolding window
window-bytes s bs at h =
    let e0 = h 0 (lit< tt) in
    let e1 = h 1 (lit< tt) in
    let e2 = h 2 (lit< tt) in
    let e3 = h 3 (lit< tt) in
    let e4 = h 4 (lit< tt) in
    let e5 = h 5 (lit< tt) in
    let e6 = h 6 (lit< tt) in
    let e7 = h 7 (lit< tt) in
    omega arith
