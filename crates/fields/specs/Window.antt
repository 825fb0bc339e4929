-- Bytes of a slice as one number, and a byte with one bit changed.
--     Bytes s               each of s is a byte
--     window k s at         the number of the k bytes from `at` on, zeros past the end
--     put_bit x p v          the number x with the bit at place p from the low end put to v
-- Assumes nothing.
use Rattle.std.specs.Prelude.{ℕ, zero, suc, ◌+◌, ◌*◌, ◌/◌, ◌%◌, ◌^◌, ◌<◌, List, get_or}

abbrev pub Bytes : List ℕ → Type 0
Bytes s = (i : ℕ) → get_or s i 0 < 256

unfoldable pub window : ℕ → List ℕ → ℕ → ℕ
window zero s at = 0
window (suc k) s at = window k s at * 256 + get_or s (at + k) 0

abbrev pub put_bit : ℕ → ℕ → ℕ → ℕ
put_bit x p v = (x / 2 ^ (p + 1) * 2 + v) * 2 ^ p + x % 2 ^ p
