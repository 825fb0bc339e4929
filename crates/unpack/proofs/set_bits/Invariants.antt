-- `unpack::set_bits`: the flags below i are the bits, and zeros stand behind.
-- Assumes nothing.
use Prim.Native.Nat.{ℕ, ◌/◌, ◌%◌, ◌^◌, ◌≤◌, ◌<◌}
use mathlib.Core.Path.{◌≡◌}
use lib.ListN.{length, get_or}
use Rattle.unpack.proofs.set_bits.Given as goal

abbrev pub invariant-loop-i : goal.invariant-loop-i
invariant-loop-i l = (length l.flags ≡ 8) × ((k : ℕ) → k < l.i → get_or l.flags k 0 ≡ l.set / 2 ^ k % 2) × ((k : ℕ) → l.i ≤ k → get_or l.flags k 0 ≡ 0)
