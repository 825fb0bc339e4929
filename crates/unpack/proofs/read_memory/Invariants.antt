-- `unpack::read_memory`: the events of the marks so far stand in their places.
-- Assumes nothing.
use Prim.Native.Nat.{ℕ, ◌-◌, ◌<◌}
use mathlib.Core.Path.{◌≡◌}
use lib.ListN.{length, get_or}
use Rattle.unpack.proofs.read_memory.Given as goal

abbrev pub invariant-loop-i : goal.invariant-loop-i
invariant-loop-i l = (length l.list ≡ 8) × ((k : ℕ) → k < l.i → get_or l.list k 0 ≡ get_or l.events (get_or l.m-items k 0 - 1) 0)
