-- `unpack::fill`: the units so far stand in their places.
-- Assumes nothing.
use Prim.Native.Nat.{ℕ, ◌<◌}
use mathlib.Core.Path.{◌≡◌}
use lib.ListN.{get_or}
use Rattle.coding.specs.Layout.{unit_in}
use Rattle.unpack.proofs.fill.Given as goal

abbrev pub invariant-loop-i : goal.invariant-loop-i
invariant-loop-i l = (k : ℕ) → k < l.i → get_or l.w k 0 ≡ unit_in l.live k
