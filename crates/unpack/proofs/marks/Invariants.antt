-- `unpack::marks`: the marks of the pairs so far stand in their places.
-- Assumes nothing.
use Prim.Native.Nat.{ℕ, ◌*◌, ◌<◌}
use mathlib.Core.Path.{◌≡◌}
use lib.ListN.{length, get_or}
use Rattle.coding.specs.Layout.{mark_in}
use Rattle.unpack.proofs.marks.Given as goal

abbrev pub invariant-loop-i : goal.invariant-loop-i
invariant-loop-i l = (length l.marks ≡ 8) × ((k : ℕ) → k < 2 * l.i → get_or l.marks k 0 ≡ mark_in l.live k)
