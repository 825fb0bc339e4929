-- `nodes::clear` meets its contract. The loop's invariant: the first i are 0 and the rest is as it was. The measure is what is left of the length.
-- Assumes nothing.
use Prim.Native.Nat.{◌≤◌, ◌-◌}
use mathlib.Core.Path.{◌≡◌}
use mathlib.Core.List.{◌++◌}
use lib.ListN.{length, replicate, drop}
use Rattle.nodes.proofs.clear.Given as goal

abbrev pub invariant-loop-i : goal.invariant-loop-i
invariant-loop-i l = (l.i ≤ length l.nodes) × ((length l.nodes ≡ length l.initial.nodes) × (l.nodes ≡ replicate l.i 0 ++ drop l.i l.initial.nodes))

abbrev pub decreases-loop-i : goal.decreases-loop-i
decreases-loop-i l = length l.nodes - l.i
