-- `nodes::find` meets its contract. The loop's invariant: the search from i on ends where the search from 0 does; each turn is one step of `seek`.
-- The measure is the nodes left. Assumes nothing.
use Prim.Native.Nat.{◌≤◌, ◌-◌}
use mathlib.Core.Path.{◌≡◌}
use lib.ListN.{length}
use Rattle.nodes.specs.Made.{seek}
use Rattle.nodes.proofs.find.Given as goal

abbrev pub invariant-loop-i : goal.invariant-loop-i
invariant-loop-i l =
    (l.i ≤ l.end)
    × ((l.end ≤ 192) × ((length l.nodes ≡ 768) × (seek l.nodes l.kind l.left l.right l.letter l.i (l.end - l.i) ≡ seek l.nodes l.kind l.left l.right l.letter 0 l.end)))

abbrev pub decreases-loop-i : goal.decreases-loop-i
decreases-loop-i l = l.end - l.i
