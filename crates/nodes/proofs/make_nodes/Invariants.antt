-- `nodes::make_nodes` meets its contract. The loop's invariant is `Going`: whatever the whole postorder ends in, its rest ends in from here.
-- The measure is the places left. Assumes nothing.
use Prim.Native.Nat.{◌-◌}
use Rattle.nodes.proofs.Going.{Going}
use Rattle.nodes.proofs.make_nodes.Given as goal

abbrev pub invariant-loop-i : goal.invariant-loop-i
invariant-loop-i l = Going l.code l.left l.n l.nodes l.number l.last l.i

abbrev pub decreases-loop-i : goal.decreases-loop-i
decreases-loop-i l = l.n - l.i
