-- `nodes::weigh` meets its contract. The loop's invariant is `Weighing`: the nodes below i have their weights, the rest is as it was.
-- The measure is the nodes left. Assumes nothing.
use Prim.Native.Nat.{◌-◌}
use Rattle.nodes.proofs.Weighing.{Weighing}
use Rattle.nodes.proofs.weigh.Given as goal

abbrev pub invariant-loop-i : goal.invariant-loop-i
invariant-loop-i l = Weighing l.nodes l.initial.w l.w l.i

abbrev pub decreases-loop-i : goal.decreases-loop-i
decreases-loop-i l = l.count - l.i
