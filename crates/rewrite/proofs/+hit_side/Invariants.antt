-- `rewrite::hit` and `rewrite::side` meet their contracts. By the kind of the node (`Hitting`). `hit` calls `side` at a part, and `side` calls `hit` at the same node, so `side`'s measure lies between.
-- Assumes nothing.
use Prim.Native.Nat.{◌+◌}
use Rattle.rewrite.proofs.+hit_side.Given as goal

abbrev pub decreases-hit : goal.decreases-hit
decreases-hit l = l.i + l.i

abbrev pub decreases-side : goal.decreases-side
decreases-side l = l.i + l.i + 1
