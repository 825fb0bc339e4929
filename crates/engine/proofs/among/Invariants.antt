-- `engine::among` meets its contract: n stands among the names if it does from place i on. Assumes nothing.
use Rattle.paper.specs.Lists.{has}
use lib.ListN.{length, drop}
use mathlib.Core.Path.{◌≡◌}
use Prim.Native.Nat.{◌-◌, ◌≤◌}
use Rattle.engine.proofs.among.Given as goal

abbrev pub invariant-loop-i : goal.invariant-loop-i
invariant-loop-i l = (l.i ≤ length l.names) × (has l.n l.names ≡ has l.n (drop l.i l.names))

abbrev pub decreases-loop-i : goal.decreases-loop-i
decreases-loop-i l = length l.names - l.i
