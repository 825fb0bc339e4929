-- `walk::walk` meets its contract. From place i on each unit may stand, and the stack has the weights of the terms there (`Walked`).
-- Assumes nothing.
use Prim.Native.Nat.{◌≤◌}
use Rattle.walk.proofs.Walked.{Walked}
use Rattle.walk.proofs.walk.Given as goal

abbrev pub invariant-loop-i : goal.invariant-loop-i
invariant-loop-i l = record { above : l.s ≤ l.i; walked : Walked l.p l.modules l.w l.i l.stack.items }
