-- `emit::put_running`: the bits of the modules so far are put.
-- Assumes nothing.
use Rattle.paper.specs.Table.{bits}
use Rattle.emit.proofs.Loops.{Going}
use Rattle.emit.proofs.put_running.Given as goal

abbrev pub invariant-loop-runs : goal.invariant-loop-runs
invariant-loop-runs l = Going (bits 1) l.running 1 l.initial.w l.w l.runs-index
