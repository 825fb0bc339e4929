-- `emit::put_names`: the bits of the names so far are put.
-- Assumes nothing.
use Rattle.paper.specs.Table.{bits}
use Rattle.emit.proofs.Loops.{Going}
use Rattle.emit.proofs.put_names.Given as goal

abbrev pub invariant-loop-name : goal.invariant-loop-name
invariant-loop-name l = Going (bits 5) l.names 5 l.initial.w l.w l.name-index
