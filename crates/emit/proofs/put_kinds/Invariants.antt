-- `emit::put_kinds`: the bits of the events so far are put.
-- Assumes nothing.
use Rattle.emit.specs.Fills.{kind_bits}
use Rattle.emit.proofs.Loops.{Going}
use Rattle.emit.proofs.put_kinds.Given as goal

abbrev pub invariant-loop-event : goal.invariant-loop-event
invariant-loop-event l = Going (kind_bits l.fugitive) l.events 1 l.initial.w l.w l.event-index
