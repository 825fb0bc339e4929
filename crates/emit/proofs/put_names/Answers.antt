-- `emit::put_names` meets its contract, by the invariant of its loop.
-- Assumes nothing.
use mathlib.Core.Path.{ap}
use Rattle.paper.specs.Table.{bits}
use Rattle.emit.proofs.Loops.{going-none, going-more}
use Rattle.emit.proofs.put_names.Goals as goal

pub loop-name-init : goal.loop-name-init
loop-name-init c = going-none (bits 5) c.args.names.now 5 c.args.w.now

pub loop-name-preserved : goal.loop-name-preserved
loop-name-preserved c = going-more c.loop-name.invariant c.loop-name-test.true (ap (bits 5) c.from.ensures) c.append.ensures
