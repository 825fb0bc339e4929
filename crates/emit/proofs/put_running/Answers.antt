-- `emit::put_running` meets its contract, by the invariant of its loop.
-- Assumes nothing.
use mathlib.Core.Path.{ap}
use Rattle.paper.specs.Table.{bits}
use Rattle.emit.proofs.Loops.{going-none, going-more}
use Rattle.emit.proofs.put_running.Goals as goal

pub loop-runs-init : goal.loop-runs-init
loop-runs-init c = going-none (bits 1) c.args.running.now 1 c.args.w.now

pub loop-runs-preserved : goal.loop-runs-preserved
loop-runs-preserved c = going-more c.loop-runs.invariant c.loop-runs-test.true (ap (bits 1) c.from.ensures) c.append.ensures
