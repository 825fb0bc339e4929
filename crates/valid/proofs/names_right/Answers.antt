-- `valid::names_right` meets its contract: the modules' names and the events' ascend, each by itself (`names_are`).
-- Assumes nothing.
use Rattle.std.proofs.Common.{arith}
use Rattle.std.proofs.lemmas.Grind.{common_steps}
use Rattle.valid.proofs.Check.{names_are}
use Rattle.valid.proofs.names_right.Goals as goal

pub returns-then-ascending : goal.returns-then-ascending
returns-then-ascending c = let e = names_are c.args.table.now c.args.counts c.requires.read in grind (arith, common_steps, e)

pub returns-else-ascending : goal.returns-else-ascending
returns-else-ascending c = let e = names_are c.args.table.now c.args.counts c.requires.read in grind (arith, common_steps, e)
