use Rattle.program.proofs.Columns.{count-view}
use Rattle.program.proofs.Nodes.count.Goals as goal

pub returns-clause-count : goal.returns-clause-count
returns-clause-count c = count-view _ _ _ c.self.invariant.0 c.self.view_is
