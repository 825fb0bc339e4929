-- `syntax::join_code` meets its contract: the flag tells the join. Assumes nothing.
use Rattle.syntax.proofs.join_code.Goals as goal

pub returns-then-both : goal.returns-then-both
returns-then-both c = rw c.if-both.true

pub returns-else-both : goal.returns-else-both
returns-else-both c = rw c.if-both.false
