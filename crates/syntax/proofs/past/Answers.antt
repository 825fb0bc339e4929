-- `syntax::past` meets its contract: the flag tells the join. Assumes nothing.
use Rattle.syntax.proofs.past.Goals as goal

pub returns-then-both : goal.returns-then-both
returns-then-both c = rw c.if-both.true

pub returns-else-both : goal.returns-else-both
returns-else-both c = rw c.if-both.false
