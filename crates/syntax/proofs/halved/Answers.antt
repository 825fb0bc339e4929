-- `syntax::halved` meets its contract: the flag tells which case holds. Assumes nothing.
use Rattle.syntax.proofs.halved.Goals as goal

pub returns-then-both : goal.returns-then-both
returns-then-both c = rw (c.if-both.true, c.is.ensures)
