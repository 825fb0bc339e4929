-- `stars::answer` meets its contract: the test is that of `there`.
-- Assumes nothing.
use borrow.Author.Tests.{lt-ltb, le-ltb}
use Rattle.stars.proofs.answer.Goals as goal

pub returns-then-best-lt-FAR : goal.returns-then-best-lt-FAR
returns-then-best-lt-FAR c = simp (lt-ltb _ _ c.if-best-lt-FAR.true)

pub returns : goal.returns
returns c = simp (le-ltb _ _ c.if-best-lt-FAR.false)
