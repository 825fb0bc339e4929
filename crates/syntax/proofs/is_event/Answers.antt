-- `syntax::is_event` meets its contract: the first test tells the letters' lower end. Assumes nothing.
use borrow.Author.Tests.{le-leb, lt-leb}
use Rattle.syntax.proofs.is_event.Goals as goal

pub returns-then-b-lt65 : goal.returns-then-b-lt65
returns-then-b-lt65 c = rw (lt-leb _ _ c.if-b-lt65.true)

pub returns-else-b-lt65 : goal.returns-else-b-lt65
returns-else-b-lt65 c = rw (le-leb _ _ c.if-b-lt65.false)
