-- `syntax::is_leaf` meets its contract: each test tells one part of `is_leaf`. Assumes nothing.
use borrow.Author.Tests.{eq-eqb, ne_eqb, le-leb, lt-leb}
use Rattle.syntax.proofs.is_leaf.Goals as goal

pub returns-then-b-eq49 : goal.returns-then-b-eq49
returns-then-b-eq49 c = rw (eq-eqb _ _ c.if-b-eq49.true)

pub returns-then-b-lt97 : goal.returns-then-b-lt97
returns-then-b-lt97 c = rw (ne_eqb _ _ c.if-b-eq49.false, lt-leb _ _ c.if-b-lt97.true)

pub returns-else-b-lt97 : goal.returns-else-b-lt97
returns-else-b-lt97 c = rw (ne_eqb _ _ c.if-b-eq49.false, le-leb _ _ c.if-b-lt97.false)
