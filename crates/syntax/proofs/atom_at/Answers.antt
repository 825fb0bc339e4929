-- `syntax::atom_at` meets its contract: each test tells one part of `starts`. Assumes nothing.
use borrow.Author.Tests.{eq-eqb, ne_eqb}
use Rattle.syntax.proofs.atom_at.Goals as goal

pub returns-then-b-eq91 : goal.returns-then-b-eq91
returns-then-b-eq91 c = rw (← c.byte_at-b.ensures, eq-eqb _ _ c.if-b-eq91.true)

pub returns-else-b-eq91 : goal.returns-else-b-eq91
returns-else-b-eq91 c = rw (← c.byte_at-b.ensures, ne_eqb _ _ c.if-b-eq91.false, c.is_leaf.ensures)
