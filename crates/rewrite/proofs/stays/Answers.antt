-- `rewrite::stays` meets its contract. The eight cases of `stays`.
-- Assumes nothing.
use Rattle.paper.specs.Reaction.{stays}
use Rattle.rewrite.proofs.stays.Goals as goal

pub returns-then-own : goal.returns-then-own
unfolding stays
returns-then-own c = rw c.if-own.true

pub returns-then-after : goal.returns-then-after
unfolding stays
returns-then-after c = rw (c.if-own.false, c.if-before.true, c.if-after.true)

pub returns-else-after : goal.returns-else-after
unfolding stays
returns-else-after c = rw (c.if-own.false, c.if-before.true, c.if-after.false)

pub returns-then-after-2 : goal.returns-then-after-2
unfolding stays
returns-then-after-2 c = rw (c.if-own.false, c.if-before.false, c.if-after-2.true)

pub returns-else-after-2 : goal.returns-else-after-2
unfolding stays
returns-else-after-2 c = rw (c.if-own.false, c.if-before.false, c.if-after-2.false)
