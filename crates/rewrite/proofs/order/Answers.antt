-- `rewrite::order` meets its contract. The eight cases of `order`.
-- Assumes nothing.
use Rattle.paper.specs.Reaction.{order}
use Rattle.rewrite.proofs.order.Goals as goal

pub returns-then-after : goal.returns-then-after
unfolding order
returns-then-after c = rw (c.if-own.true, c.if-after.true)

pub returns-else-after : goal.returns-else-after
unfolding order
returns-else-after c = rw (c.if-own.true, c.if-after.false)

pub returns-then-after-2 : goal.returns-then-after-2
unfolding order
returns-then-after-2 c = rw (c.if-own.false, c.if-before.true, c.if-after-2.true)

pub returns-else-after-2 : goal.returns-else-after-2
unfolding order
returns-else-after-2 c = rw (c.if-own.false, c.if-before.true, c.if-after-2.false)

pub returns-then-stopped : goal.returns-then-stopped
unfolding order
returns-then-stopped c = rw (c.if-own.false, c.if-before.false, c.if-after-3.true, c.if-stopped.true)

pub returns-else-stopped : goal.returns-else-stopped
unfolding order
returns-else-stopped c = rw (c.if-own.false, c.if-before.false, c.if-after-3.true, c.if-stopped.false)

pub returns-else-after-3 : goal.returns-else-after-3
unfolding order
returns-else-after-3 c = rw (c.if-own.false, c.if-before.false, c.if-after-3.false)
