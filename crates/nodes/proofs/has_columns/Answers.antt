-- `nodes::has_columns` meets its contract: each test that fails makes the whole test `is` false, and the last is what is left of it. Assumes nothing.
use borrow.Author.Tests.{eq-eqb, ne_eqb}
use Rattle.nodes.proofs.has_columns.Goals as goal

pub returns-then-nodes-i : goal.returns-then-nodes-i
returns-then-nodes-i c = rw (ne_eqb _ _ c.if-nodes-i.true)

pub returns-then-nodes-i-2 : goal.returns-then-nodes-i-2
returns-then-nodes-i-2 c = rw (eq-eqb _ _ c.if-nodes-i.false, ne_eqb _ _ c.if-nodes-i-2.true)

pub returns-then-nodes-i-3 : goal.returns-then-nodes-i-3
returns-then-nodes-i-3 c = rw (eq-eqb _ _ c.if-nodes-i.false, eq-eqb _ _ c.if-nodes-i-2.false, ne_eqb _ _ c.if-nodes-i-3.true)

pub returns : goal.returns
returns c = rw (eq-eqb _ _ c.if-nodes-i.false, eq-eqb _ _ c.if-nodes-i-2.false, eq-eqb _ _ c.if-nodes-i-3.false)
