-- `table::entry_at` meets its contract: the possible bit decides between No. 22 and the entry (`step_22`, `step-to`).
-- Assumes nothing.
use Rattle.std.proofs.Common.{ap, ◌∙◌, Err}
use Rattle.table.specs.Answers.{stepped}
use Rattle.table.proofs.Outcomes.{step_22, step-to, goes-is}
use Rattle.table.proofs.entry_at.Goals as goal

pub returns-then-get-ne1 : goal.returns-then-get-ne1
returns-then-get-ne1 c =
    let a = c.args in
    ap (λ r. stepped (Err r)) c.into.ensures
    ∙ step_22 a.table.now a.counts a.state a.index c.entry_place-bit.result c.requires.0.read c.entry_place-bit.ensures c.get.result c.get.ensures c.if-get-ne1.true

pub returns : goal.returns
returns c =
    let a = c.args in
    goes-is c.get-state.result c.orders.result _ c.orders.ensures
    ∙ step-to a.table.now a.counts a.state a.index c.entry_place-bit.result c.requires.0.read c.entry_place-bit.ensures c.get.result c.get-state.result c.get.ensures c.if-get-ne1.false c.get-state.ensures
