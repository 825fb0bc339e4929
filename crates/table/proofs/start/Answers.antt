-- `table::start` meets its contract: what is no table is refused, and a table's start bits stand behind the names and the kinds.
-- Assumes nothing.
use Rattle.std.proofs.Common.{◌≡◌, ap, ◌∙◌, Some}
use Rattle.std.specs.Result.{result_ok}
use Rattle.refusals.specs.declared.Reason.TheVariants.{NoTable}
use Rattle.table.proofs.Outcomes.{refused, start-no, start_is, goes-is}
use Rattle.table.proofs.start.Goals as goal

pub returns-in_err-counts : goal.returns-in_err-counts
returns-in_err-counts c =
    let r = refused c.checked.result NoTable c.ok_or.result c.in_err-counts.field-0.0 c.from_residual.result c.ok_or.ensures.value c.in_err-counts.was c.from_residual.ensures.1 in
    r.1 ∙ start-no c.args.table.now (rw r.0 at c.checked.ensures)

pub returns : goal.returns
returns c =
    let s : c.checked.result ≡ Some c.in_ok-counts.counts = c.ok_or.ensures.ok_part ∙ ap result_ok c.in_ok-counts.was in
    let h = rw s at c.checked.ensures in
    let e : c.letters.result ≡ _ = c.letters.ensures in
    goes-is 0 c.orders.result _ (rw e at c.orders.ensures) ∙ start_is c.args.table.now c.in_ok-counts.counts h.0.read h.1
