-- `table::step` meets its contract: the tests come in the order of `table_step`, and each decides one of its cases.
-- Assumes nothing.
use Rattle.std.proofs.Common.{◌≡◌, ap, ◌∙◌, Some, Err}
use Rattle.std.specs.Result.{result_ok}
use Rattle.refusals.specs.declared.Reason.TheVariants.{NoTable, ForeignLetter}
use Rattle.table.specs.Answers.{stepped}
use Rattle.table.proofs.Outcomes.{refused, step_19, step_20, step_21, step-on}
use Rattle.table.proofs.step.Goals as goal

pub returns-in_err-counts : goal.returns-in_err-counts
returns-in_err-counts c =
    let a = c.args in
    let r = refused c.checked.result NoTable c.ok_or.result c.in_err-counts.field-0.0 c.from_residual.result c.ok_or.ensures.value c.in_err-counts.was c.from_residual.ensures.1 in
    r.1 ∙ step_19 a.table.now a.state a.letter (rw r.0 at c.checked.ensures)

pub returns-then-counts-state : goal.returns-then-counts-state
returns-then-counts-state c =
    let a = c.args in
    let s : c.checked.result ≡ Some c.in_ok-counts.counts = c.ok_or.ensures.ok_part ∙ ap result_ok c.in_ok-counts.was in
    let h = rw s at c.checked.ensures in
    ap (λ r. stepped (Err r)) c.into.ensures ∙ step_20 a.table.now c.in_ok-counts.counts a.state a.letter h.0.read h.1 c.if-counts-state.true

pub returns-in_err-index : goal.returns-in_err-index
returns-in_err-index c =
    let a = c.args in
    let s : c.checked.result ≡ Some c.in_ok-counts.counts = c.ok_or.ensures.ok_part ∙ ap result_ok c.in_ok-counts.was in
    let h = rw s at c.checked.ensures in
    let r = refused c.letter_index.result ForeignLetter c.ok_or-2.result c.in_err-index.field-0.0 c.from_residual-in_err-index.result c.ok_or-2.ensures.value c.in_err-index.was c.from_residual-in_err-index.ensures.1 in
    r.1 ∙ step_21 a.table.now c.in_ok-counts.counts a.state a.letter h.0.read h.1 c.if-counts-state.false (rw r.0 at c.letter_index.ensures.index)

pub returns : goal.returns
returns c =
    let a = c.args in
    let s : c.checked.result ≡ Some c.in_ok-counts.counts = c.ok_or.ensures.ok_part ∙ ap result_ok c.in_ok-counts.was in
    let h = rw s at c.checked.ensures in
    let i : c.letter_index.result ≡ Some c.in_ok-index.index = c.ok_or-2.ensures.ok_part ∙ ap result_ok c.in_ok-index.was in
    c.entry_at.ensures
    ∙ step-on a.table.now c.in_ok-counts.counts a.state a.letter h.0.read h.1 c.in_ok-index.index c.if-counts-state.false (rw i at c.letter_index.ensures.index)
