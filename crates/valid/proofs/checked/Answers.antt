-- `valid::checked` meets its contract: each part that is wrong breaks `is_table`; past all of them none is broken (`checked_says`).
-- Assumes nothing.
use Rattle.std.proofs.Common.{◌≡◌, not, ◌&&◌, ◌||◌, arith}
use Rattle.std.proofs.lemmas.Grind.{common_steps}
use Rattle.paper.specs.IsTable.{wrong_name, wrong_start, wrong_next, wrong_zeros, wrong_event, wrong_padding}
use Rattle.valid.proofs.Check.{checked_says}
use Rattle.valid.proofs.checked.Goals as goal
use Rattle.valid.proofs.checked.Goals.{then-names_right, else-names_right, then-starts_right, else-starts_right, then-rows_right, else-rows_right}

pub returns : goal.returns
returns c =
    let t = c.args.table.now in
    let n : c.if-names_right.value ≡ (not (wrong_name t) && not (wrong_start t)) =
    elim c.if-names_right.branch [ then-names_right w ↦ grind (arith, common_steps) | else-names_right w ↦ grind (arith, common_steps) ]
    in
    let s : c.if-starts_right.value ≡ (not (wrong_name t) && not (wrong_start t) && not (wrong_next t || wrong_zeros t || wrong_event t)) =
    elim c.if-starts_right.branch [ then-starts_right w ↦ grind (arith, common_steps) | else-starts_right w ↦ grind (arith, common_steps) ]
    in
    let r : c.if-rows_right.right ≡ (not (wrong_name t) && not (wrong_start t) && not (wrong_next t || wrong_zeros t || wrong_event t) && not (wrong_padding t)) =
    elim c.if-rows_right.branch [ then-rows_right w ↦ grind (arith, common_steps) | else-rows_right w ↦ grind (arith, common_steps) ]
    in
    rw c.then_some.ensures (checked_says t c.in_ok-counts.counts c.in_ok-counts.ensures c.if-rows_right.right r)
