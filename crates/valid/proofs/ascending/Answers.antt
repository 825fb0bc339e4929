-- `valid::ascending` meets its contract, by the invariant of its loop.
-- Assumes nothing.
use Rattle.std.proofs.Common.{refl, sym}
use Rattle.valid.proofs.Names.{ascend-over, ascend-under, ascend-none, ascend-more, least_more}
use Rattle.valid.proofs.ascending.Goals as goal
use Rattle.valid.proofs.ascending.Goals.{then-name-gt25-via-then-name-gt25, then-name-gt25-via-else-name-gt25+then-name-least}

pub loop-k-init : goal.loop-k-init
loop-k-init c = (refl, ascend-none c.args.table.now c.args.from)

pub returns-then-name-gt25 : goal.returns-then-name-gt25
returns-then-name-gt25 c =
    let a = c.args in
    let i = c.loop-k in
    elim c.then-name-gt25.branch [
      | then-name-gt25-via-then-name-gt25 w ↦ sym (ascend-over a.table.now a.from a.count i.k c.get-name.result c.loop-k-test.true c.get-name.ensures w.if-name-gt25.true)
      | then-name-gt25-via-else-name-gt25+then-name-least w ↦ sym (ascend-under a.table.now a.from a.count i.k c.get-name.result i.least c.loop-k-test.true c.get-name.ensures i.invariant.0 w.if-name-least.true)
    ]

pub loop-k-preserved : goal.loop-k-preserved
loop-k-preserved c =
    let a = c.args in
    let i = c.loop-k in
    (least_more a.table.now a.from i.k c.get-name.result c.get-name.ensures, ascend-more a.table.now a.from i.k c.get-name.result i.least i.invariant.1 c.get-name.ensures i.invariant.0 c.if-name-gt25.false c.if-name-least.false)
