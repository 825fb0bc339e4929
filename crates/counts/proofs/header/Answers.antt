-- `counts::header` meets its contract: each refusal breaks one part of `is_table`, and past all of them the counts are those of the table (`header_says`).
-- A slice of three bytes holds the header.
-- Assumes nothing.
use Rattle.std.proofs.Common.{◌∙◌, ◌≡◌, sym, arith, ◌&&◌, length, nat_eq, ◌+◌, ◌/◌}
use Rattle.std.proofs.lemmas.Grind.{common_steps}
use Rattle.layout.specs.Places.{place}
use Rattle.counts.specs.Counts.{in_limits}
use Rattle.counts.proofs.Wrong.{short-no, layout-no, header_says}
use Rattle.counts.proofs.header.Goals as goal
use Rattle.counts.proofs.header.Goals.{then-table-lt3-via-then-table-lt3, then-table-lt3-via-else-table-lt3+then-get-ne1, then-in_limits, else-in_limits}

pub returns-then-table-lt3 : goal.returns-then-table-lt3
returns-then-table-lt3 c =
    elim c.then-table-lt3.branch [
      | then-table-lt3-via-then-table-lt3 w ↦ short-no c.args.table.now w.if-table-lt3.true
      | then-table-lt3-via-else-table-lt3+then-get-ne1 w ↦ layout-no c.args.table.now w.get.result w.get.ensures w.if-get-ne1.true
    ]

pub returns : goal.returns
returns c =
    let k = c.read-counts.result in
    let e : c.if-in_limits.right ≡ (in_limits k && nat_eq (length c.args.table.now) ((place k.modules k.events k.states 0 + 7) / 8)) =
    elim c.if-in_limits.branch [
      | then-in_limits w ↦ grind (arith, common_steps)
      | else-in_limits w ↦ grind (arith, common_steps)
    ]
    in
    rw c.then_some.ensures (header_says c.args.table.now k c.read-counts.ensures (sym c.get.ensures ∙ c.if-get-ne1.false) c.if-in_limits.right e)
