-- `entries::run_right` meets its contract, by the invariant of its loop: an entry that does not pass fails the run.
-- Assumes nothing.
use Rattle.std.proofs.Common.{ℕ, ◌+◌, ◌*◌, sym, ap, ◌∙◌, arith}
use Rattle.paper.specs.IsTable.{field}
use Rattle.layout.proofs.Places.{turn}
use Rattle.entries.proofs.Runs.{run_more, run_fails}
use Rattle.entries.proofs.run_right.Goals as goal

pub returns-then-counts-next_of : goal.returns-then-counts-next_of
returns-then-counts-next_of c =
    let i = c.loop-k in
    sym (run_fails _ _ _ _ _ _ i.k _ _ (omega arith) (c.get-entry.ensures ∙ ap (λ (b : ℕ). field c.args.table.now b (10 + 2 * c.args.counts.modules)) i.invariant.1.0) c.next_of.ensures c.if-counts-next_of.true)

pub loop-k-preserved : goal.loop-k-preserved
loop-k-preserved c =
    let i = c.loop-k in
    let w : ℕ = 10 + 2 * c.args.counts.modules in
    (omega arith, (omega (arith, i.invariant.1.0, turn i.k w), run_more _ _ _ _ _ i.k _ _ i.invariant.1.1 (c.get-entry.ensures ∙ ap (λ (b : ℕ). field c.args.table.now b w) i.invariant.1.0) c.next_of.ensures (omega (arith, c.if-counts-next_of.false))))
