-- `rewrite::go_on_seq` meets its contract. The two cases of `seq_l`: the first part is gone, or still there.
-- Assumes nothing.
use Rattle.words.proofs.Joins.{seq-gone, seq-still}
use Rattle.rewrite.proofs.go_on_seq.Goals as goal

pub returns-then-a-e : goal.returns-then-a-e
returns-then-a-e c = λ D x ρ m. seq-gone x m c.if-a-e.true c.expand.ensures

pub returns-else-a-e : goal.returns-else-a-e
returns-else-a-e c = λ D x ρ m. seq-still x c.args.y c.requires.0.table.nodes c.requires.0.here c.requires.0.term m c.if-a-e.false c.put.ensures
