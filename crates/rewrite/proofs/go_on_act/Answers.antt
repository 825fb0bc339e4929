-- `rewrite::go_on_act` meets its contract. The two cases of `act_l`.
-- Assumes nothing.
use Rattle.laws.specs.Nodes.{intr}
use Rattle.words.proofs.Joins.{act-gone, act-still}
use Rattle.rewrite.proofs.go_on_act.Goals as goal

pub returns-then-a-e : goal.returns-then-a-e
returns-then-a-e c = λ D x ρ o m. act-gone x (intr c.args.p.now c.args.i) m c.if-a-e.true

pub returns-else-a-e : goal.returns-else-a-e
returns-else-a-e c = λ D x ρ o m. act-still _ _ c.args.i c.requires.0 c.requires.1.0 c.requires.1.1.0 o m c.if-a-e.false c.put_act.ensures
