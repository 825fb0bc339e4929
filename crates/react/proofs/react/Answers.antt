-- `react::react` meets its contract: the parts of a reaction are those of the rules, at the end and before it (`comes-ended`, `comes-still`).
-- Assumes nothing.
use Rattle.paper.specs.Reaction.{moved}
use Rattle.rewrite.specs.Steps.{letter_of, state}
use Rattle.rewrite.specs.Stored.{stored}
use Rattle.react.proofs.Reacting.{left-stands, comes-still, comes-ended}
use Rattle.react.proofs.react.Goals as goal
use Rattle.react.proofs.react.Goals.{then-start-eq96, else-start-eq96}

pub running_letters-after-requires : goal.running_letters-after-requires
running_letters-after-requires c =
    let a = c.args in
    left-stands (letter_of a.letter) _ c.advance-next.result (λ q. moved q (letter_of a.letter) (state a.p.now a.w.now a.state.start) (stored a.state.memory)) c.advance-next.ensures

pub returns : goal.returns
returns c =
    let a = c.args in
    λ q k. elim c.if-start-eq96.branch [ then-start-eq96 w ↦ rw w.stopped-is (comes-ended a.p.now a.w.now _ a.state q (letter_of a.letter) c.advance-next.result c.give_orders.result k.modules_are c.requires.modules c.running_letters-before.ensures c.running_letters-after.ensures (c.advance-next.ensures q k.fugitive_is) c.give_orders.ensures w.if-start-eq96.true) | else-start-eq96 w ↦ rw w.stopped-is (comes-still a.p.now a.w.now _ a.state q (letter_of a.letter) c.advance-next.result c.give_orders.result k.modules_are c.requires.modules c.running_letters-before.ensures c.running_letters-after.ensures (c.advance-next.ensures q k.fugitive_is) c.give_orders.ensures w.if-start-eq96.false) ]
