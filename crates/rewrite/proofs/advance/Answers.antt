-- `rewrite::advance` meets its contract. The cases of `moved`: the end, a completion, an occurrence (`Occurring`).
-- Assumes nothing.
use Rattle.rewrite.proofs.Served.{rests-by}
use native.Mathlib.Omega.{arith}
use mathlib.Core.Path.{ap}
use Rattle.rewrite.specs.Steps.{letter_of}
use Rattle.rewrite.specs.Stored.{stored}
use Rattle.rewrite.proofs.Occurring.{moved-ended, moved-completion, moved-occurrence}
use Rattle.rewrite.proofs.advance.Goals as goal

pub returns-then-s-eq96 : goal.returns-then-s-eq96
returns-then-s-eq96 c = λ q k. (c.requires.1.0, (moved-ended c.requires.1.0 q (letter_of c.args.letter) (stored c.args.memory) (omega (arith, c.if-s-eq96.true)), c.requires.1.1.1.0))

pub rewrite_settled-requires : goal.rewrite_settled-requires
rewrite_settled-requires c = (c.requires.0, (c.requires.1.0, ((omega (arith, c.if-s-eq96.false, c.requires.1.0.within)), (c.requires.1.1.0, c.requires.1.1.1.0))))

pub occur-requires : goal.occur-requires
occur-requires c = (c.requires.0, (c.requires.1.0, ((omega (arith, c.if-s-eq96.false, c.requires.1.0.within)), (c.requires.1.1.0, (c.requires.1.1.1.0, c.requires.1.1.1.1 _ (ap letter_of c.in-Occurrence.is))))))

pub returns-in-Completion : goal.returns-in-Completion
returns-in-Completion c = λ q k. rests-by c.rewrite_settled.result c.rewrite_settled.ensures (moved-completion c.requires.1.0 q (letter_of c.args.letter) _ (stored c.args.memory) (omega (arith, c.if-s-eq96.false, c.requires.1.0.within)) (ap letter_of c.in-Completion.is))

pub returns-in-Occurrence : goal.returns-in-Occurrence
returns-in-Occurrence c = λ q k. rests-by c.occur.result (c.occur.ensures q (k _ (ap letter_of c.in-Occurrence.is))) (moved-occurrence c.requires.1.0 q (letter_of c.args.letter) _ (stored c.args.memory) (omega (arith, c.if-s-eq96.false, c.requires.1.0.within)) (ap letter_of c.in-Occurrence.is))
