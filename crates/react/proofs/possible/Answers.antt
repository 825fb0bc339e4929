-- `react::possible` meets its contract: the two cases of `possible`; a state has one term at most, so what runs in its word runs in it.
-- Assumes nothing.
use native.Mathlib.Omega.{arith}
use mathlib.Core.Path.{ap}
use Rattle.rewrite.specs.Steps.{letter_of}
use Rattle.react.proofs.Reacting.{possible-completion, possible-occurrence}
use Rattle.react.proofs.possible.Goals as goal

pub running-requires : goal.running-requires
running-requires c =
    (c.requires.0.right, (omega (arith, c.requires.0.long, c.requires.0.within), omega (arith, c.requires.1 _ (ap letter_of c.in-Completion.is))))

pub returns-in-Completion : goal.returns-in-Completion
returns-in-Completion c = λ x e. possible-completion c.requires.0 x (ap letter_of c.in-Completion.is) e c.running.ensures

pub returns-in-Occurrence : goal.returns-in-Occurrence
returns-in-Occurrence c = λ x e. possible-occurrence x (ap letter_of c.in-Occurrence.is)
