-- `rewrite::strikes` meets its contract. The letter is what the match found it to be.
-- Assumes nothing.
use mathlib.Core.Path.{ap, sym, ◌∙◌}
use Rattle.paper.specs.Rewriting.{strikes}
use Rattle.laws.specs.Nodes.{intr}
use Rattle.rewrite.specs.declared.Letter.{Letter}
use Rattle.rewrite.specs.Steps.{letter_of}
use Rattle.rewrite.proofs.strikes.Goals as goal

pub returns-in-Occurrence : goal.returns-in-Occurrence
returns-in-Occurrence c = c.headed.ensures ∙ ap (λ (l : Letter). strikes (letter_of l) (intr c.args.p.now c.args.i)) (sym c.in-Occurrence.is)
