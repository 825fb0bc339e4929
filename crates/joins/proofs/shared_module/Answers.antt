-- `joins::shared_module` meets its contract: the least over all modules is No. 13's place (`module-found`).
-- Assumes nothing.
use mathlib.Core.Path.{ap, ◌∙◌}
use Rattle.stars.specs.Nodes.{there}
use Rattle.joins.proofs.Passes.{module-found}
use Rattle.joins.proofs.shared_module.Goals as goal

pub returns : goal.returns
returns c = λ at q w. c.answer.ensures ∙ (ap there c.shared.ensures ∙ module-found at q c.args.code.now c.args.left.now c.args.place.now c.args.n w)
