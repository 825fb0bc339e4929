-- `joins::shared_event` meets its contract: the least over the events that are not fugitive is No. 14's place (`event-found`).
-- Assumes nothing.
use mathlib.Core.Path.{ap, ◌∙◌}
use Rattle.stars.specs.Nodes.{there}
use Rattle.joins.proofs.Passes.{event-found}
use Rattle.joins.proofs.shared_event.Goals as goal

pub returns : goal.returns
returns c = λ at q ls w t. c.answer.ensures ∙ (ap there c.shared.ensures ∙ event-found at q c.args.code.now c.args.left.now c.args.place.now c.args.n w c.args.fugitive ls t)
