-- `rewrite::rewrite_settled` meets its contract. Settling of what the rewriting left.
-- Assumes nothing.
use Rattle.rewrite.proofs.Served.{rests-by}
use mathlib.Core.Path.{ap, ◌∙◌}
use Rattle.paper.specs.Term.{Left}
use Rattle.paper.specs.Settling.{settled}
use Rattle.rewrite.specs.Stored.{stored}
use Rattle.rewrite.proofs.rewrite_settled.Goals as goal

pub settle-requires : goal.settle-requires
settle-requires c = (c.requires.0, (c.rewrite_state-r.ensures.0, (c.rewrite_state-r.auto.tmp ∙ c.requires.1.1.1.0, c.requires.1.1.1.1)))

pub returns : goal.returns
returns c =
    rests-by c.settle.result c.settle.ensures (ap (λ (l : Left). settled l (stored c.args.memory)) c.rewrite_state-r.ensures.1)
