-- `limits::for_basic` meets its contract: each call finds what the paper's check finds, and `then` puts it in its place (`then_is`).
-- Assumes nothing.
use mathlib.Core.Path.{◌∙◌}
use Rattle.paper.specs.File.{unless}
use Rattle.paper.specs.Limits.{braces_joined}
use Rattle.paper.specs.Refusals.{line_of, for_edition}
use Rattle.limits.specs.declared.Checked.TheVariants.{Fine}
use Rattle.limits.proofs.Order.{then_is}
use Rattle.limits.proofs.for_basic.Goals as goal

pub returns : goal.returns
unfolding for_edition
returns c = λ rd at q left a w e.
    let b = unless (braces_joined at q) 16 a in
    then_is c.then-r.result c.then.result 16 (braces_joined at q) a (c.then.ensures a) (c.braces_joined.ensures at q left w)
    ∙ then_is Fine c.then-r.result 15 (line_of rd.fugitive) b (c.then-r.ensures b) e
