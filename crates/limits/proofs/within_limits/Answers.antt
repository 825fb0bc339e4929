-- `limits::within_limits` meets its contract: each call finds what the paper's check finds, and `then` puts it in its place (`then_is`).
-- Assumes nothing.
use mathlib.Core.Path.{◌∙◌}
use lib.ListN.{drop}
use Rattle.paper.specs.File.{unless}
use Rattle.paper.specs.Limits.{over96, too_deep, too_starred}
use Rattle.paper.specs.Refusals.{within_limits}
use Rattle.limits.specs.declared.Checked.TheVariants.{Fine}
use Rattle.limits.proofs.Order.{then_is}
use Rattle.limits.proofs.within_limits.Goals as goal

pub returns : goal.returns
unfolding within_limits
returns c = λ q a w.
    let stars = too_starred c.args.at q in
    let b = unless stars 9 a in
    let d = unless (too_deep c.args.at (drop c.args.at c.args.s.now)) 9 b in
    then_is c.then-r-2.result c.then.result 9 stars a (c.then.ensures a) (c.too_starred.ensures c.args.at q w)
    ∙ (then_is c.then-r.result c.then-r-2.result 9 (too_deep c.args.at (drop c.args.at c.args.s.now)) b (c.then-r-2.ensures b) c.too_deep.ensures
    ∙ then_is Fine c.then-r.result 9 (over96 c.args.at (drop c.args.at c.args.s.now)) d (c.then-r.ensures d) c.over_96.ensures)
