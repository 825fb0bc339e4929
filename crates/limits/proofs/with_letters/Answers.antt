-- `limits::with_letters` meets its contract: each call finds what the paper's check finds, and `then` puts it in its place (`then_is`).
-- Assumes nothing.
use mathlib.Core.Path.{◌∙◌}
use Rattle.paper.specs.Grammar.{event_byte}
use Rattle.paper.specs.File.{unless}
use Rattle.paper.specs.Limits.{shared_module, shared_event}
use Rattle.paper.specs.Refusals.{ascending, fugitive_text, with_letters}
use Rattle.limits.proofs.Order.{then_is}
use Rattle.limits.proofs.with_letters.Goals as goal

pub returns : goal.returns
unfolding with_letters
returns c = λ rd q a w l.
    let fugitive = ascending event_byte (fugitive_text rd.fugitive) in
    let e = unless (shared_event fugitive c.args.at q) 14 a in
    let m = unless (shared_module c.args.at q) 13 e in
    then_is c.then-r.result c.then.result 14 (shared_event fugitive c.args.at q) a (c.then.ensures a) (c.shared_event.ensures c.args.at q fugitive w l.tells_fugitive)
    ∙ (then_is c.with_text-r.result c.then-r.result 13 (shared_module c.args.at q) e (c.then-r.ensures e) (c.shared_module.ensures c.args.at q w)
    ∙ c.with_text-r.ensures rd m l)
