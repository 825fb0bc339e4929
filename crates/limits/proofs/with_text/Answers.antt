-- `limits::with_text` meets its contract: each call finds what the paper's check finds, and `then` puts it in its place (`then_is`).
-- Assumes nothing.
use mathlib.Core.Path.{sym, ap, ◌∙◌}
use lib.ListN.{drop}
use Rattle.paper.specs.Bytes.{is_module, is_event}
use Rattle.paper.specs.File.{unless, letters_of}
use Rattle.paper.specs.Limits.{unlisted, unused, ninth}
use Rattle.limits.proofs.Order.{then_is}
use Rattle.limits.proofs.with_text.Goals as goal

pub returns : goal.returns
returns c = λ rd a l.
    let e = unless (ninth is_event c.args.at (drop c.args.at c.args.s.now)) 12 a in
    let m = unless (ninth is_module c.args.at (drop c.args.at c.args.s.now)) 12 e in
    let u = unless (unused (drop c.args.at c.args.s.now) rd.listed) 11 m in
    then_is c.then-r-3.result c.then.result 12 (ninth is_event c.args.at (drop c.args.at c.args.s.now)) a (c.then.ensures a) c.ninth_event.ensures
    ∙ (then_is c.then-r-2.result c.then-r-3.result 12 (ninth is_module c.args.at (drop c.args.at c.args.s.now)) e (c.then-r-3.ensures e) c.ninth_module.ensures
    ∙ (then_is c.then-r.result c.then-r-2.result 11 (unused (drop c.args.at c.args.s.now) rd.listed) m (c.then-r-2.ensures m) (c.unused.ensures (drop c.args.at c.args.s.now) c.used-uses.ensures ∙ ap (unused (drop c.args.at c.args.s.now)) (sym l.are-listed))
    ∙ then_is c.args.r c.then-r.result 10 (unlisted (letters_of rd.listed) c.args.at (drop c.args.at c.args.s.now)) u (c.then-r.ensures u) (c.unlisted.ensures (letters_of rd.listed) l.tells_listed)))
