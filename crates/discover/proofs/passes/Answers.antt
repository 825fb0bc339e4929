-- `discover::passes` meets its contract: the three kinds of `Idle`, as the code tells them apart (`Idling`). Assumes nothing.
use mathlib.Core.Path.{sym, ◌∙◌}
use native.Mathlib.Omega.{arith}
use Rattle.std.proofs.lemmas.Bool.{not-true}
use Rattle.discover.proofs.Idling.{idle-end, idle-fugitive, idle-stored}
use Rattle.discover.proofs.passes.Goals as goal

pub returns-then-state-eq96 : goal.returns-then-state-eq96
returns-then-state-eq96 c = λ q k ms o. idle-end c.args.state c.requires.1.0 q c.args.e ms (omega (arith, c.if-state-eq96.true))

pub returns-then-fugitive-e : goal.returns-then-fugitive-e
returns-then-fugitive-e c = λ q k ms o. idle-fugitive c.args.state c.requires.1.0 q c.args.e ms (omega (arith, c.if-state-eq96, c.requires.1.0.within)) (sym (k c.args.e c.requires.1.1.1) ∙ c.if-fugitive-e.true) (sym c.event_armed.ensures ∙ not-true _ o)

pub returns-else-fugitive-e : goal.returns-else-fugitive-e
returns-else-fugitive-e c = λ q k ms o. idle-stored c.args.state c.requires.1.0 q c.args.e ms (sym (k c.args.e c.requires.1.1.1) ∙ c.if-fugitive-e.false) (sym c.is_stored.ensures ∙ o)
