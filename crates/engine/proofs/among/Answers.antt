-- `engine::among` meets its contract, by the invariant.
use Rattle.engine.proofs.Names.{has_here, has_on, has_end}
use native.Mathlib.Omega.{arith}
use mathlib.Core.Path.{refl, sym, ◌∙◌}
use Rattle.engine.proofs.among.Goals as goal

pub loop-i-init : goal.loop-i-init
loop-i-init c = (omega arith, refl)

pub returns-then-n-names : goal.returns-then-n-names
returns-then-n-names c = sym (c.loop-i.invariant.1 ∙ has_here c.args.names.now c.args.n c.loop-i.i c.loop-i-test.true c.if-n-names.true)

pub loop-i-preserved : goal.loop-i-preserved
loop-i-preserved c = (omega arith, c.loop-i.invariant.1 ∙ has_on c.args.names.now c.args.n c.loop-i.i c.loop-i-test.true c.if-n-names.false)

pub returns : goal.returns
returns c = sym (c.loop-i.invariant.1 ∙ has_end c.args.names.now c.args.n c.loop-i.i c.loop-i-test.false)
