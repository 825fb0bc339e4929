-- `walk::walk` meets its contract: the argument is in `Invariants`.
use Rattle.std.proofs.Common.{◌≡◌, ◌-◌, ◌∙◌, refl, arith, lit<}
use Rattle.walk.proofs.Units.{tell_no, tell-leb}
use Rattle.walk.proofs.Walked.{walked_none, again, behind, walked-not, walked-heavy, walked_more, room, walked-sound, walked-two}
use Rattle.walk.proofs.walk.Goals as goal

pub loop-i-init : goal.loop-i-init
loop-i-init c = record { above = c.requires.1.1.1; walked = rw c.new-stack.ensures (walked_none c.args.p.now c.args.modules.now c.args.w.now c.requires.1.0) }

pub weigh_unit-requires : goal.weigh_unit-requires
weigh_unit-requires c = (c.requires.0, (c.loop-i.auto.tmp ∙ c.requires.1.1.0, behind _ (again c.loop-i.invariant.walked (omega (arith, c.loop-i-test.true))) c.requires.1.0))

pub returns-in_default : goal.returns-in_default
returns-in_default c = tell_no _ refl (λ x. walked-not (c.loop-i.i - 1) (again c.loop-i.invariant.walked (omega (arith, c.loop-i-test.true))) c.requires.1.0 c.args.s (omega (arith, c.loop-i-test.true)) c.in_default.ensures.judged x.0)

pub returns-then-weight-gt96 : goal.returns-then-weight-gt96
returns-then-weight-gt96 c = tell_no _ refl (λ x. walked-heavy (c.loop-i.i - 1) (again c.loop-i.invariant.walked (omega (arith, c.loop-i-test.true))) c.requires.1.0 c.args.s _ (omega (arith, c.loop-i-test.true)) c.in-Some.ensures.judged c.if-weight-gt96.true x.0)

pub push-requires : goal.push-requires
push-requires c = (lit< tt, room _ (again c.loop-i.invariant.walked (omega (arith, c.loop-i-test.true))) c.requires.1.0 _ c.in-Some.ensures.taken)

pub loop-i-preserved : goal.loop-i-preserved
loop-i-preserved c = record {
  above = omega (arith, c.loop-i-test.true);
  walked = rw c.push.ensures.items (walked_more (c.loop-i.i - 1) (again c.loop-i.invariant.walked (omega (arith, c.loop-i-test.true))) c.requires.1.0 _ _ c.in-Some.ensures.judged c.if-weight-gt96.false c.in-Some.ensures.taken);
}

pub returns : goal.returns
returns c =
    let e : c.loop-i.i ≡ c.args.s = omega (arith, c.loop-i-test.false, c.loop-i.invariant.above) in
    let w = rw e at c.loop-i.invariant.walked in
    tell-leb c.len.result 1 (λ h. walked-sound w (omega (arith, c.len.ensures.value))) (λ h. walked-two w (omega (arith, c.len.ensures.value)))
