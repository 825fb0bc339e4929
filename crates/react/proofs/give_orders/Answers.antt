-- `react::give_orders` meets its contract: the argument is in `Invariants`.
use mathlib.Core.Path.{ap, ◌∙◌}
use native.Mathlib.Omega.{arith}
use Rattle.paper.specs.Reaction.{order, stays}
use Rattle.paper.specs.Table.{flag}
use Rattle.rewrite.specs.Steps.{letter_of}
use Rattle.react.specs.States.{stopped_of, runs_by}
use Rattle.react.proofs.Flagged.{module-below, stopped-flag, flag_byte, ruled-at, eight-more}
use Rattle.react.proofs.give_orders.Goals as goal

pub bounds-before-m : goal.bounds-before-m
bounds-before-m c = omega (arith, module-below c.args.modules.now c.loop-i.i c.requires c.loop-i-test.true)

pub bounds-after-m : goal.bounds-after-m
bounds-after-m c = omega (arith, module-below c.args.modules.now c.loop-i.i c.requires c.loop-i-test.true)

pub loop-i-preserved : goal.loop-i-preserved
loop-i-preserved c =
    let x = c.loop-i in
    let a = c.args in
    let n = a.modules.now in
    let st = stopped_of n a.stopped in
    let h = stopped-flag 0 x.i n a.stopped c.requires.ascend c.loop-i-test.true in
    record {
      orders_are = eight-more _ n x.i _ x.orders x.invariant.orders_are (ruled-at order (letter_of a.letter) (runs_by a.before.now) (runs_by a.after.now) st c.order.ensures c.is_own-own.ensures h c.from-m.ensures) c.loop-i-test.true c.requires.few;
      next_are = eight-more _ n x.i _ x.next x.invariant.next_are (c.from.ensures ∙ (flag_byte _ ∙ ap flag (ruled-at stays (letter_of a.letter) (runs_by a.before.now) (runs_by a.after.now) st c.stays.ensures c.is_own-own.ensures h c.from-m.ensures))) c.loop-i-test.true c.requires.few;
    }
