-- What is left to show of it; Invariants.antt tells the argument.
use Prim.Native.Nat.{◌-◌}
use mathlib.Core.Path.{◌≡◌, sym, ◌∙◌}
use native.Mathlib.Omega.{arith}
use lib.ListN.{get_or}
use Rattle.nodes.proofs.Sought.{seek-here, seek-next, seek-over}
use Rattle.nodes.proofs.find.Goals as goal

pub loop-i-init : goal.loop-i-init
loop-i-init c =
    let z : get_or c.args.nodes.now 576 0 - 0 ≡ get_or c.args.nodes.now 576 0 = omega arith in
    (omega arith, (omega arith, (omega arith, rw z)))

pub returns-then-has_columns : goal.returns-then-has_columns
returns-then-has_columns c = sym (seek-here c.args.nodes.now c.args.kind c.args.left c.args.right c.args.letter c.loop-i.i (get_or c.args.nodes.now 576 0) c.loop-i-test.true (sym c.has_columns.ensures ∙ c.if-has_columns.true)) ∙ c.loop-i.invariant.1.1.1

pub loop-i-preserved : goal.loop-i-preserved
loop-i-preserved c = (omega arith, (omega arith, (omega arith, sym (seek-next c.args.nodes.now c.args.kind c.args.left c.args.right c.args.letter c.loop-i.i (get_or c.args.nodes.now 576 0) c.loop-i-test.true (sym c.has_columns.ensures ∙ c.if-has_columns.false)) ∙ c.loop-i.invariant.1.1.1)))

pub returns : goal.returns
returns c = sym (seek-over c.args.nodes.now c.args.kind c.args.left c.args.right c.args.letter c.loop-i.i (get_or c.args.nodes.now 576 0) c.loop-i-test.false) ∙ c.loop-i.invariant.1.1.1
