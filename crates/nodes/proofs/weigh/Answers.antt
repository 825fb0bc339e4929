-- What is left to show of it; Invariants.antt tells the argument.
use native.Mathlib.Omega.{arith}
use Rattle.nodes.proofs.Weighing.{weighing-start, weighing-small, weighing-next, weighing-end}
use Rattle.nodes.proofs.weigh.Goals as goal

pub bounds-nodes-576 : goal.bounds-nodes-576
bounds-nodes-576 c = omega (arith, c.requires.nodes.long)

pub overflow_cast-count : goal.overflow_cast-count
overflow_cast-count c = omega (arith, c.requires.nodes.few)

pub loop-i-init : goal.loop-i-init
loop-i-init c = weighing-start c.args.nodes.now c.args.w.now

pub overflow_add-l : goal.overflow_add-l
overflow_add-l c = omega (arith, c.requires.nodes.long, c.requires.nodes.few)

pub bounds-nodes-i : goal.bounds-nodes-i
bounds-nodes-i c = omega (arith, c.requires.nodes.long, c.requires.nodes.few)

pub overflow_cast-l : goal.overflow_cast-l
overflow_cast-l c = omega (arith, c.requires.nodes.lower c.loop-i.i, c.requires.nodes.few)

pub overflow_add-r : goal.overflow_add-r
overflow_add-r c = omega (arith, c.requires.nodes.long, c.requires.nodes.few)

pub bounds-nodes-i-in-loop-i : goal.bounds-nodes-i-in-loop-i
bounds-nodes-i-in-loop-i c = omega (arith, c.requires.nodes.long, c.requires.nodes.few)

pub overflow_cast-r : goal.overflow_cast-r
overflow_cast-r c = omega (arith, c.requires.nodes.righter c.loop-i.i, c.requires.nodes.few)

pub bounds-nodes-i-in-loop-i-2 : goal.bounds-nodes-i-in-loop-i-2
bounds-nodes-i-in-loop-i-2 c = omega (arith, c.requires.nodes.long, c.requires.nodes.few)

pub bounds-w-l : goal.bounds-w-l
bounds-w-l c = omega (arith, c.requires.nodes.lower c.loop-i.i, c.requires.nodes.righter c.loop-i.i, c.loop-i.invariant.long, c.requires.places)

pub bounds-w-r : goal.bounds-w-r
bounds-w-r c = omega (arith, c.requires.nodes.lower c.loop-i.i, c.requires.nodes.righter c.loop-i.i, c.loop-i.invariant.long, c.requires.places)

pub row_weight-requires : goal.row_weight-requires
row_weight-requires c = weighing-small c.requires c.loop-i.invariant c.loop-i-test.true

pub bounds-w-i : goal.bounds-w-i
bounds-w-i c = omega (arith, c.loop-i.invariant.long, c.requires.places)

pub overflow_add-i : goal.overflow_add-i
overflow_add-i c = omega (arith, c.requires.nodes.long, c.requires.nodes.few)

pub loop-i-preserved : goal.loop-i-preserved
loop-i-preserved c = weighing-next c.requires c.loop-i.invariant c.loop-i-test.true (omega (arith, c.loop-i.invariant.long, c.requires.places)) _ c.row_weight.ensures

pub shape_of-w : goal.shape_of-w
shape_of-w c = c.loop-i.invariant.long

pub returns : goal.returns
returns c = weighing-end c.loop-i.invariant c.loop-i-test.false
