-- What is left to show of it; Invariants.antt tells the argument.
use native.Mathlib.Omega.{arith}
use lib.ListN.{length-set, get_or}
use Rattle.nodes.specs.Made.{start}
use Rattle.nodes.proofs.Going.{going_start, going-left, going-roomy, going_next, going_end}
use Rattle.nodes.proofs.make_nodes.Goals as goal

pub clear-requires : goal.clear-requires
clear-requires c = tt

pub bounds-nodes-0 : goal.bounds-nodes-0
bounds-nodes-0 c = omega (arith, c.clear.auto, c.requires)

pub bounds-nodes-576 : goal.bounds-nodes-576
bounds-nodes-576 c = simp length-set (omega (arith, c.clear.auto, c.requires))

pub loop-i-init : goal.loop-i-init
unfolding start
loop-i-init c = going_start c.args.code.now c.args.left.now c.args.n _ (rw (c.clear.ensures, c.requires.nodes_long))

pub bounds-left-i : goal.bounds-left-i
bounds-left-i c = omega (arith, c.requires)

pub bounds-code-i : goal.bounds-code-i
bounds-code-i c = omega (arith, c.requires)

pub bounds-number-at : goal.bounds-number-at
bounds-number-at c = omega (arith, going-left c.requires c.loop-i.invariant c.loop-i-test.true, c.requires)

pub make_node-last-requires : goal.make_node-last-requires
make_node-last-requires c = (going-roomy c.requires c.loop-i.invariant c.loop-i-test.true, omega (arith, c.loop-i.invariant.small (get_or c.args.left.now c.loop-i.i 0), c.loop-i.invariant.few, c.requires))

pub bounds-number-i : goal.bounds-number-i
bounds-number-i c = omega (arith, c.requires)

pub overflow_add-i : goal.overflow_add-i
overflow_add-i c = omega (arith, c.requires)

pub loop-i-smaller : goal.loop-i-smaller
loop-i-smaller c = omega (arith, c.requires)

pub loop-i-preserved : goal.loop-i-preserved
loop-i-preserved c = going_next c.requires c.loop-i.invariant c.loop-i-test.true _ _ c.make_node-last.ensures

pub overflow_cast-result : goal.overflow_cast-result
overflow_cast-result c = omega (arith, c.loop-i.invariant, c.requires)

pub shape_of-nodes : goal.shape_of-nodes
shape_of-nodes c = omega (arith, c.loop-i.invariant, c.requires)

pub returns : goal.returns
returns c = going_end c.loop-i.invariant c.loop-i-test.false
