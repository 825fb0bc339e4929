-- `nodes::row_weight` meets its contract: the kind says which case of `row_weight` holds, and no sum in it is larger than the whole. Assumes nothing.
use mathlib.Core.Path.{sym}
use native.Mathlib.Omega.{arith}
use Rattle.nodes.specs.Weights.{row_weight}
use Rattle.nodes.proofs.Weighing.{row-seq, row-star, row-act, row-beside, row-nothing}
use Rattle.nodes.proofs.row_weight.Goals as goal

pub overflow_add-larger : goal.overflow_add-larger
overflow_add-larger c = omega (arith, row-seq c.args.k c.args.l c.args.r c.in-2.is, c.requires, c.larger.ensures)

pub overflow_add-result : goal.overflow_add-result
overflow_add-result c = omega (arith, row-beside c.args.k c.args.l c.args.r c.in-3.is, c.requires, c.larger-in-3.ensures, c.larger-in-3-2.ensures)

pub overflow_add-result-in-3 : goal.overflow_add-result-in-3
overflow_add-result-in-3 c = omega (arith, row-beside c.args.k c.args.l c.args.r c.in-3.is, c.requires, c.larger-in-3.ensures, c.larger-in-3-2.ensures)

pub overflow_add-result-in-4 : goal.overflow_add-result-in-4
overflow_add-result-in-4 c = omega (arith, row-star c.args.k c.args.l c.args.r c.in-4.is, c.requires, c.larger-in-4.ensures)

pub overflow_add-l : goal.overflow_add-l
overflow_add-l c = omega (arith, row-act c.args.k c.args.l c.args.r c.in-5.is, c.requires)

pub returns-in-0 : goal.returns-in-0
unfolding row_weight
returns-in-0 c = rw c.in-0.is

pub returns-in-2 : goal.returns-in-2
returns-in-2 c = omega (arith, row-seq c.args.k c.args.l c.args.r c.in-2.is, c.larger.ensures, c.larger-in-2.ensures)

pub returns-in-3 : goal.returns-in-3
returns-in-3 c = omega (arith, row-beside c.args.k c.args.l c.args.r c.in-3.is, c.larger-in-3.ensures, c.larger-in-3-2.ensures)

pub returns-in-4 : goal.returns-in-4
returns-in-4 c = omega (arith, row-star c.args.k c.args.l c.args.r c.in-4.is, c.larger-in-4.ensures)

pub returns-in-5 : goal.returns-in-5
returns-in-5 c = omega (arith, row-act c.args.k c.args.l c.args.r c.in-5.is, c.larger-in-5.ensures)

pub returns-in-7 : goal.returns-in-7
unfolding row_weight
returns-in-7 c = rw c.in-7.is

pub returns-in-8 : goal.returns-in-8
unfolding row_weight
returns-in-8 c = rw c.in-8.is c.larger-in-8.ensures

pub returns-in_default : goal.returns-in_default
returns-in_default c = sym (row-nothing c.args.k c.args.l c.args.r (omega arith) (omega arith) (omega arith) (omega arith) (omega arith) (omega arith) (omega arith))
