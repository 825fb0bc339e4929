-- `parts::parts_of` meets its contract: the argument is in `Invariants`.
use borrow.Author.Rules.{rules}
use Rattle.std.proofs.lemmas.List.{take_rest}
use Rattle.parts.proofs.Units.{summed-start, summed-meant, summed-next, summed-end}
use Rattle.parts.proofs.parts_of.Goals as goal

pub loop-unit-init : goal.loop-unit-init
loop-unit-init c = rw take_rest (summed-start c.requires.1.right)

pub unit_parts-requires : goal.unit_parts-requires
unit_parts-requires c = (c.requires.0, summed-meant c.loop-unit.invariant (search rules) c.of.ensures.says)

pub loop-unit-preserved : goal.loop-unit-preserved
loop-unit-preserved c = summed-next c.loop-unit.invariant (search rules) c.of.ensures.says c.unit_parts.ensures c.plus-n.ensures

pub returns : goal.returns
returns c = summed-end c.requires.1 (rw take_rest at c.loop-unit.invariant) (rw take_rest at c.loop-unit-test.false)
