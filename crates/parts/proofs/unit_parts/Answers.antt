-- `parts::unit_parts` meets its contract: its node is one of the table's, and has its count (`Units`). Assumes nothing.
use mathlib.Core.Path.{◌∙◌}
use native.Mathlib.Omega.{arith}
use Rattle.parts.proofs.Units.{unit_place, unit_adds, wait-place, wait-adds}
use Rattle.parts.proofs.unit_parts.Goals as goal

pub offset_bounds-sizes-node-in-Sequence : goal.offset_bounds-sizes-node-in-Sequence
offset_bounds-sizes-node-in-Sequence c = omega (arith, unit_place c.requires.0 c.args.unit c.in-Sequence.is c.requires.1)

pub bounds-sizes-node-in-Sequence : goal.bounds-sizes-node-in-Sequence
bounds-sizes-node-in-Sequence c = (unit_place c.requires.0 c.args.unit c.in-Sequence.is c.requires.1).1

pub offset_bounds-sizes-node : goal.offset_bounds-sizes-node
offset_bounds-sizes-node c = omega (arith, wait-place c.requires.0 (rw c.in-Wait.is at c.requires.1))

pub bounds-sizes-node : goal.bounds-sizes-node
bounds-sizes-node c = (wait-place c.requires.0 (rw c.in-Wait.is at c.requires.1)).1

pub returns-in-Sequence : goal.returns-in-Sequence
returns-in-Sequence c = c.plus-in-Sequence.ensures ∙ unit_adds c.requires.0 c.args.unit c.in-Sequence.is c.requires.1

pub returns-in-Wait : goal.returns-in-Wait
returns-in-Wait c = rw c.in-Wait.is (c.plus.ensures ∙ wait-adds c.requires.0 (rw c.in-Wait.is at c.requires.1))
