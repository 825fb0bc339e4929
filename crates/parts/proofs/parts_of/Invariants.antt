-- `parts::parts_of` meets its contract. The invariant: n and the parts from the unit at hand on are all of them (`Summed`).
-- Assumes nothing.
use Rattle.parts.proofs.Units.{Summed}
use Rattle.parts.proofs.parts_of.Given as goal

abbrev pub invariant-loop-unit : goal.invariant-loop-unit
invariant-loop-unit l = Summed l.p l.unit-items l.n l.unit-index
