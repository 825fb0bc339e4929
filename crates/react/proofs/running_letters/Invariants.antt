-- `react::running_letters` meets its contract. The invariant: what runs from s on is what the flags say and what runs from the unit at hand on (`Seen`).
-- Assumes nothing.
use Rattle.react.proofs.Marking.{Seen}
use Rattle.react.proofs.running_letters.Given as goal

abbrev pub invariant-loop-unit : goal.invariant-loop-unit
invariant-loop-unit l = Seen l.p l.unit-items l.flags l.unit-index
