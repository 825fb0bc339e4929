-- `text::read_lines` meets its contract. The invariant is `Reached`: reading the lines from the place reached on, with what was read before, gives
-- what reading all of them gives. Assumes nothing.
use Prim.Native.Nat.{◌-◌}
use lib.ListN.{length}
use Rattle.text.proofs.Stepping.{Reached}
use Rattle.text.proofs.read_lines.Given as goal

abbrev pub invariant-loop-at : goal.invariant-loop-at
invariant-loop-at l = Reached l.file l.at l.lines l.seen

abbrev pub decreases-loop-at : goal.decreases-loop-at
decreases-loop-at l = length l.file - l.at
