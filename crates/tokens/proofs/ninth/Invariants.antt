-- `tokens::ninth` meets its contract. The invariant: there is a list of the letters seen, which the flags tell and the count measures, and the answer is that
-- of what is left of the text after them (`Seen`).
-- Assumes nothing.
use Prim.Native.Nat.{◌-◌, ◌≤◌}
use lib.ListN.{length}
use Rattle.letters.proofs.Few.{Seen}
use Rattle.tokens.proofs.ninth.Given as goal

abbrev pub invariant-loop-i : goal.invariant-loop-i
invariant-loop-i l = (l.count ≤ 8) × Seen l.base l.s l.at l.seen l.count l.i

abbrev pub decreases-loop-i : goal.decreases-loop-i
decreases-loop-i l = length l.s - l.i
