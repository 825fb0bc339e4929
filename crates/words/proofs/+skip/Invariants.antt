-- `words::skip` meets its contract. The place past a unit's word is the place past the words of its parts (`Reading`); what is left of the slice falls.
-- Assumes nothing.
use lib.ListN.{length}
use Prim.Native.Nat.{◌-◌}
use Rattle.words.proofs.+skip.Given as goal

abbrev pub decreases-skip : goal.decreases-skip
decreases-skip l = length l.src.now - l.s
