-- `slots::hash`: h is the hash of the last eight bytes and the fours so far.
-- Assumes nothing.
use mathlib.Core.Path.{◌≡◌}
use Rattle.slots.specs.Slots.{hash_up}
use Rattle.slots.proofs.hash.Given as goal

abbrev pub invariant-loop-i : goal.invariant-loop-i
invariant-loop-i l = l.h ≡ hash_up l.b l.i
