-- `letters::used` meets its contract. The invariant: a letter is used from `at` on where its flag is set or it stands in what is left of the text
-- (`Between`).
-- Assumes nothing.
use Prim.Native.Nat.{◌-◌}
use mathlib.Core.Path.{◌≡◌}
use lib.ListN.{length}
use Rattle.letters.proofs.Flags.{Between}
use Rattle.letters.proofs.used.Given as goal

abbrev pub invariant-loop-i : goal.invariant-loop-i
invariant-loop-i l = (length l.flags ≡ 26) × Between l.base l.flags l.s l.i l.at

abbrev pub decreases-loop-i : goal.decreases-loop-i
decreases-loop-i l = length l.s - l.i
