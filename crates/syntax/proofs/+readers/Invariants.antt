-- A reader's measure is eight times the bytes left, and a rank that falls where a reader calls another at its own place. Assumes nothing.
use lib.ListN.{length}
use Prim.Native.Nat.{◌+◌, ◌*◌, ◌-◌}
use Rattle.syntax.proofs.+readers.Given as goal

abbrev pub decreases-atom : goal.decreases-atom
decreases-atom l = 8 * (length l.s.now - l.at) + 0

abbrev pub decreases-body : goal.decreases-body
decreases-body l = 8 * (length l.s.now - l.at) + 4

abbrev pub decreases-braces : goal.decreases-braces
decreases-braces l = 8 * (length l.s.now - l.at) + 0

abbrev pub decreases-chain : goal.decreases-chain
decreases-chain l = 8 * (length l.s.now - l.at) + 2

abbrev pub decreases-event : goal.decreases-event
decreases-event l = 8 * (length l.s.now - l.at) + 0

abbrev pub decreases-interruption : goal.decreases-interruption
decreases-interruption l = 8 * (length l.s.now - l.at) + 1

abbrev pub decreases-item : goal.decreases-item
decreases-item l = 8 * (length l.s.now - l.at) + 2

abbrev pub decreases-sequence : goal.decreases-sequence
decreases-sequence l = 8 * (length l.s.now - l.at) + 3

abbrev pub decreases-starred : goal.decreases-starred
decreases-starred l = 8 * (length l.s.now - l.at) + 1
