-- `tokens::unused_in` meets its contract. The invariant: the answer is that of what is left of the list, for every text that the flags tell; each of its
-- bytes is an event, so its flag is its use.
-- Assumes nothing.
use Prim.Native.Nat.{ℕ, ◌-◌, ◌≤◌}
use mathlib.Core.Path.{◌≡◌}
use mathlib.Core.List.{List}
use lib.Seq.{slice}
use Rattle.paper.specs.File.{listed_from}
use Rattle.paper.specs.Limits.{unused}
use Rattle.letters.specs.Letters.{TellsFrom}
use Rattle.tokens.proofs.unused_in.Given as goal

abbrev pub invariant-loop-i : goal.invariant-loop-i
invariant-loop-i l = (l.from ≤ l.i) × ((v : List ℕ) → TellsFrom 65 l.used v → unused v (listed_from l.from (slice l.from l.to l.file)) ≡ unused v (listed_from l.i (slice l.i l.to l.file)))

abbrev pub decreases-loop-i : goal.decreases-loop-i
decreases-loop-i l = l.to - l.i
