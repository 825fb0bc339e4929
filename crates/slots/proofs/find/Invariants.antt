-- `slots::find`: b is none of the blocks behind the next one, and that is of its bucket (`Sought`); the measure: how far up it stands, since links lead down.
-- Assumes nothing.
use Rattle.std.specs.Prelude.{IfSome}
use Prim.Native.Nat.{ℕ, ◌<◌}
use mathlib.Core.Path.{◌≡◌}
use mathlib.Core.List.{List}
use lib.ListN.{length}
use Rattle.slots.specs.Slots.{Holds}
use Rattle.slots.proofs.Searching.{place, Sought}
use Rattle.slots.proofs.find.Given as goal

abbrev pub invariant-loop-next : goal.invariant-loop-next
invariant-loop-next l = IfSome l.next (λ i. i < l.count) × ((cs : List (List ℕ)) → Holds l.work l.index cs → length cs ≡ l.count → Sought cs l.b (place l.next))

abbrev pub decreases-loop-next : goal.decreases-loop-next
decreases-loop-next l = place l.next
