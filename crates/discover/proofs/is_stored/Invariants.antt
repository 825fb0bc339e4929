-- The invariant of `discover::is_stored`: the event is stored from the first place on as it is from place k on; the measure: the places left. Assumes nothing.
use Prim.Native.Nat.{◌-◌, ◌≤◌}
use mathlib.Core.Path.{◌≡◌}
use lib.ListN.{take, drop}
use Rattle.paper.specs.Lists.{has}
use Rattle.discover.proofs.is_stored.Given as goal

abbrev pub invariant-loop-k : goal.invariant-loop-k
invariant-loop-k l = ((l.k ≤ l.n) × (l.n ≡ l.memory.count)) × (has l.e (take l.n l.memory.events) ≡ has l.e (drop l.k (take l.n l.memory.events)))

abbrev pub decreases-loop-k : goal.decreases-loop-k
decreases-loop-k l = l.n - l.k
