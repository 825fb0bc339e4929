-- `rewrite::forget` meets its contract. The list less place i is the stored one less the place that leaves, while what follows moves up (`Shifting`).
-- Assumes nothing.
use Prim.Native.Nat.{◌-◌, ◌≤◌, ◌<◌}
use mathlib.Core.Path.{◌≡◌}
use lib.ListN.{length}
use Rattle.rewrite.specs.Stored.{removed}
use Rattle.rewrite.proofs.forget.Given as goal

abbrev pub invariant-loop-i : goal.invariant-loop-i
invariant-loop-i l = ((l.at ≤ l.i) × ((l.i ≤ l.n) × (l.n < 8))) × ((length l.events ≡ 8) × (removed l.i l.events ≡ removed l.at l.initial.events))

abbrev pub decreases-loop-i : goal.decreases-loop-i
decreases-loop-i l = l.n - l.i
