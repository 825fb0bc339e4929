-- `joins::braces_joined` meets its contract. The invariant: the pass over all nodes is the pass from node i on, whatever the parts are worth; at the end it is
-- No. 16's place (`braces-found`).
-- Assumes nothing.
use mathlib.Core.Bool.{Bool}
use mathlib.Core.List.{List}
use lib.ListN.{length}
use Prim.Native.Nat.{ℕ, ◌-◌, ◌≤◌}
use Rattle.stars.specs.Nodes.{far, joining}
use Rattle.stars.proofs.Scans.{Passed}
use Rattle.joins.proofs.braces_joined.Given as goal

abbrev pub invariant-loop-i : goal.invariant-loop-i
invariant-loop-i l = (l.i ≤ l.n) × (l.best ≤ far) × ((left : List ℕ) → l.n ≤ length left → (ws : List Bool) × Passed joining l.code left l.place l.n l.i ws l.best)

abbrev pub decreases-loop-i : goal.decreases-loop-i
decreases-loop-i l = l.n - l.i
