-- `joins::shared` meets its contract. The invariant: the pass over all nodes is the pass from node i on, over the sets in the array (`Scanned`).
-- Assumes nothing.
use mathlib.Core.Bool.{false, not}
use Prim.Native.Nat.{ℕ, ◌-◌, ◌≤◌}
use lib.ListN.{get_or}
use Rattle.stars.proofs.Scans.{Scanned}
use Rattle.joins.specs.Sets.{sharing_any}
use Rattle.joins.proofs.shared.Given as goal

abbrev pub invariant-loop-i : goal.invariant-loop-i
invariant-loop-i l = Scanned (sharing_any l.base (λ (k : ℕ). not (get_or l.skip k false))) l.code l.left l.place l.n l.i l.sets l.best × (l.i ≤ l.n)

abbrev pub decreases-loop-i : goal.decreases-loop-i
decreases-loop-i l = l.n - l.i
