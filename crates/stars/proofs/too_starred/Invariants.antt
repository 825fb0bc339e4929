-- `stars::too_starred` meets its contract. The invariant: the pass over all nodes is the pass from node i on, over the worths in the array (`Scanned`), none
-- of which is above i; at the end it is No. 9's place (`stars-found`).
-- Assumes nothing.
use Prim.Native.Nat.{ℕ, ◌-◌, ◌≤◌}
use lib.ListN.{get_or}
use Rattle.stars.specs.Nodes.{nesting}
use Rattle.stars.proofs.Scans.{Scanned}
use Rattle.stars.proofs.too_starred.Given as goal

abbrev pub invariant-loop-i : goal.invariant-loop-i
invariant-loop-i l = Scanned nesting l.code l.left l.place l.n l.i l.nests l.best × (l.i ≤ l.n) × ((k : ℕ) → get_or l.nests k 0 ≤ l.i)

abbrev pub decreases-loop-i : goal.decreases-loop-i
decreases-loop-i l = l.n - l.i
