-- `entries::run_right` meets its contract: `bit` is the place of the k-th entry, and the entries before it pass.
-- Assumes nothing.
use Rattle.std.proofs.Common.{◌≡◌, ◌≤◌, ◌-◌, ◌*◌, ◌+◌, true}
use Rattle.entries.specs.Entries.{run_right}
use Rattle.entries.proofs.run_right.Given as goal

abbrev pub invariant-loop-k : goal.invariant-loop-k
invariant-loop-k l = (l.k ≤ l.count) × ((l.bit ≡ l.from + l.k * (10 + l.down)) × (run_right l.table l.from l.k l.down l.counts.states l.round ≡ true))

abbrev pub decreases-loop-k : goal.decreases-loop-k
decreases-loop-k l = l.count - l.k
