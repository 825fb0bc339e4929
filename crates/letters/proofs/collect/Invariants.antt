-- `letters::collect` meets its contract. The invariant: the array holds the numbers below l whose flag is set, and zeros behind them; at most eight are set
-- in all, so there is room for the next.
-- Assumes nothing.
use Rattle.letters.proofs.Padded.{padded}
use Prim.Native.Nat.{ℕ, ◌-◌, ◌≤◌}
use mathlib.Core.Path.{◌≡◌}
use mathlib.Core.Bool.{false}
use lib.ListN.{length, get_or}
use Rattle.paper.specs.Lists.{keep, below}
use Rattle.letters.proofs.collect.Given as goal

abbrev pub invariant-loop-l : goal.invariant-loop-l
invariant-loop-l l = (l.l ≤ 26) × (l.count ≡ length (keep (λ (k : ℕ). get_or l.flags k false) (below l.l))) × (l.letters ≡ padded 8 0 (keep (λ (k : ℕ). get_or l.flags k false) (below l.l)))

abbrev pub decreases-loop-l : goal.decreases-loop-l
decreases-loop-l l = 26 - l.l
