-- `valid::ascending` meets its contract: the names before the k-th ascend, and `least` is the least that may follow (`least_of`).
-- Assumes nothing.
use Rattle.std.proofs.Common.{◌≡◌, true}
use Rattle.paper.specs.IsTable.{ascend}
use Rattle.valid.proofs.Names.{least_of}
use Rattle.valid.proofs.ascending.Given as goal

abbrev pub invariant-loop-k : goal.invariant-loop-k
invariant-loop-k l = (l.least ≡ least_of l.table l.from l.k) × (ascend l.table l.from l.k ≡ true)
