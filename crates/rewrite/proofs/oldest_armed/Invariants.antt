-- `rewrite::oldest_armed` meets its contract. The count up to the first armed event is k and the count from k on (`Leading`).
-- Assumes nothing.
use Prim.Native.Nat.{◌+◌, ◌-◌, ◌≤◌}
use mathlib.Core.Path.{◌≡◌}
use lib.ListN.{take, drop}
use Rattle.words.specs.Word.{terms}
use Rattle.rewrite.specs.Stored.{lead}
use Rattle.rewrite.proofs.oldest_armed.Given as goal

abbrev pub invariant-loop-k : goal.invariant-loop-k
invariant-loop-k l = ((l.k ≤ l.n) × (l.n ≡ l.memory.count)) × (lead (terms l.p (drop l.s l.w)) (take l.n l.memory.events) ≡ l.k + lead (terms l.p (drop l.s l.w)) (drop l.k (take l.n l.memory.events)))

abbrev pub decreases-loop-k : goal.decreases-loop-k
decreases-loop-k l = l.n - l.k
