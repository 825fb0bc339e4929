-- The loop of `lists::either`: below l the flags are those of either list (`Either`).
use Prim.Native.Nat.{◌≤◌, ◌-◌}
use Rattle.reader.proofs.Either.{Joined}
use Rattle.reader.proofs.lists.either.Given as goal

abbrev pub invariant-loop-l : goal.invariant-loop-l
invariant-loop-l l = (l.l ≤ 26) × Joined l.initial.flags l.b l.flags l.l

abbrev pub decreases-loop-l : goal.decreases-loop-l
decreases-loop-l l = 26 - l.l
