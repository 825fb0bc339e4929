-- `rewrite::copy` meets its contract. From the end: from place i on the two agree.
-- Assumes nothing.
use Prim.Native.Nat.{◌≤◌}
use mathlib.Core.Path.{◌≡◌}
use lib.ListN.{length, drop}
use Rattle.rewrite.proofs.copy.Given as goal

abbrev pub invariant-loop-i : goal.invariant-loop-i
invariant-loop-i l = ((l.a ≤ l.i) × (l.i ≤ 96)) × ((length l.dst ≡ length l.initial.dst) × (drop l.i l.dst ≡ drop l.i l.src))

abbrev pub decreases-loop-i : goal.decreases-loop-i
decreases-loop-i l = l.i
