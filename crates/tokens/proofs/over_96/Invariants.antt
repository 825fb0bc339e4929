-- `tokens::over_96` meets its contract. The invariant: the answer is the token numbered 96 less the count, from 0, of what is left of the text.
-- Assumes nothing.
use Prim.Native.Nat.{◌-◌, ◌≤◌}
use mathlib.Core.Path.{◌≡◌}
use lib.ListN.{length, drop, get_elem?}
use Rattle.paper.specs.Limits.{tokens_from, over96}
use Rattle.tokens.proofs.over_96.Given as goal

abbrev pub invariant-loop-i : goal.invariant-loop-i
invariant-loop-i l = (l.count ≤ 96) × (over96 l.at (drop l.at l.s) ≡ get_elem? (tokens_from l.half l.i (drop l.i l.s)) (96 - l.count))

abbrev pub decreases-loop-i : goal.decreases-loop-i
decreases-loop-i l = length l.s - l.i
