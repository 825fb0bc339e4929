-- `parts::count_parts` meets its contract. The invariant: the nodes below i have their parts, capped.
-- Assumes nothing.
use Prim.Native.Nat.{ℕ, ◌<◌}
use mathlib.Core.Path.{◌≡◌}
use lib.ListN.{get_or}
use Rattle.parts.specs.Parts.{capped, node_parts}
use Rattle.parts.proofs.count_parts.Given as goal

abbrev pub invariant-loop-i : goal.invariant-loop-i
invariant-loop-i l = (j : ℕ) → j < l.i → get_or l.sizes j 0 ≡ capped (node_parts l.nodes j)
