-- `tokens::too_deep` meets its contract. The invariant: the answer is that of what is left of the text with `deep` open, which are at most 16.
-- Assumes nothing.
use Prim.Native.Nat.{◌-◌, ◌≤◌}
use mathlib.Core.Path.{◌≡◌}
use lib.ListN.{length, drop}
use Rattle.paper.specs.Limits.{deeper, too_deep}
use Rattle.tokens.proofs.too_deep.Given as goal

abbrev pub invariant-loop-i : goal.invariant-loop-i
invariant-loop-i l = (l.deep ≤ 16) × (too_deep l.at (drop l.at l.s) ≡ deeper l.deep l.i (drop l.i l.s))

abbrev pub decreases-loop-i : goal.decreases-loop-i
decreases-loop-i l = length l.s - l.i
