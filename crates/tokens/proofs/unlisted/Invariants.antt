-- `tokens::unlisted` meets its contract. The invariant: the answer is that of what is left of the text, for every list that the flags tell.
-- Assumes nothing.
use Prim.Native.Nat.{ℕ, ◌-◌}
use mathlib.Core.Path.{◌≡◌}
use mathlib.Core.Bool.{not, ◌&&◌}
use mathlib.Core.List.{List}
use lib.ListN.{length, drop}
use Rattle.paper.specs.Lists.{has, first_place}
use Rattle.paper.specs.Bytes.{is_event}
use Rattle.paper.specs.Limits.{unlisted}
use Rattle.letters.specs.Letters.{Tells}
use Rattle.tokens.proofs.unlisted.Given as goal

abbrev pub invariant-loop-i : goal.invariant-loop-i
invariant-loop-i l = (ls : List ℕ) → Tells l.listed ls → unlisted ls l.at (drop l.at l.s) ≡ first_place (λ b. is_event b && not (has (b - 65) ls)) l.i (drop l.i l.s)

abbrev pub decreases-loop-i : goal.decreases-loop-i
decreases-loop-i l = length l.s - l.i
