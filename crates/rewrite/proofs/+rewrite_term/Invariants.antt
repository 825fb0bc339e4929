-- `rewrite::rewrite_term` meets its contract. By the unit (`Tops`): the parts are rewritten first, the right side of `||` before the left, and the join goes on. What is left of the slice falls.
-- Assumes nothing.
use lib.ListN.{length}
use Prim.Native.Nat.{◌-◌}
use Rattle.rewrite.proofs.+rewrite_term.Given as goal

abbrev pub decreases-rewrite_term : goal.decreases-rewrite_term
decreases-rewrite_term l = length l.src.now - l.s
