-- `words::headed` meets its contract. A join's heads are those of its parts, which stand below it, so the node's number falls (`Heads`).
-- Assumes nothing.
use Rattle.words.proofs.+headed.Given as goal

abbrev pub decreases-headed : goal.decreases-headed
decreases-headed l = l.i
