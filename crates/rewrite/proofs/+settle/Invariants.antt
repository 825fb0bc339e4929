-- `rewrite::settle` meets its contract. Each turn is one turn of the rules (`Served`), and takes one event out of the memory.
-- Assumes nothing.
use Rattle.rewrite.proofs.+settle.Given as goal

abbrev pub decreases-settle : goal.decreases-settle
decreases-settle l = l.memory.count
