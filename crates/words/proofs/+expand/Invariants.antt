-- `words::expand` meets its contract. By the kind of the node, one law of `Drawing` each; parts stand below their node, so the node's number falls.
-- Assumes nothing.
use Rattle.words.proofs.+expand.Given as goal

abbrev pub decreases-expand : goal.decreases-expand
decreases-expand l = l.j
