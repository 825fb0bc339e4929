-- `readings::put_node` meets its contract: the depth that is left falls. Assumes nothing.
use Rattle.readings.proofs.+put_node.Given as goal

abbrev pub decreases-put_node : goal.decreases-put_node
decreases-put_node l = l.depth
