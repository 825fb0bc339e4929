-- `emit::put_head` meets its contract: the four writes, one after the other.
-- Assumes nothing.
use Rattle.fields.proofs.Runs.{puts_then}
use Rattle.emit.proofs.put_head.Goals as goal

pub returns : goal.returns
returns c = puts_then (puts_then (puts_then c.append.ensures c.append-2.ensures) c.append-3.ensures) c.append-4.ensures
