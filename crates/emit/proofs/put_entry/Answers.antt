-- `emit::put_entry` meets its contract: the three writes are one of all the entry's bits (`word-put`).
-- Assumes nothing.
use Rattle.emit.proofs.Words.{word-put}
use Rattle.emit.proofs.put_entry.Goals as goal

pub returns : goal.returns
returns c = word-put c.args.n c.args.entry c.requires.1 c.append.ensures c.append-2.ensures c.append-3.ensures
