-- `emit::pad` meets its contract: the bits of 0 are zeros, and they end a byte (`padded`).
-- Assumes nothing.
use Rattle.emit.proofs.Loops.{padded}
use Rattle.emit.proofs.pad.Goals as goal

pub returns : goal.returns
returns c = padded c.args.w.now c.append.new.self c.append.ensures
