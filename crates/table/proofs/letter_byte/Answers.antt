-- `table::letter_byte` meets its contract: the letters' bytes are the modules' and then the events' (`letter-module`, `letter-event`).
-- Assumes nothing.
use Rattle.table.proofs.Letters.{letter-module, letter-event}
use Rattle.table.proofs.letter_byte.Goals as goal

pub returns-then-index-counts : goal.returns-then-index-counts
returns-then-index-counts c = letter-module c.args.table.now c.args.counts c.args.index c.get-name.result c.requires.0.read c.if-index-counts.true c.get-name.ensures

pub returns-else-index-counts : goal.returns-else-index-counts
returns-else-index-counts c =
    letter-event c.args.table.now c.args.counts c.args.index c.get-name.result c.requires.0.read c.if-index-counts.false c.requires.1 c.get-name.ensures
