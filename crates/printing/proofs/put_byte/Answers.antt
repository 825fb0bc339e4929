-- `printing::put_byte` meets its contract: one store, and what stands before and behind it is kept (`put_one`). Assumes nothing.
use Rattle.printing.proofs.Puts.{put_one}
use Rattle.printing.proofs.put_byte.Goals as goal

pub returns : goal.returns
returns c = put_one c.args.line.now c.args.at c.args.b c.requires
