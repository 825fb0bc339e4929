-- `syntax::read_program` meets its contract: what `text` says, with the lists cleared where it stops. Assumes nothing.
use Rattle.syntax.proofs.Programs.{text-stopped, outcome-read}
use Rattle.syntax.proofs.read_program.Goals as goal

pub returns-in_default : goal.returns-in_default
returns-in_default c = outcome-read c.args.s.now c.args.at c.args.code.now c.args.left.now c.args.place.now c.text-r.new.code c.text-r.new.left c.text-r.new.place c.in_default.is c.text-r.ensures

pub returns : goal.returns
returns c = record { stop = text-stopped c.args.s.now c.args.at c.args.code.now c.args.left.now c.args.place.now c.text-r.new.code c.text-r.new.left c.text-r.new.place c.in-Bad.is c.text-r.ensures; code = c.clear.ensures.0; left = c.clear.ensures.1; place = c.clear.ensures.2 }
