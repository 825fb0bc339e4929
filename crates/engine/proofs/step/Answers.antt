-- `engine::step` meets its contract: No. 1, the reader's refusal, or the step (`Whole`). Assumes nothing.
use Rattle.engine.proofs.Whole.{short-step, came, refused-step, accepted-step}
use Rattle.engine.specs.Live.{outcome}
use Rattle.engine.proofs.step.Goals as goal

pub returns-then-live-ne128 : goal.returns-then-live-ne128
returns-then-live-ne128 c = short-step c.args.file.now c.args.live.now c.args.letter c.if-live-ne128.true c.refuse.result c.refuse.ensures

pub turn_read-requires : goal.turn_read-requires
turn_read-requires c = ((came c.args.file.now c.read-p.result c.read-p.new.nodes c.read-p.new.weights c.read-p.ensures c.in-Accepted.is).it, c.if-live-ne128.false)

pub returns-in-Refused : goal.returns-in-Refused
returns-in-Refused c = refused-step c.args.file.now c.args.live.now c.if-live-ne128.false c.read-p.result c.read-p.new.nodes c.read-p.new.weights c.read-p.ensures c.args.letter c.in-Refused.number c.in-Refused.place c.in-Refused.is c.refuse-in-Refused.result c.refuse-in-Refused.ensures

pub returns-in-Accepted : goal.returns-in-Accepted
returns-in-Accepted c = let x = came c.args.file.now c.read-p.result c.read-p.new.nodes c.read-p.new.weights c.read-p.ensures c.in-Accepted.is in accepted-step c.args.file.now c.args.live.now c.if-live-ne128.false x.it.program x.is c.args.letter (outcome c.turn_read.result c.turn_read.new.live) (c.turn_read.ensures x.it.program x.it.reads)
