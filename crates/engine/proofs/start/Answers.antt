-- `engine::start` meets its contract: No. 1, the reader's refusal, or the start (`Whole`). Assumes nothing.
use Rattle.engine.proofs.Whole.{short-start, came, refused-start, accepted-start}
use Rattle.engine.specs.Live.{outcome}
use Rattle.engine.proofs.start.Goals as goal

pub returns-then-live-ne128 : goal.returns-then-live-ne128
returns-then-live-ne128 c = short-start c.args.file.now c.args.live.now c.if-live-ne128.true c.refuse.result c.refuse.ensures

pub begin_read-requires : goal.begin_read-requires
begin_read-requires c = let x = (came c.args.file.now c.read-p.result c.read-p.new.nodes c.read-p.new.weights c.read-p.ensures c.in-Accepted.is).it in (record { program = x.program; reads = x.reads }, c.if-live-ne128.false)

pub returns-in-Refused : goal.returns-in-Refused
returns-in-Refused c = refused-start c.args.file.now c.args.live.now c.if-live-ne128.false c.read-p.result c.read-p.new.nodes c.read-p.new.weights c.read-p.ensures c.in-Refused.number c.in-Refused.place c.in-Refused.is c.refuse-in-Refused.result c.refuse-in-Refused.ensures

pub returns-in-Accepted : goal.returns-in-Accepted
returns-in-Accepted c = let x = came c.args.file.now c.read-p.result c.read-p.new.nodes c.read-p.new.weights c.read-p.ensures c.in-Accepted.is in accepted-start c.args.file.now c.args.live.now c.if-live-ne128.false x.it.program x.is (outcome c.begin_read.result c.begin_read.new.live) (c.begin_read.ensures x.it.program x.it.reads)
