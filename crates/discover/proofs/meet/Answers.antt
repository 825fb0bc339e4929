-- `discover::meet` meets its contract: a letter at which nothing changes leads back (`Idling`), any other is `arrive`'s. Assumes nothing.
use Rattle.rewrite.specs.Steps.{letter_of}
use Rattle.react.specs.States.{state_of}
use Rattle.engine.proofs.Going.{event-small}
use Rattle.discover.proofs.Idling.{idle-back}
use Rattle.discover.proofs.meet.Goals as goal

pub idle-requires : goal.idle-requires
idle-requires c = (c.requires.runs.loaded.table, (c.requires.runs.stands, (c.requires.runs.few, λ e k. event-small c.requires.runs.program c.args.nodes.now c.args.modules.now c.args.events.now c.requires.runs.loaded c.args.w.now c.args.state (letter_of c.args.letter) c.requires.runs.stated e k)))

pub returns-then-idle : goal.returns-then-idle
returns-then-idle c = λ q d k h ss seen e i. idle-back q d.fit (state_of c.args.nodes.now c.args.w.now c.args.modules.now c.args.state) h.written ss c.args.k i c.args.work.now c.args.index.now seen (letter_of c.args.letter) (c.idle.ensures q k c.args.modules.now c.if-idle.true) c.args.count c.entry_of.result e c.entry_of.ensures

pub returns : goal.returns
returns c = λ q d k h ss seen e i. c.arrive.ensures q d k h ss seen e
