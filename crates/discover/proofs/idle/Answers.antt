-- `discover::idle` meets its contract: the event of an occurrence passes or not; a completion never does. Assumes nothing.
use mathlib.Core.Path.{ap}
use Rattle.paper.proofs.Choices.{clash}
use Rattle.rewrite.specs.Steps.{letter_of}
use Rattle.discover.proofs.idle.Goals as goal

pub passes-requires : goal.passes-requires
passes-requires c = (c.requires.0, (c.requires.1.0, (c.requires.1.1.0, c.requires.1.1.1 _ (ap letter_of c.in-Occurrence.is))))

pub returns-in-Completion : goal.returns-in-Completion
returns-in-Completion c = λ q k ms o. clash (cc)

pub returns-in-Occurrence : goal.returns-in-Occurrence
returns-in-Occurrence c = λ q k ms o. (c.in-Occurrence.e, ap letter_of c.in-Occurrence.is, c.passes.ensures q k ms o)
