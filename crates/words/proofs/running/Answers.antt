-- `words::running` meets its contract: a module's unit stands there exactly when it runs (`Runs`).
-- Assumes nothing.
use mathlib.Core.Path.{◌∙◌}
use Rattle.words.proofs.Runs.{runs_any}
use Rattle.words.proofs.running.Goals as goal

pub returns : goal.returns
returns c = c.contains.ensures.value ∙ runs_any c.args.p.now c.args.m c.args.src.now c.args.s c.number.result c.number.ensures c.requires.0
