-- `checks::line_found` meets its contract. Assumes nothing.
use mathlib.Core.Path.{sym, ap}
use mathlib.Core.Bool.{Bool, cond}
use mathlib.Core.Option.{none, some}
use Rattle.paper.specs.Refusals.{line_of}
use Rattle.text.specs.Spans.{value_at}
use Rattle.reader.proofs.checks.line_found.Goals as goal

pub returns-then-span : goal.returns-then-span
returns-then-span c = λ bs. sym (ap (λ (t : Bool). line_of (cond t (some (value_at bs c.args.span)) none)) c.if-span.true)

pub returns-else-span : goal.returns-else-span
returns-else-span c = λ bs. sym (ap (λ (t : Bool). line_of (cond t (some (value_at bs c.args.span)) none)) c.if-span.false)
