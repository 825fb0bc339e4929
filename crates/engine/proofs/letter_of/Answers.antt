-- `engine::letter_of` meets its contract: a byte's kind decides in which list its letter is looked for. Assumes nothing.
use Rattle.engine.proofs.Names.{module-low, event-low, letter-module, letter-no-module, letter-event, letter-no-event, letter-other}
use native.Mathlib.Omega.{arith}
use mathlib.Core.Path.{sym, ◌∙◌}
use Rattle.engine.proofs.letter_of.Goals as goal

pub overflow_sub-m : goal.overflow_sub-m
overflow_sub-m c = omega (arith, module-low c.args.b (sym c.is_module.ensures ∙ c.if-is_module.true))

pub returns-then-among : goal.returns-then-among
returns-then-among c = λ q l. letter-module q c.args.modules.now c.args.events.now l c.args.b (sym c.is_module.ensures ∙ c.if-is_module.true) (sym c.among.ensures ∙ c.if-among.true)

pub returns-then-is_module : goal.returns-then-is_module
returns-then-is_module c = λ q l. letter-no-module q c.args.modules.now c.args.events.now l c.args.b (sym c.is_module.ensures ∙ c.if-is_module.true) (sym c.among.ensures ∙ c.if-among.false)

pub overflow_sub-e : goal.overflow_sub-e
overflow_sub-e c = omega (arith, event-low c.args.b (sym c.is_event.ensures ∙ c.if-is_event.true))

pub returns-then-among-2 : goal.returns-then-among-2
returns-then-among-2 c = λ q l. letter-event q c.args.modules.now c.args.events.now l c.args.b (sym c.is_module.ensures ∙ c.if-is_module.false) (sym c.is_event.ensures ∙ c.if-is_event.true) (sym c.among-then-is_event.ensures ∙ c.if-among-2.true)

pub returns-else-among-2 : goal.returns-else-among-2
returns-else-among-2 c = λ q l. letter-no-event q c.args.modules.now c.args.events.now l c.args.b (sym c.is_module.ensures ∙ c.if-is_module.false) (sym c.is_event.ensures ∙ c.if-is_event.true) (sym c.among-then-is_event.ensures ∙ c.if-among-2.false)

pub returns-else-is_event : goal.returns-else-is_event
returns-else-is_event c = λ q l. letter-other q c.args.modules.now c.args.events.now l c.args.b (sym c.is_module.ensures ∙ c.if-is_module.false) (sym c.is_event.ensures ∙ c.if-is_event.false)
