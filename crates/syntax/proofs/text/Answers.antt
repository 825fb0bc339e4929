-- `syntax::text` meets its contract: behind the sequence stand `.` and the end, or the text stops there (`Programs`). Assumes nothing.
use mathlib.Core.Path.{refl, sym, ◌∙◌}
use native.Mathlib.Omega.{arith}
use Rattle.syntax.proofs.Steps.{byte-in}
use Rattle.syntax.proofs.Reading.{said_at, said-bad}
use Rattle.syntax.proofs.Programs.{text-bad, text-undotted, text-beyond, text-read, text-stops}
use Rattle.syntax.proofs.text.Goals as goal

pub returns-in_default : goal.returns-in_default
returns-in_default c = text-stops c.args.s.now c.args.at c.args.code.now c.args.left.now c.args.place.now c.sequence-r.new.code c.sequence-r.new.left c.sequence-r.new.place c.in_default.is (text-bad (said-bad c.in_default.is c.sequence-r.ensures))

pub returns-then-not-is : goal.returns-then-not-is
returns-then-not-is c = text-undotted (said_at c.in-At.is c.sequence-r.ensures) (sym c.is.ensures ∙ c.if-not-is.true)

pub overflow_add-end : goal.overflow_add-end
overflow_add-end c = omega (arith, byte-in c.args.s.now c.in-At.next 46 refl (sym c.is.ensures ∙ c.if-not-is.false), c.requires.s_len_bound)

pub returns-then-end-s : goal.returns-then-end-s
returns-then-end-s c = text-beyond (said_at c.in-At.is c.sequence-r.ensures) (sym c.is.ensures ∙ c.if-not-is.false) c.if-end-s.true

pub returns : goal.returns
returns c = text-read (said_at c.in-At.is c.sequence-r.ensures) (sym c.is.ensures ∙ c.if-not-is.false) c.if-end-s.false
