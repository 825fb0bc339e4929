-- `text::kinds::is_event` meets its contract: the table has this number at an event letter alone. Assumes nothing.
use mathlib.Core.Path.{ap, ◌∙◌}
use Prim.Native.Nat.{ℕ}
use lib.Dec.{eqb}
use borrow.Author.Rules.{rules}
use Rattle.text.proofs.Rule.{kind_number-event}
use Rattle.text.proofs.kinds.is_event.Goals as goal

pub returns : goal.returns
returns c = ap (λ (n : ℕ). eqb n 2) c.kind.ensures ∙ kind_number-event c.args.b (search rules)
