-- `text::kinds::is_module` meets its contract: the table has this number at a module letter alone. Assumes nothing.
use mathlib.Core.Path.{ap, ◌∙◌}
use Prim.Native.Nat.{ℕ}
use lib.Dec.{eqb}
use borrow.Author.Rules.{rules}
use Rattle.text.proofs.Rule.{kind_number-module}
use Rattle.text.proofs.kinds.is_module.Goals as goal

pub returns : goal.returns
returns c = ap (λ (n : ℕ). eqb n 1) c.kind.ensures ∙ kind_number-module c.args.b (search rules)
