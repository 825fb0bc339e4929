-- `text::kinds::kind` meets its contract: the rule of the table, at the byte's entry. Assumes nothing.
use borrow.Author.Rules.{rules}
use Rattle.text.proofs.Rule.{kinds, kinds-number}
use Rattle.text.proofs.kinds.kind.Goals as goal

pub returns : goal.returns
unfolding kinds
returns c = kinds-number c.args.b (search rules)
