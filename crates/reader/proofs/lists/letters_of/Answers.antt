-- `lists::letters_of` meets its contract: the list ends within the file. Assumes nothing.
use borrow.Author.Rules.{rules}
use Rattle.reader.proofs.lists.letters_of.Goals as goal

pub returns : goal.returns
returns c = (search rules, c.used.ensures)
