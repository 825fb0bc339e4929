-- `lists::lists_of` meets its contract, whichever line comes first (`Listed`). Assumes nothing.
use lib.ListN.{length}
use borrow.Author.Tests.{lt-ltb, le-ltb}
use Rattle.reader.proofs.Listed.{end-in, standard-first, fugitive-first}
use Rattle.reader.proofs.lists.lists_of.Goals as goal

pub letters_of-stored-requires : goal.letters_of-stored-requires
letters_of-stored-requires c = end-in (length c.args.file.now) c.args.lines.standard c.requires.lie.standard

pub letters_of-passing-requires : goal.letters_of-passing-requires
letters_of-passing-requires c = end-in (length c.args.file.now) c.args.lines.fugitive c.requires.lie.fugitive

pub returns-then-standard-fugitive : goal.returns-then-standard-fugitive
returns-then-standard-fugitive c =
    let ls = c.args.lines in
    standard-first c.args.file.now ls c.requires c.letters_of-stored.result c.letters_of-passing.result c.either-listed.result
    c.letters_of-stored.ensures.1
    c.letters_of-passing.ensures.1
    c.either-listed.ensures
    (lt-ltb ls.standard.line ls.fugitive.line c.if-standard-fugitive.true)

pub returns-else-standard-fugitive : goal.returns-else-standard-fugitive
returns-else-standard-fugitive c =
    let ls = c.args.lines in
    fugitive-first c.args.file.now ls c.requires c.letters_of-stored.result c.letters_of-passing.result c.either-listed.result
    c.letters_of-stored.ensures.1
    c.letters_of-passing.ensures.1
    c.either-listed.ensures
    (le-ltb ls.standard.line ls.fugitive.line c.if-standard-fugitive.false)
