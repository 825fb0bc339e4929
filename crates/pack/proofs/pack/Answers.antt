-- `pack::pack` meets its contract: a right word's units have ten bits (`small_units`), and what the parts wrote is the state's code (`code_is`).
-- Assumes nothing.
use mathlib.Core.Path.{◌≡◌}
use lib.ListN.{length}
use Rattle.pack.proofs.Filled.{small_units, code_is}
use borrow.Author.Rules.{rules}
use Rattle.pack.proofs.pack.Goals as goal

pub put_high-requires : goal.put_high-requires
put_high-requires c = (search rules, (small_units c.requires, search rules))

pub returns : goal.returns
returns c =
    let l : length c.args.state.memory.events ≡ 8 = search rules in
    let two : length c.put_high.new.b ≡ 128 = search rules in
    let three : length c.put_marks.new.b ≡ 128 = search rules in
    code_is c.requires l c.put_low.ensures c.put_high.ensures two c.set_number.ensures c.put_marks.ensures three
