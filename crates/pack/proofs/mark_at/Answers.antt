-- `pack::mark_at` meets its contract: a stored event is one of the program's, so its mark is small (`mark-in`, `mark-small`), and none stands behind
-- the last.
-- Assumes nothing.
use native.Mathlib.Omega.{arith}
use lib.ListN.{length}
use Rattle.pack.proofs.Numbers.{mark-in, mark-small, mark-behind}
use mathlib.Core.Path.{◌≡◌, sym}
use borrow.Author.Rules.{rules}
use Rattle.pack.proofs.mark_at.Goals as goal

pub overflow_add-result : goal.overflow_add-result
overflow_add-result c =
    let l : length c.args.memory.events ≡ 8 = search rules in
    omega (arith, mark-in c.args.events.now c.args.memory l c.requires c.args.i c.place_of.result c.if-i-memory.true c.place_of.ensures, mark-small c.args.events.now c.args.memory l c.requires c.args.i)

pub returns-then-i-memory : goal.returns-then-i-memory
returns-then-i-memory c =
    let l : length c.args.memory.events ≡ 8 = search rules in
    let e = mark-in c.args.events.now c.args.memory l c.requires c.args.i c.place_of.result c.if-i-memory.true c.place_of.ensures in
    (e, omega (arith, e, mark-small c.args.events.now c.args.memory l c.requires c.args.i))

pub returns-else-i-memory : goal.returns-else-i-memory
returns-else-i-memory c =
    let l : length c.args.memory.events ≡ 8 = search rules in
    (sym (mark-behind c.args.events.now c.args.memory l c.requires c.args.i (omega arith)), omega arith)
