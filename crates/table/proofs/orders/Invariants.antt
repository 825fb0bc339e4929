-- `table::orders` meets its contract: the places before the module's hold the fields so far, and the others zeros (`orders_more`).
-- Assumes nothing.
use Rattle.std.proofs.Common.{◌≡◌}
use Rattle.paper.specs.Calls.{eight}
use Rattle.table.specs.Answers.{fields_from}
use Rattle.table.proofs.orders.Given as goal

abbrev pub invariant-loop-module : goal.invariant-loop-module
invariant-loop-module l = l.orders ≡ eight (fields_from l.table l.bit l.width l.module)
