-- `react::give_orders` meets its contract. The invariant: the first i of eight places have the orders, and the flags, of the first i modules. A
-- module's flag says whether it is in the stopped set, since the modules ascend (`stopped-flag`).
-- Assumes nothing.
use mathlib.Core.List.{map}
use mathlib.Core.Path.{◌≡◌}
use lib.ListN.{take}
use Rattle.paper.specs.Reaction.{order, stays}
use Rattle.paper.specs.Calls.{eight}
use Rattle.rewrite.specs.Steps.{letter_of}
use Rattle.react.specs.States.{stopped_of, flags_of, runs_by, ruled}
use Rattle.react.proofs.give_orders.Given as goal

abbrev pub invariant-loop-i : goal.invariant-loop-i
invariant-loop-i l = record {
  orders_are : l.orders ≡ eight (map (ruled order (letter_of l.letter) (runs_by l.before) (runs_by l.after) (stopped_of l.modules l.stopped)) (take l.i l.modules));
  next_are : l.next ≡ flags_of (ruled stays (letter_of l.letter) (runs_by l.before) (runs_by l.after) (stopped_of l.modules l.stopped)) (take l.i l.modules);
}
