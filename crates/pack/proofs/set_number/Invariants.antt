-- `pack::set_number` meets its contract. The invariant: the number of the set of the modules from the i-th on. Assumes nothing.
use mathlib.Core.Path.{◌≡◌}
use lib.ListN.{drop}
use Rattle.react.specs.States.{stopped_of}
use Rattle.coding.specs.Layout.{set_number}
use Rattle.pack.proofs.set_number.Given as goal

abbrev pub invariant-loop-i : goal.invariant-loop-i
invariant-loop-i l = l.number ≡ set_number (drop l.i l.modules) (stopped_of l.modules l.stopped)
