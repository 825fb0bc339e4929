-- `unpack::is_fresh`: the events are fresh where those that are left are.
-- Assumes nothing.
use mathlib.Core.Path.{◌≡◌}
use lib.ListN.{drop}
use Rattle.unpack.specs.Unpacking.{fresh}
use Rattle.unpack.proofs.is_fresh.Given as goal

abbrev pub invariant-loop-i : goal.invariant-loop-i
invariant-loop-i l = fresh l.fugitive l.stored ≡ fresh l.fugitive (drop l.i l.stored)
