-- `pack::put_high` meets its contract. The invariant: the first j bytes of high bits are written, and nothing else. Assumes nothing.
use lib.ListN.{drop}
use Rattle.coding.specs.Layout.{high}
use Rattle.pack.specs.Packing.{Wrote}
use Rattle.pack.proofs.put_high.Given as goal

abbrev pub invariant-loop-j : goal.invariant-loop-j
invariant-loop-j l = Wrote (high (drop l.s l.w)) 96 l.j l.initial.b l.b
