-- `pack::put_low` meets its contract. The invariant: the first i units' low bytes are written, and nothing else. Assumes nothing.
use lib.ListN.{drop}
use Rattle.coding.specs.Layout.{low}
use Rattle.pack.specs.Packing.{Wrote}
use Rattle.pack.proofs.put_low.Given as goal

abbrev pub invariant-loop-i : goal.invariant-loop-i
invariant-loop-i l = Wrote (low (drop l.s l.w)) 0 l.i l.initial.b l.b
