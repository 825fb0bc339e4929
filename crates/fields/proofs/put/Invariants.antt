-- `fields::put` meets its contract: the loop's invariant: the first k bits of the field are written, and no others. One more bit is one more of the
-- paste (`put-more`).
-- Assumes nothing.
use mathlib.Core.Path.{◌≡◌}
use lib.Seq.{paste}
use Rattle.paper.specs.Table.{bits}
use Rattle.paper.specs.IsTable.{bits_of}
use Rattle.fields.proofs.put.Given as goal

abbrev pub invariant-loop-k : goal.invariant-loop-k
invariant-loop-k l = bits_of l.out ≡ paste (bits_of l.initial.out) l.bit (bits l.width l.v) l.k
