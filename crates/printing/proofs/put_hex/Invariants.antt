-- `printing::put_hex` meets its contract. The invariant: the digits of the first i bytes are put; the measure: the bytes left. Assumes nothing.
use Prim.Native.Nat.{◌≤◌, ◌+◌, ◌*◌, ◌-◌}
use mathlib.Core.Path.{◌≡◌}
use lib.ListN.{length, take}
use Rattle.paper.specs.Programs.{hex}
use Rattle.printing.specs.Lines.{Put}
use Rattle.printing.proofs.put_hex.Given as goal

abbrev pub invariant-loop-i : goal.invariant-loop-i
invariant-loop-i l = (l.i ≤ l.size) × ((l.end ≡ l.at + 2 * l.i) × ((length l.line ≡ length l.initial.line) × Put l.initial.line l.line l.at (hex (take l.i l.table)) l.end))

abbrev pub decreases-loop-i : goal.decreases-loop-i
decreases-loop-i l = l.size - l.i
