-- `printing::put_text` meets its contract. The invariant: the first i bytes of the part are put; the measure: the bytes left. Assumes nothing.
use Prim.Native.Nat.{◌≤◌, ◌+◌, ◌-◌}
use mathlib.Core.Path.{◌≡◌}
use lib.ListN.{length, take}
use Rattle.printing.specs.Lines.{Put}
use Rattle.printing.proofs.put_text.Given as goal

abbrev pub invariant-loop-i : goal.invariant-loop-i
invariant-loop-i l = (l.i ≤ length l.part) × ((l.end ≡ l.at + l.i) × ((length l.line ≡ length l.initial.line) × Put l.initial.line l.line l.at (take l.i l.part) l.end))

abbrev pub decreases-loop-i : goal.decreases-loop-i
decreases-loop-i l = length l.part - l.i
