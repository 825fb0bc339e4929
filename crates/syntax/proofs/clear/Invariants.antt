-- The elements so far are zeros, the others as before; the measure: what is left of 192. Assumes nothing.
use Prim.Native.Nat.{◌≤◌, ◌-◌}
use mathlib.Core.Path.{◌≡◌}
use Rattle.syntax.proofs.Clears.{cleared}
use Rattle.syntax.proofs.clear.Given as goal

abbrev pub invariant-loop-i : goal.invariant-loop-i
invariant-loop-i l = (l.i ≤ 192) × (l.code ≡ cleared l.i l.initial.code) × (l.left ≡ cleared l.i l.initial.left) × (l.place ≡ cleared l.i l.initial.place)

abbrev pub decreases-loop-i : goal.decreases-loop-i
decreases-loop-i l = 192 - l.i
