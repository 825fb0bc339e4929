-- The loop of `text::list`: up to the place reached the letters are new, and marked, for whatever was listed before.
use Prim.Native.Nat.{ℕ, ◌≤◌, ◌-◌}
use mathlib.Core.List.{List}
use Rattle.text.specs.Steps.{Marks}
use Rattle.text.proofs.Letters.{Heard}
use Rattle.text.proofs.list.Given as goal

abbrev pub invariant-loop-i : goal.invariant-loop-i
invariant-loop-i l = (l.from ≤ l.i) × (l.i ≤ l.to) × ((before : List ℕ) → Marks l.initial.seen before → Heard l.file l.from l.to before l.i l.seen)

abbrev pub decreases-loop-i : goal.decreases-loop-i
decreases-loop-i l = l.to - l.i
