-- `react::runs_flags` meets its contract. The invariant: the first i of eight places have the flags of the first i modules, the others zeros.
-- Assumes nothing.
use Prim.Native.Nat.{ℕ}
use mathlib.Core.Path.{◌≡◌}
use lib.ListN.{take}
use Rattle.paper.specs.Running.{runs_l}
use Rattle.rewrite.specs.Steps.{state}
use Rattle.react.specs.States.{flags_of}
use Rattle.react.proofs.runs_flags.Given as goal

abbrev pub invariant-loop-i : goal.invariant-loop-i
invariant-loop-i l = l.flags ≡ flags_of (λ (m : ℕ). runs_l m (state l.p l.w l.s)) (take l.i l.modules)
