-- `unpack::clear`: from unit n up to i there are zeros.
-- Assumes nothing.
use Prim.Native.Nat.{ℕ, ◌≤◌, ◌<◌}
use mathlib.Core.Path.{◌≡◌}
use Rattle.coding.specs.Layout.{unit_in}
use Rattle.unpack.proofs.clear.Given as goal

abbrev pub invariant-loop-i : goal.invariant-loop-i
invariant-loop-i l = (k : ℕ) → l.n ≤ k → k < l.i → unit_in l.live k ≡ 0
