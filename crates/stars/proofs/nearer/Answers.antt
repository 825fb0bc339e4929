-- `stars::nearer` meets its contract: what does not count is far, and the least of a place and far is the place.
-- Assumes nothing.
use mathlib.Core.Path.{ap}
use mathlib.Core.Bool.{Bool, cond}
use native.Mathlib.Omega.{arith}
use Prim.Native.Nat.{min}
use Rattle.stars.specs.Nodes.{far}
use Rattle.stars.proofs.nearer.Goals as goal

pub returns-then-place-best : goal.returns-then-place-best
returns-then-place-best c = let e = ap (λ (t : Bool). min c.args.best (cond t c.args.place far)) c.if-counts.true in (omega (arith, e), omega arith)

pub returns-else-place-best : goal.returns-else-place-best
returns-else-place-best c = let e = ap (λ (t : Bool). min c.args.best (cond t c.args.place far)) c.if-counts.true in (omega (arith, e), omega arith)

pub returns-else-counts : goal.returns-else-counts
returns-else-counts c = let e = ap (λ (t : Bool). min c.args.best (cond t c.args.place far)) c.if-counts.false in (omega (arith, e), omega arith)
