-- `unpack::fill` meets its contract, by the invariant of its loop.
-- Assumes nothing.
use native.Mathlib.Omega.{arith}
use Rattle.unpack.proofs.Loops.{filled}
use Rattle.unpack.proofs.fill.Goals as goal

pub returns : goal.returns
returns c = filled c.args.live.now c.loop-i.w (omega arith) (λ k h. c.loop-i.invariant k (omega arith))
