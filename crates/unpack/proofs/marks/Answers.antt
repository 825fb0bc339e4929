-- `unpack::marks` meets its contract, by the invariant of its loop.
-- Assumes nothing.
use native.Mathlib.Omega.{arith}
use Prim.Native.Nat.{◌+◌}
use lib.ListN.{drop, length-set, length-take}
use Rattle.unpack.proofs.Loops.{marks-more}
use Rattle.unpack.proofs.marks.Goals as goal

pub loop-i-preserved : goal.loop-i-preserved
loop-i-preserved c =
    let i = c.loop-i.i in
    (simp length-set c.loop-i.invariant.0, marks-more c.args.live.now c.loop-i.marks i _ _ c.loop-i.invariant.0 (omega (arith, c.loop-i-test.true, length-take 4 (drop 122 c.args.live.now))) (omega (arith, c.type_inv.live (122 + i))) c.loop-i.invariant.1 c.from.ensures c.from-in-loop-i.ensures)
