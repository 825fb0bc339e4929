-- `fields::put` meets its contract: one bit more is one more of what is pasted (`put-more`).
-- Assumes nothing.
use native.Mathlib.Omega.{arith}
use Rattle.fields.proofs.Puts.{put-more}
use Rattle.fields.proofs.put.Goals as goal

pub loop-k-preserved : goal.loop-k-preserved
loop-k-preserved c =
    let a = c.args in
    let i = c.loop-k in
    put-more a.out.now i.out c.put_bit.new.out a.bit a.width a.v i.k i.invariant c.put_bit.ensures (omega arith) c.requires.1.0
