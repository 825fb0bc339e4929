-- `slots::hash` meets its contract, by the invariant of its loop.
-- Assumes nothing.
use Rattle.slots.proofs.Buckets.{hash-on, hash-start}
use Rattle.slots.proofs.hash.Goals as goal

pub loop-i-init : goal.loop-i-init
loop-i-init c = cc (hash-start c.args.b.now)

pub loop-i-preserved : goal.loop-i-preserved
loop-i-preserved c = cc (hash-on c.args.b.now c.loop-i.i)
