-- `streams::read_full` meets its contract; Invariants.antt says by what. Assumes nothing.
use Rattle.std.proofs.Common.{rules}
use Rattle.streams.proofs.Filling.{more}
use Rattle.streams.proofs.read_full.Goals as goal

pub loop-done-preserved : goal.loop-done-preserved
loop-done-preserved g c = record {
  room = search rules;
  front = more _ _ _ _ _ _ _ _ c.loop-done.invariant.room (c.in_ok-n.ensures.bound.0) c.loop-done.invariant.front c.in_ok-n.ensures.bytes.0;
}
