-- `streams::frames` meets its contract. The invariant: however the calls that are left go in turn, so go all of them. Assumes nothing.
use Rattle.std.proofs.Common.{◌-◌}
use denote.Param.Always.{always_mut}
use Rattle.streams.specs.Turns.{InTurn}
use Rattle.streams.proofs.frames.Given as goal

abbrev pub invariant-loop : goal.invariant-loop
invariant-loop g l = record {
  callable : always_mut g.F.FnMut l.frame;
  turns : (r : _) (x : _) → InTurn g.F.FnMut (1000000 - l.counter) l.frame l.reader r x → InTurn g.F.FnMut 1000000 l.initial.frame l.initial.reader r x;
}
