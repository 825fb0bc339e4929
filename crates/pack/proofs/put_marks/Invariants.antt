-- `pack::put_marks` meets its contract. The invariant: the first j pairs of marks are written, and nothing else. Assumes nothing.
use Rattle.rewrite.specs.Stored.{stored}
use Rattle.coding.specs.Layout.{pair, marks_of}
use Rattle.pack.specs.Packing.{Wrote}
use Rattle.pack.proofs.put_marks.Given as goal

abbrev pub invariant-loop-j : goal.invariant-loop-j
invariant-loop-j l = Wrote (pair (marks_of l.events (stored l.memory))) 122 l.j l.initial.b l.b
