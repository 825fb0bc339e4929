-- `emit::put_entries`: the bits of the entries so far are put.
-- Assumes nothing.
use Prim.Native.Nat.{◌+◌, ◌*◌}
use Rattle.emit.specs.Fills.{entry_word}
use Rattle.emit.proofs.Loops.{Going}
use Rattle.emit.proofs.put_entries.Given as goal

abbrev pub invariant-loop-entry : goal.invariant-loop-entry
invariant-loop-entry l = Going (entry_word l.n) l.entries (10 + 2 * l.n) l.initial.w l.w l.entry-index
