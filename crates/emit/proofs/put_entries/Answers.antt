-- `emit::put_entries` meets its contract, by the invariant of its loop.
-- Assumes nothing.
use Prim.Native.Nat.{◌+◌, ◌*◌}
use mathlib.Core.Path.{refl}
use Rattle.emit.specs.Fills.{entry_word}
use Rattle.emit.proofs.Loops.{going-none, going-more}
use Rattle.emit.proofs.put_entries.Goals as goal

pub loop-entry-init : goal.loop-entry-init
loop-entry-init c = going-none (entry_word c.args.n) c.args.entries.now (10 + 2 * c.args.n) c.args.w.now

pub loop-entry-preserved : goal.loop-entry-preserved
loop-entry-preserved c = going-more c.loop-entry.invariant c.loop-entry-test.true refl c.put_entry.ensures
