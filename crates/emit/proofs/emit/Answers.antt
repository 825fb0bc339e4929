-- `emit::emit` meets its contract: the seven runs of writes are one, its bits are those of the table that the parts tell, and bits determine bytes
-- (`emitted`).
-- Assumes nothing.
use mathlib.Core.Path.{refl}
use Rattle.std.proofs.Common.{rules}
use Rattle.std.proofs.lemmas.Grind.{common_steps}
use native.Mathlib.Omega.{arith}
use Rattle.emit.proofs.Emitted.{emitted}
use Rattle.emit.proofs.emit.Goals as goal

pub returns : goal.returns
returns c =
    emitted c.put_head.ensures c.put_names.ensures c.put_names-2.ensures c.put_kinds.ensures c.put_running.ensures c.put_entries.ensures c.pad.ensures
    (omega arith) (search rules) refl (λ i. search rules) (λ i. (c.type_inv.out i).fits) (grind (arith, common_steps))
