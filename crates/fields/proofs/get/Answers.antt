-- `fields::get` meets its contract: shift and mask take the part of the window that the field is (`get-field`).
-- Assumes nothing.
use Prim.Native.Nat.{◌/◌}
use mathlib.Core.Path.{◌∙◌}
use Rattle.fields.proofs.Windows.{window-bytes, get-field}
use Rattle.fields.proofs.get.Goals as goal

pub returns : goal.returns
returns c =
    let a = c.args in
    let h = c.requires in
    get-field a.s.now a.bit a.width c.from_be_bytes-window.result (λ i. (c.type_inv.s i).fits) h.0 h.1
    (c.from_be_bytes-window.ensures ∙ window-bytes a.s.now c.eight_at.result (a.bit / 8) c.eight_at.ensures)
