-- `fields::with_bit` meets its contract: the three parts share no bit, so `|` adds them up to `put_bit` (`with-bit`).
-- Assumes nothing.
use Rattle.fields.proofs.Puts.{with-bit}
use Rattle.fields.proofs.with_bit.Goals as goal

pub returns : goal.returns
returns c =
    let a = c.args in
    let h = c.requires in
    with-bit a.x a.place a.on h.0 h.1.0 h.1.1
