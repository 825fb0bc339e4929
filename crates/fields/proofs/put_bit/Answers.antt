-- `fields::put_bit` meets its contract: the byte that is stored has the bits of the one before but one (`write-bit`).
-- Assumes nothing.
use Prim.Native.Nat.{ℕ, ◌-◌, ◌<◌}
use mathlib.Core.Path.{sym, subst}
use lib.Bits.{bit_and}
use native.Mathlib.Omega.{arith}
use Rattle.fields.proofs.Puts.{write-bit, put-lt}
use Rattle.fields.proofs.put_bit.Goals as goal

pub overflow_cast-out : goal.overflow_cast-out
overflow_cast-out c =
    let a = c.args in
    record { fits = subst (λ (n : ℕ). n < 256) (sym c.with_bit.ensures) (put-lt c.from.result (7 - bit_and a.bit 7) a.on (omega arith) (omega arith) (omega arith)) }

pub returns : goal.returns
returns c =
    let a = c.args in
    let h = c.requires in
    write-bit a.out.now a.bit a.on c.from.result c.with_bit.result h.0 h.1 c.from.ensures c.with_bit.ensures
