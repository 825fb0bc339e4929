-- `printing::put_hex` meets its contract; Invariants.antt says by what. Assumes nothing.
use mathlib.Core.Path.{◌≡◌, refl}
use native.Mathlib.Omega.{arith}
use Rattle.printing.proofs.Digits.{hex-none, put-pair}
use Rattle.printing.proofs.put_hex.Goals as goal

pub loop-i-init : goal.loop-i-init
loop-i-init c = (omega arith, (omega arith, (refl, hex-none c.args.line.now c.args.at c.args.table.now)))

pub put_byte-end-requires-in-loop-i : goal.put_byte-end-requires-in-loop-i
put_byte-end-requires-in-loop-i c = omega (arith, c.put_byte-end.ensures.place)

pub loop-i-preserved : goal.loop-i-preserved
loop-i-preserved c =
    let l = c.loop-i in
    let a = c.args in (
      omega arith,
      (
        omega (arith, c.put_byte-end-in-loop-i.ensures.place, c.put_byte-end.ensures.place),
        (
          omega arith,
          put-pair a.table.now l.i (omega arith) l.invariant.1.1.1 c.hex_digit.ensures c.put_byte-end.ensures
              c.hex_digit-in-loop-i.ensures
              c.put_byte-end-in-loop-i.ensures,
        ),
      ),
    )

pub returns : goal.returns
returns c =
    let e : c.loop-i.i ≡ c.args.size = omega arith in
    rw e at c.loop-i.invariant.1.1.1
