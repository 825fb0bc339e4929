-- `printing::put_decimal` meets its contract; Invariants.antt says by what. Assumes nothing.
use mathlib.Core.Path.{ap}
use native.Mathlib.Omega.{arith}
use lib.ListN.{length}
use Rattle.printing.proofs.Digits.{decimal-small, decimal-room, put_small, put-large}
use Rattle.printing.proofs.+put_decimal.Goals as goal

pub put_byte-requires : goal.put_byte-requires
put_byte-requires t c = omega (arith, ap length (decimal-small c.args.n c.if-n-lt10.true), c.requires)

pub returns-then-n-lt10 : goal.returns-then-n-lt10
returns-then-n-lt10 t c = put_small c.args.n c.if-n-lt10.true c.digit.ensures c.put_byte.ensures

pub put_decimal-end-requires : goal.put_decimal-end-requires
put_decimal-end-requires t c = (omega arith, omega (arith, decimal-room c.args.n c.if-n-lt10.false, c.requires))

pub put_byte-requires-2 : goal.put_byte-requires-2
put_byte-requires-2 t c = omega (arith, decimal-room c.args.n c.if-n-lt10.false, c.requires, c.put_decimal-end.ensures.place)

pub returns : goal.returns
returns t c = put-large c.args.n c.if-n-lt10.false c.put_decimal-end.ensures c.digit-2.ensures c.put_byte-2.ensures
