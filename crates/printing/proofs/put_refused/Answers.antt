-- `printing::put_refused` meets its contract: each piece stands behind the one before it, and 60 bytes hold them. Assumes nothing.
use native.Mathlib.Omega.{arith}
use Rattle.paper.specs.Lists.{bytes}
use Rattle.paper.specs.Programs.{refused_text}
use Rattle.printing.proofs.Puts.{put_then}
use Rattle.printing.proofs.Digits.{decimal-length}
use Rattle.printing.proofs.put_refused.Goals as goal

pub put_decimal-end-requires : goal.put_decimal-end-requires
put_decimal-end-requires c = omega (arith, decimal-length c.args.number (omega (arith, c.ranges.number)), decimal-length c.args.place (omega (arith, c.ranges.place)))

pub put_text-end-requires-2 : goal.put_text-end-requires-2
put_text-end-requires-2 c = omega (arith, decimal-length c.args.number (omega (arith, c.ranges.number)), decimal-length c.args.place (omega (arith, c.ranges.place)))

pub put_decimal-end-requires-2 : goal.put_decimal-end-requires-2
put_decimal-end-requires-2 c = omega (arith, decimal-length c.args.number (omega (arith, c.ranges.number)), decimal-length c.args.place (omega (arith, c.ranges.place)))

pub put_text-requires : goal.put_text-requires
put_text-requires c = omega (arith, decimal-length c.args.number (omega (arith, c.ranges.number)), decimal-length c.args.place (omega (arith, c.ranges.place)))

pub returns : goal.returns
unfolding refused_text bytes
returns c = put_then (put_then (put_then (put_then c.put_text-end.ensures c.put_decimal-end.ensures) c.put_text-end-2.ensures) c.put_decimal-end-2.ensures) c.put_text.ensures
