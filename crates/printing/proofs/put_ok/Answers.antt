-- `printing::put_ok` meets its contract: each piece stands behind the one before it, and a line of 60 bytes and two for each byte of the table holds them.
-- Assumes nothing.
use Prim.Native.Nat.{ℕ, ◌*◌, ◌≤◌, ◌<◌}
use mathlib.Core.List.{List}
use mathlib.Core.Path.{◌≡◌}
use native.Mathlib.Omega.{arith}
use lib.ListN.{length, take}
use Rattle.paper.specs.Lists.{bytes}
use Rattle.paper.specs.Programs.{decimal, hex, ok_text}
use Rattle.printing.proofs.Puts.{put_then}
use Rattle.printing.proofs.Digits.{decimal-length, hex-length}
use Rattle.printing.proofs.put_ok.Goals as goal

-- how long the pieces are whose length varies
lengths : (states size : ℕ) (table : List ℕ) → states < 18446744073709551616 → size < 18446744073709551616 → size ≤ length table → (length (decimal states) ≤ 20) × ((length (decimal size) ≤ 20) × (length (hex (take size table)) ≡ 2 * size))
lengths states size table a b h = (decimal-length states a, (decimal-length size b, hex-length size table h))

pub put_decimal-end-requires : goal.put_decimal-end-requires
put_decimal-end-requires c = omega (arith, lengths c.args.states c.args.size c.args.table.now (omega (arith, c.ranges.states)) (omega (arith, c.ranges.size)) c.requires.0)

pub put_text-end-requires-2 : goal.put_text-end-requires-2
put_text-end-requires-2 c = omega (arith, lengths c.args.states c.args.size c.args.table.now (omega (arith, c.ranges.states)) (omega (arith, c.ranges.size)) c.requires.0)

pub put_decimal-end-requires-2 : goal.put_decimal-end-requires-2
put_decimal-end-requires-2 c = omega (arith, lengths c.args.states c.args.size c.args.table.now (omega (arith, c.ranges.states)) (omega (arith, c.ranges.size)) c.requires.0)

pub put_text-end-requires-3 : goal.put_text-end-requires-3
put_text-end-requires-3 c = omega (arith, lengths c.args.states c.args.size c.args.table.now (omega (arith, c.ranges.states)) (omega (arith, c.ranges.size)) c.requires.0)

pub put_hex-end-requires : goal.put_hex-end-requires
put_hex-end-requires c = (c.requires.0, omega (arith, lengths c.args.states c.args.size c.args.table.now (omega (arith, c.ranges.states)) (omega (arith, c.ranges.size)) c.requires.0))

pub put_text-requires : goal.put_text-requires
put_text-requires c = omega (arith, lengths c.args.states c.args.size c.args.table.now (omega (arith, c.ranges.states)) (omega (arith, c.ranges.size)) c.requires.0)

pub returns : goal.returns
unfolding ok_text bytes
returns c = put_then (put_then (put_then (put_then (put_then (put_then c.put_text-end.ensures c.put_decimal-end.ensures) c.put_text-end-2.ensures) c.put_decimal-end-2.ensures) c.put_text-end-3.ensures) c.put_hex-end.ensures) c.put_text.ensures
