-- `unpack::unit` meets its contract, as the layout says.
-- Assumes nothing.
use native.Mathlib.Omega.{arith}
use Prim.Native.Nat.{◌+◌, ◌/◌, ◌%◌}
use lib.ListN.{get_or}
use Rattle.unpack.proofs.Loops.{two_bits}
use Rattle.unpack.proofs.unit.Goals as goal

pub returns : goal.returns
returns c = let h = two_bits (get_or c.args.live.now (96 + c.args.i / 4) 0) (c.args.i % 4) (omega arith) in omega arith
