-- `syntax::put` meets its contract: three stores are the node, and past the end a store changes nothing (`node-out`). Assumes nothing.
use Rattle.syntax.proofs.Stores.{node-out}
use native.Mathlib.Omega.{arith}
use Rattle.syntax.proofs.put.Goals as goal

pub returns-else-free-lt192 : goal.returns-else-free-lt192
returns-else-free-lt192 c = node-out c.args.code.now c.args.left.now c.args.place.now c.args.free c.args.c c.args.l c.args.p (omega (arith, c.if-free-lt192.false, c.requires.room.code)) (omega (arith, c.if-free-lt192.false, c.requires.room.left)) (omega (arith, c.if-free-lt192.false, c.requires.room.place))
