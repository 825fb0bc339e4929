-- `pack::set_number` meets its contract: a number that stays below 256 (`set-byte`) fits a byte at each step.
use native.Mathlib.Omega.{arith}
use Prim.Native.Nat.{◌-◌}
use Rattle.react.specs.States.{stopped_of}
use Rattle.pack.proofs.Numbers.{set-none, set_more, set-byte}
use Rattle.pack.proofs.set_number.Goals as goal

pub loop-i-init : goal.loop-i-init
loop-i-init c = set-none c.args.modules.now (stopped_of c.args.modules.now c.args.stopped)

pub overflow_mul-number : goal.overflow_mul-number
overflow_mul-number c =
    let i = c.loop-i.i - 1 in
    omega (arith, set_more c.args.modules.now c.args.stopped c.requires.0 c.requires.1 i c.loop-i.i c.loop-i.number (omega arith) (omega arith) c.loop-i.invariant, set-byte c.args.modules.now c.args.stopped c.requires.0 c.requires.1 i)

pub overflow_add-number : goal.overflow_add-number
overflow_add-number c =
    let i = c.loop-i.i - 1 in
    omega (arith, set_more c.args.modules.now c.args.stopped c.requires.0 c.requires.1 i c.loop-i.i c.loop-i.number (omega arith) (omega arith) c.loop-i.invariant, set-byte c.args.modules.now c.args.stopped c.requires.0 c.requires.1 i)

pub loop-i-preserved : goal.loop-i-preserved
loop-i-preserved c =
    set_more c.args.modules.now c.args.stopped c.requires.0 c.requires.1 (c.loop-i.i - 1) c.loop-i.i c.loop-i.number (omega arith) (omega arith) c.loop-i.invariant
