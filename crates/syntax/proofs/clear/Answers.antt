-- `syntax::clear` meets its contract: a step is `clear_next`, the end `clear-all`. Assumes nothing.
use mathlib.Core.Path.{refl}
use native.Mathlib.Omega.{arith}
use Rattle.syntax.proofs.Clears.{clear_next, clear-length, clear-all}
use Rattle.syntax.proofs.clear.Goals as goal

pub loop-i-init : goal.loop-i-init
loop-i-init c = (omega arith, refl, refl, refl)

pub bounds-code-i : goal.bounds-code-i
bounds-code-i c = omega (arith, clear-length c.args.code.now c.loop-i.code c.loop-i.i (omega (arith, c.requires.code)) c.loop-i.invariant.1, c.requires.code)

pub bounds-left-i : goal.bounds-left-i
bounds-left-i c = omega (arith, clear-length c.args.left.now c.loop-i.left c.loop-i.i (omega (arith, c.requires.left)) c.loop-i.invariant.2, c.requires.left)

pub bounds-place-i : goal.bounds-place-i
bounds-place-i c = omega (arith, clear-length c.args.place.now c.loop-i.place c.loop-i.i (omega (arith, c.requires.place)) c.loop-i.invariant.3, c.requires.place)

pub loop-i-preserved : goal.loop-i-preserved
loop-i-preserved c = (omega arith, clear_next c.args.code.now c.loop-i.code c.loop-i.i (omega (arith, c.requires.code)) c.loop-i.invariant.1, clear_next c.args.left.now c.loop-i.left c.loop-i.i (omega (arith, c.requires.left)) c.loop-i.invariant.2, clear_next c.args.place.now c.loop-i.place c.loop-i.i (omega (arith, c.requires.place)) c.loop-i.invariant.3)

pub shape_of-code : goal.shape_of-code
shape_of-code c = clear-length c.args.code.now c.loop-i.code c.loop-i.i (omega (arith, c.requires.code)) c.loop-i.invariant.1

pub shape_of-left : goal.shape_of-left
shape_of-left c = clear-length c.args.left.now c.loop-i.left c.loop-i.i (omega (arith, c.requires.left)) c.loop-i.invariant.2

pub shape_of-place : goal.shape_of-place
shape_of-place c = clear-length c.args.place.now c.loop-i.place c.loop-i.i (omega (arith, c.requires.place)) c.loop-i.invariant.3

pub returns : goal.returns
returns c = (clear-all c.args.code.now c.loop-i.code c.loop-i.i 192 c.requires.code (omega arith) c.loop-i.invariant.1, clear-all c.args.left.now c.loop-i.left c.loop-i.i 192 c.requires.left (omega arith) c.loop-i.invariant.2, clear-all c.args.place.now c.loop-i.place c.loop-i.i 192 c.requires.place (omega arith) c.loop-i.invariant.3)
