-- `rewrite::copy` meets its contract: the argument is in `Invariants`.
use native.Mathlib.Omega.{arith}
use mathlib.Core.Path.{refl}
use lib.ListN.{length-set}
use Rattle.rewrite.proofs.Standing.{copied, both-ended, at_end}
use Rattle.rewrite.proofs.copy.Goals as goal

pub loop-i-init : goal.loop-i-init
loop-i-init c = (omega arith, (refl, both-ended c.args.src.now c.args.dst.now c.requires.1))

pub offset_bounds-src-i : goal.offset_bounds-src-i
offset_bounds-src-i c = omega (arith, c.requires.1)

pub bounds-src-i : goal.bounds-src-i
bounds-src-i c = omega (arith, c.requires.1)

pub offset_bounds-dst-i : goal.offset_bounds-dst-i
offset_bounds-dst-i c = omega (arith, c.requires.1, c.loop-i.invariant)

pub bounds-dst-i : goal.bounds-dst-i
bounds-dst-i c = omega (arith, c.requires.1, c.loop-i.invariant)

pub loop-i-preserved : goal.loop-i-preserved
loop-i-preserved c = (omega arith, (simp length-set c.loop-i.invariant.1.0, copied c.args.src.now c.loop-i.dst c.loop-i.i (omega arith) (omega arith) (omega arith) c.loop-i.invariant.1.1))

pub shape_of-dst : goal.shape_of-dst
shape_of-dst c = c.loop-i.invariant.1.0

pub returns : goal.returns
returns c = at_end c.args.src.now c.loop-i.dst c.args.a c.loop-i.i c.loop-i.invariant.0.0 c.loop-i-test.false c.loop-i.invariant.1.1
