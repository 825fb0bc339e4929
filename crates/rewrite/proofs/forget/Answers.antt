-- `rewrite::forget` meets its contract: the argument is in `Invariants`.
use borrow.Author.Rules.{rules}
use native.Mathlib.Omega.{arith}
use Prim.Native.Nat.{◌+◌, ◌-◌}
use mathlib.Core.Path.{◌≡◌, refl, ◌∙◌}
use lib.ListN.{length, length-set}
use Rattle.rewrite.proofs.Shifting.{shifted, shifted-out}
use Rattle.rewrite.proofs.forget.Goals as goal

pub overflow_sub-n : goal.overflow_sub-n
overflow_sub-n c = omega (arith, c.requires)

pub loop-i-init : goal.loop-i-init
loop-i-init c =
    let l : length c.args.memory.events ≡ 8 = search rules in
    (omega (arith, c.requires), (l, refl))

pub overflow_add-events : goal.overflow_add-events
overflow_add-events c = omega (arith, c.loop-i.invariant.0)

pub offset_bounds-events-i : goal.offset_bounds-events-i
offset_bounds-events-i c = omega (arith, c.loop-i.invariant.0)

pub bounds-events-i : goal.bounds-events-i
bounds-events-i c = omega (arith, c.loop-i.invariant.0)

pub offset_bounds-events-i-in-loop-i : goal.offset_bounds-events-i-in-loop-i
offset_bounds-events-i-in-loop-i c = omega (arith, c.loop-i.invariant.0)

pub bounds-events-i-in-loop-i : goal.bounds-events-i-in-loop-i
bounds-events-i-in-loop-i c = omega (arith, c.loop-i.invariant.0)

pub overflow_add-i : goal.overflow_add-i
overflow_add-i c = omega (arith, c.loop-i.invariant.0)

pub loop-i-smaller : goal.loop-i-smaller
loop-i-smaller c = omega (arith, c.loop-i.invariant.0)

pub loop-i-preserved : goal.loop-i-preserved
loop-i-preserved c = (omega (arith, c.loop-i.invariant.0), (simp length-set c.loop-i.invariant.1.0, shifted c.loop-i.i c.loop-i.events (omega (arith, c.loop-i.invariant)) ∙ c.loop-i.invariant.1.1))

pub returns : goal.returns
returns c =
    let z : c.args.memory.count - 1 + 1 ≡ c.args.memory.count = omega (arith, c.requires) in
    (z, rw z at (shifted-out c.args.at (c.args.memory.count - 1) c.loop-i.i c.args.memory.events c.loop-i.events (omega (arith, c.requires)) c.loop-i-test.false c.loop-i.invariant.0.1.0 c.loop-i.invariant.1.1))
