-- `discover::is_stored` meets its contract: place by place (`rewrite`, `Occurring`). Assumes nothing.
use borrow.Author.Rules.{rules}
use native.Mathlib.Omega.{arith}
use mathlib.Core.Path.{◌≡◌, refl, sym, ◌∙◌}
use lib.ListN.{length}
use Rattle.rewrite.proofs.Occurring.{has_here, has_on, has_end}
use Rattle.discover.proofs.is_stored.Goals as goal

pub loop-k-init : goal.loop-k-init
loop-k-init c = ((omega arith, refl), refl)

pub offset_bounds-memory-k : goal.offset_bounds-memory-k
offset_bounds-memory-k c = omega (arith, c.requires, c.loop-k.invariant.0)

pub bounds-memory-k : goal.bounds-memory-k
bounds-memory-k c = omega (arith, c.requires, c.loop-k.invariant.0)

pub returns-then-e-memory : goal.returns-then-e-memory
returns-then-e-memory c =
    let l : length c.args.memory.events ≡ 8 = search rules in
    sym (c.loop-k.invariant.1 ∙ has_here c.args.e c.args.memory.events c.args.memory.count c.loop-k.k c.loop-k-test.true (omega (arith, l, c.requires)) c.if-e-memory.true)

pub overflow_add-k : goal.overflow_add-k
overflow_add-k c = omega (arith, c.loop-k.invariant.0, c.requires)

pub loop-k-smaller : goal.loop-k-smaller
loop-k-smaller c = omega (arith, c.loop-k.invariant.0, c.requires)

pub loop-k-preserved : goal.loop-k-preserved
loop-k-preserved c =
    let l : length c.args.memory.events ≡ 8 = search rules in
    ((omega arith, refl), c.loop-k.invariant.1 ∙ has_on c.args.e c.args.memory.events c.args.memory.count c.loop-k.k c.loop-k-test.true (omega (arith, l, c.requires)) c.if-e-memory.false)

pub returns : goal.returns
returns c =
    let l : length c.args.memory.events ≡ 8 = search rules in
    sym (c.loop-k.invariant.1 ∙ has_end c.args.e c.args.memory.events c.args.memory.count c.loop-k.k c.loop-k-test.false (omega (arith, l, c.requires)))
