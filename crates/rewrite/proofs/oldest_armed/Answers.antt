-- `rewrite::oldest_armed` meets its contract: the argument is in `Invariants`.
use borrow.Author.Rules.{rules}
use native.Mathlib.Omega.{arith}
use mathlib.Core.Path.{◌≡◌, refl}
use lib.ListN.{length, drop}
use Rattle.words.specs.Word.{terms}
use Rattle.rewrite.proofs.Leading.{lead-here, lead-on, lead-none, lead-start}
use Rattle.rewrite.proofs.oldest_armed.Goals as goal

pub loop-k-init : goal.loop-k-init
loop-k-init c = ((omega arith, refl), lead-start (terms c.args.p.now (drop c.args.s c.args.w.now)) _)

pub offset_bounds-memory-k : goal.offset_bounds-memory-k
offset_bounds-memory-k c = omega (arith, c.requires.1.1.1, c.loop-k.invariant.0)

pub bounds-memory-k : goal.bounds-memory-k
bounds-memory-k c = omega (arith, c.requires.1.1.1, c.loop-k.invariant.0)

pub event_armed-requires : goal.event_armed-requires
event_armed-requires c = (c.requires.0, (c.requires.1.0, c.requires.1.1.0))

pub returns-then-event_armed : goal.returns-then-event_armed
returns-then-event_armed c =
    let l : length c.args.memory.events ≡ 8 = search rules in
    lead-here (terms c.args.p.now (drop c.args.s c.args.w.now)) c.args.memory.events c.args.memory.count c.loop-k.k c.loop-k-test.true (omega (arith, l, c.requires.1.1.1)) c.event_armed.ensures c.if-event_armed.true c.loop-k.invariant.1

pub loop-k-preserved : goal.loop-k-preserved
loop-k-preserved c =
    let l : length c.args.memory.events ≡ 8 = search rules in
    ((omega arith, refl), lead-on (terms c.args.p.now (drop c.args.s c.args.w.now)) c.args.memory.events c.args.memory.count c.loop-k.k c.loop-k-test.true (omega (arith, l, c.requires.1.1.1)) c.event_armed.ensures c.if-event_armed.false c.loop-k.invariant.1)

pub returns : goal.returns
returns c =
    let l : length c.args.memory.events ≡ 8 = search rules in
    lead-none (terms c.args.p.now (drop c.args.s c.args.w.now)) c.args.memory.events c.args.memory.count c.loop-k.k c.loop-k.invariant.0.0 c.loop-k-test.false (omega (arith, l, c.requires.1.1.1)) c.loop-k.invariant.1
