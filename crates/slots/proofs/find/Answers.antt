-- `slots::find` meets its contract, by the invariant of its loop: a block is passed over where its hash or its bytes differ.
-- Assumes nothing.
use Rattle.slots.proofs.find.Goals as goal
use Rattle.slots.proofs.find.Goals.{else-index-i-via-then-index-i+else-eq, else-index-i-via-else-index-i}
use Prim.Native.Nat.{◌<◌}
use mathlib.Core.Path.{sym, ◌∙◌}
use native.Mathlib.Omega.{arith}
use Rattle.std.proofs.Common.{rules}
use lib.ListN.{length}
use Rattle.slots.proofs.Searching.{linked_below, found_here, sought-first, sought-on, not_same, not-hashed, sought-none}

pub loop-next-init : goal.loop-next-init
loop-next-init c =
    let r = c.linked-next in
    (linked_below r.result _ c.args.count c.args.count r.ensures (omega arith), λ cs s e. sought-first s c.args.b.now c.bucket.result r.result (search rules) (rw e r.ensures))

pub returns-then-eq-clause-number : goal.returns-then-eq-clause-number
returns-then-eq-clause-number c = λ cs s e.
    let known = rw c.in-Some.is at c.loop-next.invariant in
    found_here s c.args.b.now c.in-Some.i (omega (arith, known.0)) c.as_chunks.ensures.front (omega arith) c.eq.ensures c.if-eq.true

pub loop-next-preserved : goal.loop-next-preserved
loop-next-preserved c =
    let b = c.args.b.now in
    let i = c.in-Some.i in
    let r = c.linked-next-in-Some in
    let known = rw c.in-Some.is at c.loop-next.invariant in (
      linked_below r.result _ i c.args.count r.ensures (omega (arith, known.0)),
      λ cs s e.
          let v : i < length cs = omega (arith, known.0) in
          sought-on s b i v (known.1 cs s e)
          (elim c.else-index-i.branch [ else-index-i-via-then-index-i+else-eq w ↦ not_same s b i v c.as_chunks.ensures.front (omega arith) w.eq.ensures w.if-eq.false | else-index-i-via-else-index-i w ↦ not-hashed s b i v (λ q. w.if-index-i.false (search rules)) ])
          r.result r.ensures,
    )

pub returns-clause-number : goal.returns-clause-number
returns-clause-number c = λ cs s e. sym e ∙ sought-none c.args.b.now ((rw c.in_default.is at c.loop-next.invariant).1 cs s e)
