-- What the proof of `letters::collect` leaves beside its invariants; Invariants.antt has the argument.
use Rattle.letters.proofs.Padded.{padded}
use Prim.Native.Nat.{ℕ, ◌<◌}
use mathlib.Core.Path.{◌≡◌, refl, ap, ◌∙◌}
use mathlib.Core.Bool.{false}
use native.Mathlib.Omega.{arith}
use lib.ListN.{length, get_or}
use Rattle.paper.specs.Lists.{keep, below, from}
use Rattle.letters.proofs.Collects.{collect-room, collect-on, collect-off, names-is}
use Rattle.letters.proofs.collect.Goals as goal
use Rattle.letters.proofs.collect.Goals.{then-flags-l, else-flags-l}

pub loop-l-init : goal.loop-l-init
unfolding padded below from keep
loop-l-init c = (omega arith, refl, refl)

pub bounds-letters-count : goal.bounds-letters-count
bounds-letters-count c = collect-room (λ (k : ℕ). get_or c.args.flags k false) c.loop-l.l c.loop-l.count c.loop-l.letters c.loop-l.invariant.1 c.loop-l.invariant.2 c.if-flags-l.true (omega arith) c.requires

pub overflow_add-count : goal.overflow_add-count
overflow_add-count c = omega (arith, collect-room (λ (k : ℕ). get_or c.args.flags k false) c.loop-l.l c.loop-l.count c.loop-l.letters c.loop-l.invariant.1 c.loop-l.invariant.2 c.if-flags-l.true (omega arith) c.requires)

pub loop-l-preserved : goal.loop-l-preserved
loop-l-preserved c =
    let f = λ (k : ℕ). get_or c.args.flags k false in
    let inv = c.loop-l.invariant in
    elim c.if-flags-l.branch [
      | then-flags-l w ↦
          let room : c.loop-l.count < 8 = collect-room f c.loop-l.l c.loop-l.count c.loop-l.letters inv.1 inv.2 w.if-flags-l.true (omega arith) c.requires in
          let r = collect-on f c.loop-l.l c.loop-l.count c.loop-l.letters inv.1 inv.2 w.if-flags-l.true room in
          (omega arith, w.count-is ∙ r.0, w.letters-is ∙ r.1)
      | else-flags-l w ↦
          let r = collect-off f c.loop-l.l c.loop-l.count c.loop-l.letters inv.1 inv.2 w.if-flags-l.false in
          (omega arith, w.count-is ∙ r.0, w.letters-is ∙ r.1)
    ]

pub returns : goal.returns
returns c =
    let e : c.loop-l.l ≡ 26 = omega arith in
    names-is c.loop-l.letters c.loop-l.count (keep (λ (k : ℕ). get_or c.args.flags k false) (below 26))
    (c.loop-l.invariant.2 ∙ ap (λ (n : ℕ). padded 8 0 (keep (λ (k : ℕ). get_or c.args.flags k false) (below n))) e)
    (c.loop-l.invariant.1 ∙ ap (λ (n : ℕ). length (keep (λ (k : ℕ). get_or c.args.flags k false) (below n))) e)
