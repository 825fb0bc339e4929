-- What the proof of `stars::too_starred` leaves beside its invariants; Invariants.antt has the argument.
use Rattle.stars.proofs.Written.{stars-found}
use mathlib.Core.Path.{refl, sym, ap, ◌∙◌}
use mathlib.Core.List.{[]}
use native.Mathlib.Omega.{arith}
use Prim.Native.Nat.{◌+◌}
use lib.ListN.{get_or}
use Rattle.stars.specs.Nodes.{nesting, there}
use Rattle.letters.proofs.Padded.{padded}
use Rattle.stars.proofs.Scans.{passed_none, passed-end, scanned-more, set-bound, none-bound}
use Rattle.stars.proofs.too_starred.Goals as goal

pub loop-i-init : goal.loop-i-init
unfolding padded
loop-i-init c = (record { worths = []; passed = passed_none nesting c.args.code.now c.args.left.now c.args.place.now c.args.n; holds = refl }, omega arith, λ k. none-bound k)

pub overflow_cast-l : goal.overflow_cast-l
overflow_cast-l c = omega (arith, c.type_inv.left c.loop-i.i)

pub bounds-nests-l : goal.bounds-nests-l
bounds-nests-l c = omega (arith, c.type_inv.left c.loop-i.i)

pub overflow_cast-p : goal.overflow_cast-p
overflow_cast-p c = omega (arith, c.type_inv.place c.loop-i.i)

pub nested-requires : goal.nested-requires
nested-requires c = omega (arith, c.loop-i.invariant.2 c.previous-k.result)

pub loop-i-preserved : goal.loop-i-preserved
loop-i-preserved c =
    let y = get_or c.loop-i.nests (get_or c.args.left.now c.loop-i.i 0) 0 in
    let z = get_or c.loop-i.nests c.previous-k.result 0 in (
      scanned-more nesting c.args.code.now c.args.left.now c.args.place.now c.args.n (record { long_code = c.requires.1; long_left = c.requires.2; long_place = c.requires.3 }) c.loop-i.i c.loop-i.nests c.loop-i.best c.loop-i.invariant.0 c.loop-i-test.true (omega arith)
          c.previous-k.result c.nested.result c.nearer-best.result c.previous-k.ensures c.nested.ensures.0 c.nearer-best.ensures.0 c.nearer-best.ensures.1,
      omega arith,
      λ k. set-bound c.loop-i.nests c.loop-i.i c.nested.result k (c.loop-i.i + 1)
          (omega (arith, c.nested.ensures.1, c.loop-i.invariant.2 (get_or c.args.left.now c.loop-i.i 0), c.loop-i.invariant.2 c.previous-k.result))
          (omega (arith, c.loop-i.invariant.2 k)),
    )

pub returns : goal.returns
returns c = λ at q w.
    c.answer.ensures
    ∙ (ap there (sym (passed-end nesting c.args.code.now c.args.left.now c.args.place.now c.args.n (record { long_code = c.requires.1; long_left = c.requires.2; long_place = c.requires.3 }) c.loop-i.i c.loop-i.invariant.0.worths c.loop-i.best c.loop-i.invariant.0.passed c.loop-i-test.false))
    ∙ stars-found at q c.args.code.now c.args.left.now c.args.place.now c.args.n w)
