-- What the proof of `joins::shared` leaves beside its invariants; Invariants.antt has the argument.
use mathlib.Core.Path.{refl, sym, ap, ◌∙◌}
use mathlib.Core.Bool.{Bool, false, cond, not, ◌&&◌}
use mathlib.Core.List.{[]}
use native.Mathlib.Omega.{arith}
use Prim.Native.Nat.{ℕ, min}
use lib.Bits.{bit_and}
use lib.Dec.{eqb}
use lib.ListN.{get_or}
use Rattle.stars.specs.Nodes.{far}
use Rattle.letters.proofs.Padded.{padded}
use Rattle.stars.proofs.Scans.{passed_none, passed-end, scanned-more}
use Rattle.joins.specs.Sets.{sharing_any}
use Rattle.joins.proofs.shared.Goals as goal

pub loop-i-init : goal.loop-i-init
unfolding padded
loop-i-init c = (record { worths = []; passed = passed_none (sharing_any c.args.base (λ (k : ℕ). not (get_or c.args.skip k false))) c.args.code.now c.args.left.now c.args.place.now c.args.n; holds = refl }, omega arith)

pub overflow_cast-l : goal.overflow_cast-l
overflow_cast-l c = omega (arith, c.type_inv.left c.loop-i.i)

pub offset_bounds-sets-l : goal.offset_bounds-sets-l
offset_bounds-sets-l c = omega (arith, c.type_inv.left c.loop-i.i)

pub bounds-sets-l : goal.bounds-sets-l
bounds-sets-l c = omega (arith, c.type_inv.left c.loop-i.i)

pub overflow_cast-p : goal.overflow_cast-p
overflow_cast-p c = omega (arith, c.type_inv.place c.loop-i.i)

pub loop-i-preserved : goal.loop-i-preserved
loop-i-preserved c =
    let y = get_or c.loop-i.sets (get_or c.args.left.now c.loop-i.i 0) 0 in
    let z = get_or c.loop-i.sets c.previous-k.result 0 in (
      scanned-more (sharing_any c.args.base (λ (k : ℕ). not (get_or c.args.skip k false))) c.args.code.now c.args.left.now c.args.place.now c.args.n (record { long_code = c.requires.1; long_left = c.requires.2; long_place = c.requires.3 }) c.loop-i.i c.loop-i.sets c.loop-i.best c.loop-i.invariant.0 c.loop-i-test.true (omega arith)
          c.previous-k.result c.node_set.result c.nearer-best.result c.previous-k.ensures c.node_set.ensures
          (c.nearer-best.ensures.0 ∙ ap (λ (t : Bool). min c.loop-i.best (cond (t && not (eqb (bit_and y z) 0)) (get_or c.args.place.now c.loop-i.i 0) far)) c.is_bars.ensures)
          c.nearer-best.ensures.1,
      omega arith,
    )

pub returns : goal.returns
returns c = sym (passed-end (sharing_any c.args.base (λ (k : ℕ). not (get_or c.args.skip k false))) c.args.code.now c.args.left.now c.args.place.now c.args.n (record { long_code = c.requires.1; long_left = c.requires.2; long_place = c.requires.3 }) c.loop-i.i c.loop-i.invariant.0.worths c.loop-i.best c.loop-i.invariant.0.passed c.loop-i-test.false)
