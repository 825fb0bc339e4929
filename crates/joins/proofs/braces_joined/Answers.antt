-- What the proof of `joins::braces_joined` leaves beside its invariants; Invariants.antt has the argument.
use Rattle.joins.proofs.Passes.{left_long, braces-found}
use mathlib.Core.Path.{sym, ap, ◌∙◌}
use mathlib.Core.Bool.{false}
use mathlib.Core.List.{[], ◌∷◌, ◌++◌}
use native.Mathlib.Omega.{arith}
use Rattle.stars.specs.Nodes.{joining, there}
use Rattle.stars.proofs.Scans.{Held, passed_none, passed-end, passed-more}
use Rattle.joins.proofs.braces_joined.Goals as goal

pub loop-i-init : goal.loop-i-init
loop-i-init c = (omega arith, omega arith, λ left h. ([], passed_none joining c.args.code.now left c.args.place.now c.args.n))

pub overflow_cast-p : goal.overflow_cast-p
overflow_cast-p c = omega (arith, c.type_inv.place c.loop-i.i)

pub loop-i-preserved : goal.loop-i-preserved
loop-i-preserved c = (
  omega arith,
  c.nearer-best.ensures.1,
  λ left h.
      let w = c.loop-i.invariant.2 left h in
      let held : Held c.args.code.now left c.args.place.now c.args.n = record { long_code = c.requires.0; long_left = h; long_place = c.requires.1 } in
      (w.0 ++ (false ∷ []), passed-more joining c.args.code.now left c.args.place.now c.args.n held c.loop-i.i w.0 c.loop-i.best w.1 c.loop-i-test.true c.nearer-best.result c.nearer-best.ensures.0 c.nearer-best.ensures.1),
)

pub returns : goal.returns
returns c = λ at q left w.
    let h = left_long at q c.args.code.now left c.args.place.now c.args.n w c.requires.0 in
    let held : Held c.args.code.now left c.args.place.now c.args.n = record { long_code = c.requires.0; long_left = h; long_place = c.requires.1 } in
    let v = c.loop-i.invariant.2 left h in
    c.answer.ensures
    ∙ (ap there (sym (passed-end joining c.args.code.now left c.args.place.now c.args.n held c.loop-i.i v.0 c.loop-i.best v.1 c.loop-i-test.false))
    ∙ braces-found at q c.args.code.now left c.args.place.now c.args.n w)
