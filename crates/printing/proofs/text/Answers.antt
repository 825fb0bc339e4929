-- `printing::text` meets its contract: the tests are those of `fits` and `answer_text`. Assumes nothing.
use mathlib.Core.Path.{sym, ◌∙◌}
use native.Mathlib.Omega.{arith}
use Rattle.printing.proofs.Shown.{fits_both, shown-none, shown_ok, shown-refused}
use Rattle.printing.proofs.text.Goals as goal

pub returns-then-not-has_room : goal.returns-then-not-has_room
returns-then-not-has_room c =
    let a = c.args in
    shown-none a.number a.place a.states a.size a.table.now a.line.now (sym c.has_room.ensures ∙ c.if-not-has_room.true)

pub put_ok-requires : goal.put_ok-requires
put_ok-requires c = fits_both _ _ _ (sym c.has_room.ensures ∙ c.if-not-has_room.false)

pub returns-then-number-eq0 : goal.returns-then-number-eq0
returns-then-number-eq0 c =
    let a = c.args in
    shown_ok a.number a.place a.states a.size a.table.now (sym c.has_room.ensures ∙ c.if-not-has_room.false) c.if-number-eq0.true c.put_ok.ensures

pub put_refused-requires : goal.put_refused-requires
put_refused-requires c = omega (arith, fits_both _ _ _ (sym c.has_room.ensures ∙ c.if-not-has_room.false))

pub returns : goal.returns
returns c =
    let a = c.args in
    shown-refused a.number a.place a.states a.size a.table.now (sym c.has_room.ensures ∙ c.if-not-has_room.false) c.if-number-eq0.false c.put_refused.ensures
