-- `checks::for_edition` meets its contract: what was refused stays refused, and Adaptive refuses nothing more. Assumes nothing.
use mathlib.Core.Path.{sym, ap, ◌∙◌}
use mathlib.Core.Bool.{Bool}
use Rattle.paper.specs.Refusals.{for_edition}
use Rattle.limits.specs.declared.Checked.{Checked}
use Rattle.limits.specs.Checks.{checked}
use Rattle.reader.specs.Reads.{edition_of}
use Rattle.reader.proofs.checks.for_edition.Goals as goal

pub returns-in-Refused : goal.returns-in-Refused
returns-in-Refused c = λ rd at q left a w l.
    sym (ap (λ (x : Checked). checked x (for_edition (edition_of c.args.basic) rd at q a)) c.in-Refused.is)

pub returns-then-basic : goal.returns-then-basic
returns-then-basic c = λ rd at q left a w l.
    c.for_basic.ensures rd at q left a w l
    ∙ sym
    (ap (λ (x : Checked). checked x (for_edition (edition_of c.args.basic) rd at q a)) c.in-Fine.is
    ∙ ap (λ (b : Bool). for_edition (edition_of b) rd at q a) c.if-basic.true)

pub returns-else-basic : goal.returns-else-basic
unfolding for_edition
returns-else-basic c = λ rd at q left a w l.
    sym
    (ap (λ (x : Checked). checked x (for_edition (edition_of c.args.basic) rd at q a)) c.in-Fine.is
    ∙ ap (λ (b : Bool). for_edition (edition_of b) rd at q a) c.if-basic.false)
