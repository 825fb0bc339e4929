use Rattle.std.proofs.Common.{◌≢◌, ap, ◌∙◌, arith, length-set, get_or-set_other}
use Rattle.program.specs.declared.Node.TheVariants.{Module}
use Rattle.program.specs.Rows.{appended, kind_in, left_in, right_in, letter_in}
use Rattle.program.proofs.Columns.{count-view, columns-set}
use Rattle.program.proofs.Nodes.push.Goals as goal

pub bounds-rows-len : goal.bounds-rows-len
bounds-rows-len c = omega (arith, count-view _ _ _ c.self.invariant.0 c.self.view_is)

pub invariant_of-self : goal.invariant_of-self
invariant_of-self c =
    let rows = c.self.inside.rows in
    let n = c.self.inside.len in
    let h = c.self.invariant in
    let ne : 0 ≢ n = λ e. absurd (omega (arith, e, h.1)) in (
      length-set rows n c.args.node ∙ h.0,
      omega arith,
      omega (arith, count-view _ _ _ h.0 c.self.view_is),
      get_or-set_other rows n 0 c.args.node (Module 0) ne ∙ h.3,
    )

pub returns : goal.returns
returns c =
    columns-set c.self.inside.rows c.self.inside.len c.args.node c.self.invariant.0 c.self.invariant.1
    (omega (arith, count-view _ _ _ c.self.invariant.0 c.self.view_is))
    ∙ ap (λ P. appended P (kind_in c.args.node) (left_in c.args.node) (right_in c.args.node) (letter_in c.args.node)) c.self.view_is
