use Rattle.std.proofs.Common.{ap, sym, ◌∙◌}
use Rattle.laws.specs.Nodes.{kind, left, right, letter}
use Rattle.program.specs.Rows.{row_of}
use Rattle.program.proofs.Columns.{row-columns, columns-at, letter-at}
use Rattle.program.proofs.Nodes.node.Goals as goal

pub returns-clause-row : goal.returns-clause-row
returns-clause-row c =
    row-columns c.self.inside.rows c.self.inside.len c.args.j c.self.invariant.0 c.self.invariant.3 c.requires
    ∙ ap (λ P. row_of P c.args.j) c.self.view_is

pub returns-clause-columns : goal.returns-clause-columns
returns-clause-columns c =
    let t = columns-at c.self.inside.rows c.self.inside.len c.args.j c.self.invariant.0 c.requires in
    let e = c.self.view_is in (
      sym (ap (λ P. kind P c.args.j) e) ∙ t.0,
      sym (ap (λ P. left P c.args.j) e) ∙ t.1,
      sym (ap (λ P. right P c.args.j) e) ∙ t.2,
    )

pub returns-clause-letter : goal.returns-clause-letter
returns-clause-letter c = λ h.
    sym (ap (λ P. letter P c.args.j) c.self.view_is) ∙ letter-at c.self.inside.rows c.self.inside.len c.args.j c.self.invariant.0 h c.requires

pub returns-clause-first : goal.returns-clause-first
returns-clause-first c = λ h. rw h c.self.invariant.3
