-- `walk::weigh_star` meets its contract. The cases of `Fine` for a star: where the weights differ, so do the terms.
-- Assumes nothing.
use native.Mathlib.Omega.{arith}
use mathlib.Core.Path.{◌∙◌, sym, ap}
use Rattle.laws.specs.Nodes.{left, tree}
use Rattle.words.specs.Word.{Fine}
use Rattle.words.specs.Pieces.{node_of}
use Rattle.walk.proofs.Units.{star-is, star-heavy, part-asks, tells-true, tells-false}
use Rattle.walk.proofs.weigh_star.Goals as goal
use Rattle.walk.proofs.weigh_star.Goals.{else-from-a-via-then-from-a+else-is_node, else-from-a-via-else-from-a}

pub returns-then-count-j : goal.returns-then-count-j
unfolding Fine
returns-then-count-j c = λ ms f. omega (arith, f.fine.1.0, c.if-count-j.true, c.count.ensures)

pub returns-in_default : goal.returns-in_default
unfolding Fine node_of
returns-in_default c = λ ms f. c.in_default.not-Star (left c.args.p.now c.args.j) (c.node_at.ensures.row ∙ rw f.fine.1.1.0)

pub is_node-requires : goal.is_node-requires
is_node-requires c =
    let part = c.from-part.ensures ∙ sym c.in-Star.ensures.columns.1 in
    (rw part (part-asks c.args.j c.requires.0 (omega (arith, c.if-count-j.false, c.count.ensures)) c.in-Star.ensures.columns.0 (rw (← part) (sym c.from.ensures ∙ c.if-from-a.true)) c.requires.1.1.0 c.requires.1.1.1.1.1.0), (c.requires.1.1.1.0, c.requires.1.1.1.1.0))

pub returns-then-is_node : goal.returns-then-is_node
returns-then-is_node c = λ ms. star-is c.args.j c.args.a _ (omega (arith, c.if-count-j.false, c.count.ensures)) c.in-Star.ensures.columns.0 c.requires.1.1.1.0.deep c.requires.1.1.1.1.1.1 (tells-true _ c.is_node.ensures c.if-is_node.true ∙ ap (tree c.args.p.now) (c.from-part.ensures ∙ sym c.in-Star.ensures.columns.1)) (omega (arith, c.max.ensures))

pub returns-else-from-a : goal.returns-else-from-a
unfolding Fine
returns-else-from-a c =
    let part = c.from-part.ensures ∙ sym c.in-Star.ensures.columns.1 in
    λ ms f. elim c.else-from-a.branch [
      | else-from-a-via-then-from-a+else-is_node w ↦ tells-false _ w.is_node.ensures w.if-is_node.false (f.fine.1.1.1 ∙ sym (ap (tree c.args.p.now) part))
      | else-from-a-via-else-from-a w ↦ star-heavy c.args.j _ c.requires.0 (λ q. w.if-from-a.false (c.from.ensures ∙ rw part q)) c.requires.1.1.1.1.1.1 f.fine
    ]
