-- `walk::weigh_act` meets its contract. The cases of `Fine` for `/`, and its weight.
-- Assumes nothing.
use mathlib.Core.Path.{◌≡◌}
use native.Mathlib.Omega.{arith}
use borrow.Author.Rules.{rules}
use Rattle.words.specs.declared.Unit.TheVariants.{One as Skip}
use Rattle.words.specs.Word.{Fine}
use Rattle.words.proofs.Trees.{kind-of, kind-over}
use Rattle.walk.proofs.Units.{act-is}
use Rattle.walk.proofs.weigh_act.Goals as goal
use Rattle.walk.proofs.weigh_act.Goals.{else-j-count-via-then-j-count+then-not-is_term+else-ne, else-j-count-via-then-j-count+else-not-is_term, else-j-count-via-else-j-count}

pub returns-then-ne : goal.returns-then-ne
returns-then-ne c =
    let k = kind-over c.args.p.now c.args.j c.node_at.result c.node_at.ensures.columns c.is_term.ensures c.if-not-is_term.true in
    λ ms ts d e o. act-is c.args.j c.args.a _ c.requires.0 (omega (arith, c.if-j-count.true, c.count.ensures)) k d e (λ q. let z : c.args.next ≡ Skip → ⊥ = search rules in z (o.0 q)) (omega (arith, c.from.ensures, c.max.ensures))

pub returns-else-j-count : goal.returns-else-j-count
unfolding Fine
returns-else-j-count c = λ ms ts d e o f.
    elim c.else-j-count.branch [
      | else-j-count-via-then-j-count+then-not-is_term+else-ne w ↦ f.fine.1.1.1 (o.1 (search rules))
      | else-j-count-via-then-j-count+else-not-is_term w ↦ let k = kind-of c.args.p.now c.args.j w.node_at.result w.node_at.ensures.columns w.is_term.ensures w.if-not-is_term.false in omega (arith, f.fine.1.1.0)
      | else-j-count-via-else-j-count w ↦ omega (arith, f.fine.1.0, w.if-j-count.false, c.count.ensures)
    ]
