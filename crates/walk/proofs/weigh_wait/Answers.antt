-- `walk::weigh_wait` meets its contract. The cases of `Fine` for a wait, and its weight.
-- Assumes nothing.
use native.Mathlib.Omega.{arith}
use Rattle.words.specs.Word.{Fine}
use Rattle.words.proofs.Trees.{kind-of, kind-over}
use Rattle.walk.proofs.Units.{wait-is}
use Rattle.walk.proofs.weigh_wait.Goals as goal
use Rattle.walk.proofs.weigh_wait.Goals.{else-j-count-via-then-j-count+else-not-is_term, else-j-count-via-else-j-count}

pub returns-then-not-is_term : goal.returns-then-not-is_term
returns-then-not-is_term c =
    let k = kind-over c.args.p.now c.args.j c.node_at.result c.node_at.ensures.columns c.is_term.ensures c.if-not-is_term.true in
    λ ms ts. wait-is c.args.j _ c.requires.0 (omega (arith, c.if-j-count.true, c.count.ensures)) k (omega (arith, c.from.ensures, c.max.ensures))

pub returns-else-j-count : goal.returns-else-j-count
unfolding Fine
returns-else-j-count c = λ ms ts f.
    elim c.else-j-count.branch [
      | else-j-count-via-then-j-count+else-not-is_term w ↦ let k = kind-of c.args.p.now c.args.j w.node_at.result w.node_at.ensures.columns w.is_term.ensures w.if-not-is_term.false in omega (arith, f.fine.1)
      | else-j-count-via-else-j-count w ↦ omega (arith, f.fine.0, w.if-j-count.false, c.count.ensures)
    ]
