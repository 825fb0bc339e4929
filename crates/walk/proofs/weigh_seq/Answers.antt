-- `walk::weigh_seq` meets its contract. The cases of `Fine` for a sequence, and its weight.
-- Assumes nothing.
use native.Mathlib.Omega.{arith}
use Rattle.words.specs.Word.{Fine}
use Rattle.words.proofs.Trees.{kind-of, kind-over}
use Rattle.walk.proofs.Units.{seq-is}
use Rattle.walk.proofs.weigh_seq.Goals as goal
use Rattle.walk.proofs.weigh_seq.Goals.{else-y-count-via-then-y-count+else-is_term, else-y-count-via-else-y-count}

pub returns-then-is_term : goal.returns-then-is_term
returns-then-is_term c =
    let k = kind-of c.args.p.now c.args.y c.node_at.result c.node_at.ensures.columns c.is_term.ensures c.if-is_term.true in
    λ ms ts d e. seq-is c.args.y c.args.a _ c.requires.0 (omega (arith, c.if-y-count.true, c.count.ensures)) k d e (omega (arith, c.max.ensures, c.from.ensures, c.max-then-is_term.ensures))

pub returns-else-y-count : goal.returns-else-y-count
unfolding Fine
returns-else-y-count c = λ ms ts d e f.
    elim c.else-y-count.branch [
      | else-y-count-via-then-y-count+else-is_term w ↦ let k = kind-over c.args.p.now c.args.y w.node_at.result w.node_at.ensures.columns w.is_term.ensures w.if-is_term.false in omega (arith, f.fine.1.1)
      | else-y-count-via-else-y-count w ↦ omega (arith, f.fine.1.0, w.if-y-count.false, c.count.ensures)
    ]
