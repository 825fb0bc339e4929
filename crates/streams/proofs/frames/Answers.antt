-- `streams::frames` meets its contract; Invariants.antt says by what. Assumes nothing.
use Rattle.std.proofs.Common.{◌≡◌, Err, refl, rules}
use denote.Param.Always.{mut_next}
use Rattle.streams.proofs.Turning.{one_more, the_end, an_error, all_made}
use Rattle.streams.proofs.frames.Goals as goal
use Rattle.streams.proofs.frames.Goals.{else-loop-test, then-loop-test+in_ok-frame+then-not-branch}

pub loop-preserved : goal.loop-preserved
loop-preserved g c = record {
  callable = mut_next _ _ _ _ _ _ c.frame.ensures refl c.loop.invariant.callable;
  turns = λ r x t. c.loop.invariant.turns r x (one_more _ _ _ _ c.loop-test.true (rw c.if-not-branch.false at c.in_ok-frame.ensures) r x t);
}

pub returns-in_err-frame : goal.returns-in_err-frame
returns-in_err-frame g c =
    let e : c.from_residual.result ≡ Err c.in_err-frame.field-0.0 = search rules in
    rw e (c.loop.invariant.turns _ _ (an_error _ _ _ _ _ c.loop-test.true c.in_err-frame.ensures))

pub returns : goal.returns
returns g c =
    elim c.loop-test.branch [
      | else-loop-test w ↦ rw w.reader-is (c.loop.invariant.turns _ _ (all_made _ _ w.loop-test.false))
      | then-loop-test+in_ok-frame+then-not-branch w ↦ rw w.reader-is (c.loop.invariant.turns _ _ (the_end _ _ _ _ w.loop-test.true (rw w.if-not-branch.true at w.in_ok-frame.ensures)))
    ]
