-- `react::runs_flags` meets its contract: the argument is in `Invariants`.
use Prim.Native.Nat.{ℕ}
use mathlib.Core.Path.{ap, ◌∙◌}
use native.Mathlib.Omega.{arith}
use lib.ListN.{get_or}
use Rattle.paper.specs.Table.{flag}
use Rattle.paper.specs.Running.{runs_l}
use Rattle.rewrite.specs.Steps.{state}
use Rattle.react.specs.States.{runs_by}
use Rattle.react.proofs.Flagged.{module-below, flag_byte, eight-more}
use Rattle.react.proofs.runs_flags.Goals as goal

pub bounds-runs-from : goal.bounds-runs-from
bounds-runs-from c = omega (arith, module-below c.args.modules.now c.loop-i.i c.requires.1 c.loop-i-test.true)

pub loop-i-preserved : goal.loop-i-preserved
loop-i-preserved c =
    let x = c.loop-i in
    let a = c.args in
    let n = a.modules.now in
    let r = ap (runs_by c.running_letters-runs.result) c.from.ensures ∙ c.running_letters-runs.ensures (get_or n x.i 0) (module-below n x.i c.requires.1 c.loop-i-test.true) in
    eight-more (λ (m : ℕ). flag (runs_l m (state a.p.now a.w.now a.s))) n x.i _ x.flags x.invariant (c.from-in-loop-i.ensures ∙ (flag_byte _ ∙ ap flag r)) c.loop-i-test.true c.requires.1.few
