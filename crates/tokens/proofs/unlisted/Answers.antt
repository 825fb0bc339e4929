-- What the proof of `tokens::unlisted` leaves beside its invariants; Invariants.antt has the argument.
use Prim.Native.Nat.{ℕ, ◌-◌}
use mathlib.Core.Path.{refl, sym, ◌∙◌}
use mathlib.Core.Bool.{true, false, not, ◌&&◌}
use mathlib.Core.Option.{some}
use lib.ListN.{get_or}
use Rattle.paper.specs.Lists.{has}
use Rattle.paper.specs.Bytes.{is_event}
use Rattle.paper.specs.Limits.{unlisted}
use Rattle.letters.proofs.Turns.{cond-true, cond-false, first_one, first-end}
use Rattle.letters.proofs.Flags.{unlisted-flag}
use Rattle.letters.proofs.Few.{new-test}
use Rattle.tokens.proofs.unlisted.Goals as goal

pub loop-i-init : goal.loop-i-init
unfolding unlisted
loop-i-init c = λ ls t. refl

pub returns-then-is_letter-flag : goal.returns-then-is_letter-flag
returns-then-is_letter-flag c = λ ls t.
    let e = new-test 65 c.args.listed (get_or c.args.s.now c.loop-i.i 0) c.is_letter.result c.flag.result true c.is_letter.ensures c.flag.ensures c.if-is_letter-flag.true in
    sym (c.loop-i.invariant ls t ∙ (first_one (λ (b : ℕ). is_event b && not (has (b - 65) ls)) c.args.s.now c.loop-i.i c.loop-i-test.true ∙ cond-true _ (some c.loop-i.i) _ (sym (unlisted-flag c.args.listed ls (get_or c.args.s.now c.loop-i.i 0) t) ∙ e)))

pub loop-i-preserved : goal.loop-i-preserved
loop-i-preserved c = λ ls t.
    let e = new-test 65 c.args.listed (get_or c.args.s.now c.loop-i.i 0) c.is_letter.result c.flag.result false c.is_letter.ensures c.flag.ensures c.if-is_letter-flag.false in
    c.loop-i.invariant ls t ∙ (first_one (λ (b : ℕ). is_event b && not (has (b - 65) ls)) c.args.s.now c.loop-i.i c.loop-i-test.true ∙ cond-false _ (some c.loop-i.i) _ (sym (unlisted-flag c.args.listed ls (get_or c.args.s.now c.loop-i.i 0) t) ∙ e))

pub returns : goal.returns
returns c = λ ls t. sym (c.loop-i.invariant ls t ∙ first-end (λ (b : ℕ). is_event b && not (has (b - 65) ls)) c.args.s.now c.loop-i.i c.loop-i-test.false)
