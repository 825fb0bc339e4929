-- What the proof of `tokens::over_96` leaves beside its invariants; Invariants.antt has the argument.
use Prim.Native.Nat.{ℕ, ◌+◌, ◌-◌}
use mathlib.Core.Path.{refl, sym, ap, ◌∙◌}
use native.Mathlib.Omega.{arith}
use lib.ListN.{drop, get_elem?}
use Rattle.paper.specs.Limits.{tokens_from, tokens, over96}
use Rattle.letters.proofs.Turns.{token-here, token-next, token-half, tokens-end}
use Rattle.tokens.proofs.over_96.Goals as goal
use Rattle.tokens.proofs.over_96.Goals.{then-begins_token+else-count-eq96, else-begins_token}

pub loop-i-init : goal.loop-i-init
unfolding over96 tokens
loop-i-init c = (omega arith, refl)

pub returns-then-count-eq96 : goal.returns-then-count-eq96
returns-then-count-eq96 c =
    sym (c.loop-i.invariant.1 ∙ token-here c.args.s.now c.loop-i.half c.loop-i.i c.loop-i.count c.loop-i-test.true c.begins_token.result c.begins_token.ensures c.if-begins_token.true c.if-count-eq96.true)

pub loop-i-preserved : goal.loop-i-preserved
loop-i-preserved c =
    let s = c.args.s.now in
    let h = c.loop-i.half in
    let i = c.loop-i.i in
    let k = c.loop-i.count in
    let h' = c.is_half-half.result in
    elim c.if-begins_token.branch [
      | then-begins_token+else-count-eq96 w ↦ (
        omega (arith, w.count-is),
        c.loop-i.invariant.1 ∙ (token-next s h i k c.loop-i-test.true c.begins_token.result c.begins_token.ensures h' c.is_half-half.ensures w.if-begins_token.true (omega (arith, w.if-count-eq96.false))
            ∙ ap (λ (n : ℕ). get_elem? (tokens_from h' (i + 1) (drop (i + 1) s)) (96 - n)) (sym w.count-is)),
      )
      | else-begins_token w ↦ (
        omega (arith, w.count-is),
        c.loop-i.invariant.1 ∙ (token-half s h i k c.loop-i-test.true c.begins_token.result c.begins_token.ensures h' c.is_half-half.ensures w.if-begins_token.false
            ∙ ap (λ (n : ℕ). get_elem? (tokens_from h' (i + 1) (drop (i + 1) s)) (96 - n)) (sym w.count-is)),
      )
    ]

pub returns : goal.returns
returns c =
    sym (c.loop-i.invariant.1 ∙ tokens-end c.args.s.now c.loop-i.half c.loop-i.i (96 - c.loop-i.count) c.loop-i-test.false)
