-- What the proof of `tokens::too_deep` leaves beside its invariants; Invariants.antt has the argument.
use Prim.Native.Nat.{ℕ, ◌+◌}
use mathlib.Core.Path.{◌≡◌, refl, sym, ap, ◌∙◌}
use mathlib.Core.Bool.{Bool, false, ◌&&◌}
use mathlib.Core.Option.{some}
use native.Mathlib.Omega.{arith}
use lib.ListN.{drop, get_or}
use lib.Dec.{leb}
use Rattle.paper.specs.Limits.{is_opening, open_after, deeper, too_deep}
use Rattle.letters.proofs.Turns.{cond-true, cond-false, deeper-one, deeper-end, open-few}
use Rattle.tokens.proofs.too_deep.Goals as goal

pub loop-i-init : goal.loop-i-init
unfolding too_deep
loop-i-init c = (omega arith, refl)

pub returns-then-is_opening-deep : goal.returns-then-is_opening-deep
returns-then-is_opening-deep c =
    let b = get_or c.args.s.now c.loop-i.i 0 in
    sym (c.loop-i.invariant.1 ∙ (deeper-one c.args.s.now c.loop-i.deep c.loop-i.i c.loop-i-test.true ∙ cond-true _ (some c.loop-i.i) _ (ap (λ (x : Bool). x && leb 16 c.loop-i.deep) (sym c.is_opening.ensures) ∙ c.if-is_opening-deep.true)))

pub loop-i-preserved : goal.loop-i-preserved
loop-i-preserved c =
    let b = get_or c.args.s.now c.loop-i.i 0 in
    let d = c.loop-i.deep in
    let e : (is_opening b && leb 16 d) ≡ false = ap (λ (x : Bool). x && leb 16 d) (sym c.is_opening.ensures) ∙ c.if-is_opening-deep.false in
    let n = c.open_after-deep.ensures.0 in (
      omega (arith, n, open-few d b e c.loop-i.invariant.0),
      c.loop-i.invariant.1 ∙ (deeper-one c.args.s.now d c.loop-i.i c.loop-i-test.true ∙ (cond-false (is_opening b && leb 16 d) (some c.loop-i.i) (deeper (open_after d b) (c.loop-i.i + 1) (drop (c.loop-i.i + 1) c.args.s.now)) e ∙ ap (λ (k : ℕ). deeper k (c.loop-i.i + 1) (drop (c.loop-i.i + 1) c.args.s.now)) (sym n))),
    )

pub returns : goal.returns
returns c = sym (c.loop-i.invariant.1 ∙ deeper-end c.args.s.now c.loop-i.deep c.loop-i.i c.loop-i-test.false)
