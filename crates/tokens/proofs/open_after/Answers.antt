-- `tokens::open_after` meets its contract: the two tests decide the case of `open_after`, and 0 less one is 0.
-- Assumes nothing.
use Prim.Native.Nat.{◌+◌, ◌-◌}
use mathlib.Core.Path.{◌≡◌, sym, ◌∙◌}
use mathlib.Core.Bool.{cond}
use native.Mathlib.Omega.{arith}
use Rattle.paper.specs.Limits.{is_opening, is_closing}
use Rattle.letters.proofs.Turns.{cond-true, cond-false}
use Rattle.tokens.proofs.open_after.Goals as goal

pub returns-then-is_opening : goal.returns-then-is_opening
returns-then-is_opening c = (sym (cond-true (is_opening c.args.b) _ _ (sym c.is_opening.ensures ∙ c.if-is_opening.true)), omega arith)

pub returns-then-deep-eq0 : goal.returns-then-deep-eq0
returns-then-deep-eq0 c =
    let z : c.args.deep - 1 ≡ 0 = omega arith in
    (sym (cond-false (is_opening c.args.b) (c.args.deep + 1) (cond (is_closing c.args.b) (c.args.deep - 1) c.args.deep) (sym c.is_opening.ensures ∙ c.if-is_opening.false) ∙ (cond-true (is_closing c.args.b) (c.args.deep - 1) c.args.deep (sym c.is_closing.ensures ∙ c.if-is_closing.true) ∙ z)), omega arith)

pub returns-then-is_closing : goal.returns-then-is_closing
returns-then-is_closing c = (sym (cond-false (is_opening c.args.b) (c.args.deep + 1) (cond (is_closing c.args.b) (c.args.deep - 1) c.args.deep) (sym c.is_opening.ensures ∙ c.if-is_opening.false) ∙ cond-true (is_closing c.args.b) (c.args.deep - 1) c.args.deep (sym c.is_closing.ensures ∙ c.if-is_closing.true)), omega arith)

pub returns : goal.returns
returns c = (sym (cond-false (is_opening c.args.b) (c.args.deep + 1) (cond (is_closing c.args.b) (c.args.deep - 1) c.args.deep) (sym c.is_opening.ensures ∙ c.if-is_opening.false) ∙ cond-false (is_closing c.args.b) (c.args.deep - 1) c.args.deep (sym c.is_closing.ensures ∙ c.if-is_closing.false)), omega arith)
