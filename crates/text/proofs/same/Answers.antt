-- `text::same` meets its contract: the texts are the same if they are from the place reached on (`eq_l-step`). Assumes nothing.
use Prim.Native.Nat.{◌+◌}
use mathlib.Core.Path.{ap, refl, sym, ◌∙◌}
use mathlib.Core.Bool.{Bool, ◌&&◌}
use native.Mathlib.Omega.{arith}
use lib.ListN.{drop}
use borrow.Author.Tests.{eq-eqb, ne_eqb}
use Rattle.paper.specs.Lists.{eq_l}
use Rattle.text.proofs.Keys.{eq_l-lengths, eq_l-step, eq_l-end}
use Rattle.text.proofs.same.Goals as goal

pub returns-then-a-b : goal.returns-then-a-b
returns-then-a-b c =
    let a = c.args in
    sym (eq_l-lengths a.a.now a.b.now c.if-a-b.true)

pub loop-i-init : goal.loop-i-init
loop-i-init c = (c.if-a-b.false, omega arith, refl)

pub returns-then-a-i : goal.returns-then-a-i
returns-then-a-i c =
    let a = c.args in
    let l = c.loop-i in
    sym
    (l.invariant.2
    ∙ (eq_l-step a.a.now a.b.now l.i (omega arith) (omega arith)
    ∙ ap (λ (t : Bool). t && eq_l (drop (l.i + 1) a.a.now) (drop (l.i + 1) a.b.now)) (ne_eqb _ _ c.if-a-i.true)))

pub loop-i-preserved : goal.loop-i-preserved
loop-i-preserved c =
    let a = c.args in
    let l = c.loop-i in (
      l.invariant.0,
      omega arith,
      l.invariant.2
          ∙ (eq_l-step a.a.now a.b.now l.i (omega arith) (omega arith)
          ∙ ap (λ (t : Bool). t && eq_l (drop (l.i + 1) a.a.now) (drop (l.i + 1) a.b.now)) (eq-eqb _ _ c.if-a-i.false)),
    )

pub returns : goal.returns
returns c =
    let a = c.args in
    let l = c.loop-i in
    sym (l.invariant.2 ∙ eq_l-end a.a.now a.b.now l.i (omega arith) (omega arith))
