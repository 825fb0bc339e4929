-- `stars::nested` meets its contract: the tests decide the case of `nest`, and the order of y and z which of them is the greater.
-- Assumes nothing.
use mathlib.Core.Path.{sym, ap, ◌∙◌}
use mathlib.Core.Bool.{Bool, cond}
use native.Mathlib.Omega.{arith}
use Prim.Native.Nat.{max, ◌+◌}
use Rattle.stars.specs.Nodes.{is_join}
use borrow.Author.Tests.{eq-eqb, ne_eqb}
use Rattle.stars.proofs.nested.Goals as goal

pub returns-then-c-eq42 : goal.returns-then-c-eq42
returns-then-c-eq42 c = (sym (ap (λ (t : Bool). cond t (c.args.z + 1) (cond (is_join c.args.c) (max c.args.y c.args.z) 0)) (eq-eqb c.args.c 42 c.if-c-eq42.true)), omega arith)

pub returns-then-y-z : goal.returns-then-y-z
returns-then-y-z c =
    let e = ap (λ (t : Bool). cond t (c.args.z + 1) (cond (is_join c.args.c) (max c.args.y c.args.z) 0)) (ne_eqb c.args.c 42 c.if-c-eq42.false) ∙ ap (λ (t : Bool). cond t (max c.args.y c.args.z) 0) (sym c.is_join.ensures ∙ c.if-is_join.true) in
    (omega (arith, e), omega arith)

pub returns-then-is_join : goal.returns-then-is_join
returns-then-is_join c =
    let e = ap (λ (t : Bool). cond t (c.args.z + 1) (cond (is_join c.args.c) (max c.args.y c.args.z) 0)) (ne_eqb c.args.c 42 c.if-c-eq42.false) ∙ ap (λ (t : Bool). cond t (max c.args.y c.args.z) 0) (sym c.is_join.ensures ∙ c.if-is_join.true) in
    (omega (arith, e), omega arith)

pub returns : goal.returns
returns c =
    let e = ap (λ (t : Bool). cond t (c.args.z + 1) (cond (is_join c.args.c) (max c.args.y c.args.z) 0)) (ne_eqb c.args.c 42 c.if-c-eq42.false) ∙ ap (λ (t : Bool). cond t (max c.args.y c.args.z) 0) (sym c.is_join.ensures ∙ c.if-is_join.false) in
    (omega (arith, e), omega arith)
