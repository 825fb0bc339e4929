-- `text::find` meets its contract: up to the place reached the byte was not there (`part-more`, `has_more`). Assumes nothing.
use Prim.Native.Nat.{ℕ}
use mathlib.Core.Path.{◌≡◌, ap, subst, sym}
use mathlib.Core.Bool.{false}
use mathlib.Core.List.{List}
use native.Mathlib.Omega.{arith}
use lib.ListN.{get_or}
use Rattle.paper.specs.Lists.{has}
use Rattle.text.specs.Spans.{part}
use Rattle.text.proofs.Parts.{part_none, part-more}
use Rattle.text.proofs.Cutting.{has_more}
use Rattle.text.proofs.find.Goals as goal

pub loop-i-init : goal.loop-i-init
unfolding has
loop-i-init c =
    let a = c.args in
    (omega arith, omega (arith, c.requires), ap (has a.b) (part_none a.file.now a.from))

pub returns-then-file-i : goal.returns-then-file-i
returns-then-file-i c =
    let l = c.loop-i in
    record { low = l.invariant.0; high = l.invariant.1; before = l.invariant.2; found = λ h. c.if-file-i.true }

pub loop-i-preserved : goal.loop-i-preserved
loop-i-preserved c =
    let a = c.args in
    let l = c.loop-i in (
      omega arith,
      omega arith,
      subst (λ (xs : List ℕ). has a.b xs ≡ false) (sym (part-more a.file.now a.from l.i (omega arith) (omega arith)))
          (has_more a.b (get_or a.file.now l.i 0) (part a.file.now a.from l.i) l.invariant.2 c.if-file-i.false),
    )

pub returns : goal.returns
returns c =
    let l = c.loop-i in
    record { low = l.invariant.0; high = l.invariant.1; before = l.invariant.2; found = λ h. absurd (omega (arith, h)) }
