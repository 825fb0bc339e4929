-- `lists::either` meets its contract: a flag is set where the second list has it (`join-on`), else it stays (`join-off`). Assumes nothing.
use Prim.Native.Nat.{◌+◌}
use mathlib.Core.Path.{refl, subst, sym}
use mathlib.Core.List.{List}
use mathlib.Core.Bool.{Bool}
use native.Mathlib.Omega.{arith}
use borrow.Author.Rules.{rules}
use Rattle.reader.proofs.Either.{Joined, join-on, join-off}
use Rattle.reader.proofs.lists.either.Goals as goal
use Rattle.reader.proofs.lists.either.Goals.{then-b-l, else-b-l}

pub loop-l-init : goal.loop-l-init
loop-l-init c = (
  omega arith,
  record { long = (search rules); done = λ k q. absurd (omega arith); rest = λ k q. refl },
)

pub loop-l-preserved : goal.loop-l-preserved
loop-l-preserved c =
    let a = c.args in
    let l = c.loop-l in (
      omega arith,
      elim c.if-b-l.branch [
        | then-b-l w ↦ subst (λ (fs : List Bool). Joined a.a a.b fs (l.l + 1)) (sym w.flags-is)
            (join-on a.a a.b l.flags l.l l.invariant.1 (omega arith) w.if-b-l.true)
        | else-b-l w ↦ subst (λ (fs : List Bool). Joined a.a a.b fs (l.l + 1)) (sym w.flags-is)
            (join-off a.a a.b l.flags l.l l.invariant.1 (omega arith) w.if-b-l.false)
      ],
    )

pub returns : goal.returns
returns c = λ l q. c.loop-l.invariant.1.done l (omega arith)
