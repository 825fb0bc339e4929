-- `engine::is_fugitive` meets its contract. Assumes nothing.
use Rattle.engine.proofs.Names.{not-both, same-event}
use lib.ListN.{get_or}
use native.Mathlib.Omega.{arith}
use mathlib.Core.Bool.{false}
use mathlib.Core.Path.{ap}
use Prim.Native.Nat.{ℕ}
use Rattle.engine.proofs.is_fugitive.Goals as goal

pub returns-in-Completion : goal.returns-in-Completion
returns-in-Completion c = λ e k h. not-both c.args.letter c.in-Completion.field-0 e c.in-Completion.is k

pub returns-then-e-lt26 : goal.returns-then-e-lt26
returns-then-e-lt26 c = λ e k h. ap (λ (n : ℕ). get_or c.args.fugitive.now n false) (same-event c.args.letter c.in-Occurrence.e e c.in-Occurrence.is k)

pub returns-else-e-lt26 : goal.returns-else-e-lt26
returns-else-e-lt26 c = λ e k h. absurd (omega (arith, same-event c.args.letter c.in-Occurrence.e e c.in-Occurrence.is k, c.if-e-lt26.false, h))
