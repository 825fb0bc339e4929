-- `letters::flag` meets its contract: the test says that the byte is a letter, so its distance from the base is an index below 26 (`letter-low`,
-- `letter-high`).
-- Assumes nothing.
use Prim.Native.Nat.{◌-◌}
use mathlib.Core.Path.{sym, ap, ◌∙◌}
use mathlib.Core.Bool.{Bool, false, ◌&&◌}
use native.Mathlib.Omega.{arith}
use lib.ListN.{get_or}
use Rattle.letters.proofs.Flags.{letter-low, letter-high}
use Rattle.letters.proofs.flag.Goals as goal

pub overflow_sub-result : goal.overflow_sub-result
overflow_sub-result c = letter-low c.args.base c.args.b (sym c.is_letter.ensures ∙ c.if-is_letter.true)

pub bounds-flags-b : goal.bounds-flags-b
bounds-flags-b c = omega (arith, letter-low c.args.base c.args.b (sym c.is_letter.ensures ∙ c.if-is_letter.true), letter-high c.args.base c.args.b (sym c.is_letter.ensures ∙ c.if-is_letter.true))

pub returns-then-is_letter : goal.returns-then-is_letter
returns-then-is_letter c = sym (ap (λ (x : Bool). x && get_or c.args.flags.now (c.args.b - c.args.base) false) (sym c.is_letter.ensures ∙ c.if-is_letter.true))

pub returns : goal.returns
returns c = sym (ap (λ (x : Bool). x && get_or c.args.flags.now (c.args.b - c.args.base) false) (sym c.is_letter.ensures ∙ c.if-is_letter.false))
