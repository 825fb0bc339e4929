-- `letters::mark` meets its contract: the test says whether the byte is a letter, which decides `marked`, and that its distance is an index below 26.
-- Assumes nothing.
use Prim.Native.Nat.{◌-◌}
use mathlib.Core.Path.{sym, ◌∙◌}
use mathlib.Core.Bool.{true}
use native.Mathlib.Omega.{arith}
use lib.ListN.{set}
use Rattle.letters.specs.Letters.{is_letter}
use Rattle.letters.proofs.Flags.{letter-low, letter-high}
use Rattle.letters.proofs.Turns.{cond-true, cond-false}
use Rattle.letters.proofs.mark.Goals as goal

pub overflow_sub-flags : goal.overflow_sub-flags
overflow_sub-flags c = letter-low c.args.base c.args.b (sym c.is_letter.ensures ∙ c.if-is_letter.true)

pub bounds-flags-b : goal.bounds-flags-b
bounds-flags-b c = omega (arith, letter-low c.args.base c.args.b (sym c.is_letter.ensures ∙ c.if-is_letter.true), letter-high c.args.base c.args.b (sym c.is_letter.ensures ∙ c.if-is_letter.true))

pub returns-then-is_letter : goal.returns-then-is_letter
returns-then-is_letter c = sym (cond-true (is_letter c.args.base c.args.b) (set c.args.flags.now (c.args.b - c.args.base) true) c.args.flags.now (sym c.is_letter.ensures ∙ c.if-is_letter.true))

pub returns-else-is_letter : goal.returns-else-is_letter
returns-else-is_letter c = sym (cond-false (is_letter c.args.base c.args.b) (set c.args.flags.now (c.args.b - c.args.base) true) c.args.flags.now (sym c.is_letter.ensures ∙ c.if-is_letter.false))
