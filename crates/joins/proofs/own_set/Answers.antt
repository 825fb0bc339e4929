-- `joins::own_set` meets its contract: the tests say that the letter is one that counts, and its number is below 26, so that the shift loses no bit
-- (`shl_exact`).
-- Assumes nothing.
use Prim.Native.Nat.{◌-◌, ◌^◌}
use mathlib.Core.Path.{sym, ap, ◌∙◌}
use mathlib.Core.Bool.{Bool, false, not, ◌&&◌}
use native.Mathlib.Nat.{one-mul}
use native.Mathlib.Omega.{arith}
use lib.ListN.{get_or}
use lib.Pow.{shl_exact}
use Rattle.letters.specs.Letters.{is_letter}
use Rattle.letters.proofs.Flags.{letter-low, letter-high}
use Rattle.letters.proofs.Turns.{cond-true, cond-false}
use Rattle.joins.proofs.Sets.{and_none}
use Rattle.joins.proofs.Sharing.{true-both}
use Rattle.joins.proofs.own_set.Goals as goal

pub overflow_sub-k : goal.overflow_sub-k
overflow_sub-k c = (letter-low c.args.base c.args.c (sym c.is_letter.ensures ∙ c.if-is_letter.true))

pub bounds-skip-k : goal.bounds-skip-k
bounds-skip-k c = omega (arith, (letter-low c.args.base c.args.c (sym c.is_letter.ensures ∙ c.if-is_letter.true)), (letter-high c.args.base c.args.c (sym c.is_letter.ensures ∙ c.if-is_letter.true)))

pub overflow_shl-result : goal.overflow_shl-result
overflow_shl-result c = omega (arith, (letter-low c.args.base c.args.c (sym c.is_letter.ensures ∙ c.if-is_letter.true)), (letter-high c.args.base c.args.c (sym c.is_letter.ensures ∙ c.if-is_letter.true)))

pub returns-then-not-skip-k : goal.returns-then-not-skip-k
returns-then-not-skip-k c =
    let k = c.args.c - c.args.base in
    let low = (letter-low c.args.base c.args.c (sym c.is_letter.ensures ∙ c.if-is_letter.true)) in
    let high = (letter-high c.args.base c.args.c (sym c.is_letter.ensures ∙ c.if-is_letter.true)) in
    let skips = get_or c.args.skip k false in
    shl_exact 1 k 32 (omega arith) (omega arith)
    ∙ (one-mul (2 ^ k) ∙ sym (cond-true (is_letter c.args.base c.args.c && not skips) (2 ^ k) 0 (true-both (is_letter c.args.base c.args.c) (not skips) (sym c.is_letter.ensures ∙ c.if-is_letter.true) (ap not c.if-not-skip-k.true))))

pub returns-else-not-skip-k : goal.returns-else-not-skip-k
returns-else-not-skip-k c =
    let k = c.args.c - c.args.base in
    let skips = get_or c.args.skip k false in
    sym (cond-false (is_letter c.args.base c.args.c && not skips) (2 ^ k) 0 (ap (λ (t : Bool). is_letter c.args.base c.args.c && t) (ap not c.if-not-skip-k.false) ∙ and_none (is_letter c.args.base c.args.c)))

pub returns-else-is_letter : goal.returns-else-is_letter
returns-else-is_letter c =
    let k = c.args.c - c.args.base in
    let skips = get_or c.args.skip k false in
    sym (cond-false (is_letter c.args.base c.args.c && not skips) (2 ^ k) 0 (ap (λ (t : Bool). t && not skips) (sym c.is_letter.ensures ∙ c.if-is_letter.false)))
