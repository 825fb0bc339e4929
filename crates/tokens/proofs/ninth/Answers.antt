-- What the proof of `tokens::ninth` leaves beside its invariants; Invariants.antt has the argument.
use mathlib.Core.Path.{refl, sym, ◌∙◌}
use mathlib.Core.Bool.{Bool, true, false}
use native.Mathlib.Omega.{arith}
use lib.ListN.{get_or-replicate, replicate, get_or}
use Rattle.letters.specs.Letters.{is_letter}
use Rattle.letters.proofs.Turns.{ninth-end}
use Rattle.letters.proofs.Few.{new-test, seen_none, seen-ninth, seen-new, seen-old}
use Rattle.tokens.proofs.ninth.Goals as goal

pub loop-i-init : goal.loop-i-init
loop-i-init c = (omega arith, seen_none c.args.base c.args.s.now c.args.at (replicate 26 false) refl (λ l h. get_or-replicate 26 l false false h))

pub returns-then-count-eq8 : goal.returns-then-count-eq8
returns-then-count-eq8 c =
    let e = new-test c.args.base c.loop-i.seen (get_or c.args.s.now c.loop-i.i 0) c.is_letter.result c.flag.result true c.is_letter.ensures c.flag.ensures c.if-is_letter-flag.true in
    sym (seen-ninth c.args.base c.args.s.now c.args.at c.loop-i.seen c.loop-i.count c.loop-i.i c.loop-i.invariant.1 c.loop-i-test.true e c.if-count-eq8.true)

pub loop-i-preserved : goal.loop-i-preserved
loop-i-preserved c =
    let b = get_or c.args.s.now c.loop-i.i 0 in
    let test = λ (r : Bool). new-test c.args.base c.loop-i.seen b c.is_letter.result c.flag.result r c.is_letter.ensures c.flag.ensures in
    let now = seen-new c.args.base c.args.s.now c.args.at c.loop-i.seen c.loop-i.count c.loop-i.i c.loop-i.invariant.1 c.loop-i-test.true in
    let old = seen-old c.args.base c.args.s.now c.args.at c.loop-i.seen c.loop-i.count c.loop-i.i c.loop-i.invariant.1 c.loop-i-test.true in
    grind (arith, test true, test false, now, old)

pub returns : goal.returns
returns c = sym (c.loop-i.invariant.1.rest ∙ ninth-end (is_letter c.args.base) c.loop-i.invariant.1.seen c.args.s.now c.loop-i.i c.loop-i-test.false)
