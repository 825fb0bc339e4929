-- What the proof of `tokens::unused_in` leaves beside its invariants; Invariants.antt has the argument.
use Prim.Native.Nat.{◌-◌, ◌<◌}
use mathlib.Core.Path.{◌≡◌, refl, sym, ap, ◌∙◌}
use mathlib.Core.Bool.{true}
use mathlib.Core.Option.{some}
use native.Mathlib.Omega.{arith}
use lib.ListN.{length, get_or}
use lib.Seq.{slice, length-slice}
use Rattle.paper.specs.Lists.{has}
use Rattle.paper.specs.Bytes.{is_event}
use Rattle.paper.specs.Grammar.{event_byte}
use Rattle.letters.proofs.Turns.{cond-true, cond-false, unused-one, unused-end, slice_at}
use Rattle.letters.proofs.Flags.{event-flag}
use Rattle.tokens.proofs.unused_in.Goals as goal

pub loop-i-init : goal.loop-i-init
loop-i-init c = (omega arith, λ v t. refl)

pub returns-then-not-flag : goal.returns-then-not-flag
returns-then-not-flag c = λ v t.
    let e : is_event (get_or c.args.file.now c.loop-i.i 0) ≡ true =
    (let k : c.loop-i.i - c.args.from < length (slice c.args.from c.args.to c.args.file.now) = omega (arith, length-slice c.args.from c.args.to c.args.file.now c.requires.0) in
    ap is_event (sym (slice_at c.args.file.now c.args.from c.loop-i.i c.args.to c.loop-i.invariant.0 c.loop-i-test.true)) ∙ c.requires.1 (c.loop-i.i - c.args.from) k) in
    sym (c.loop-i.invariant.1 v t ∙ (unused-one v c.args.file.now c.loop-i.i c.args.to c.loop-i-test.true c.requires.0
    ∙ cond-false (has (event_byte ((get_or c.args.file.now c.loop-i.i 0) - 65)) v) _ (some c.loop-i.i) (sym (event-flag c.args.used v (get_or c.args.file.now c.loop-i.i 0) t e) ∙ (sym c.flag.ensures ∙ c.if-not-flag.true))))

pub loop-i-preserved : goal.loop-i-preserved
loop-i-preserved c = (
  omega arith,
  λ v t.
      let e : is_event (get_or c.args.file.now c.loop-i.i 0) ≡ true =
      (let k : c.loop-i.i - c.args.from < length (slice c.args.from c.args.to c.args.file.now) = omega (arith, length-slice c.args.from c.args.to c.args.file.now c.requires.0) in
      ap is_event (sym (slice_at c.args.file.now c.args.from c.loop-i.i c.args.to c.loop-i.invariant.0 c.loop-i-test.true)) ∙ c.requires.1 (c.loop-i.i - c.args.from) k) in
      c.loop-i.invariant.1 v t ∙ (unused-one v c.args.file.now c.loop-i.i c.args.to c.loop-i-test.true c.requires.0
      ∙ cond-true (has (event_byte ((get_or c.args.file.now c.loop-i.i 0) - 65)) v) _ (some c.loop-i.i) (sym (event-flag c.args.used v (get_or c.args.file.now c.loop-i.i 0) t e) ∙ (sym c.flag.ensures ∙ c.if-not-flag.false))),
)

pub returns : goal.returns
returns c = λ v t. sym (c.loop-i.invariant.1 v t ∙ unused-end v c.args.file.now c.loop-i.i c.args.to c.requires.0 c.loop-i-test.false)
