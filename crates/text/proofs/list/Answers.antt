-- `text::list` meets its contract: up to the place reached the letters are new, and marked (`Heard`, for whatever was listed before).
-- Assumes nothing.
use Prim.Native.Nat.{ℕ, ◌≤◌}
use mathlib.Core.Path.{◌≡◌, sym, ◌∙◌}
use mathlib.Core.Bool.{Bool, true}
use native.Mathlib.Omega.{arith}
use lib.ListN.{get_or}
use Rattle.paper.specs.Bytes.{is_event}
use Rattle.text.proofs.Letters.{is_event-low, is_event-high, heard-none, heard-step, heard-other, heard-twice, lists-wrong, lists-fine}
use Rattle.text.proofs.list.Goals as goal

-- an event letter is A to Z
in_range : (b : ℕ) (t : Bool) → t ≡ is_event b → t ≡ true → (65 ≤ b) × (b ≤ 90)
in_range b t e h = (is_event-low b (sym e ∙ h), is_event-high b (sym e ∙ h))

pub loop-i-init : goal.loop-i-init
loop-i-init c =
    let a = c.args in
    (omega arith, omega (arith, c.requires), λ before m. heard-none a.file.now a.from a.to before a.seen.now m)

-- not an event letter
pub returns-then-not-is_event : goal.returns-then-not-is_event
returns-then-not-is_event c =
    let a = c.args in
    let l = c.loop-i in
    lists-wrong a.file.now a.from a.to l.i a.seen.now l.seen l.invariant.2
    (λ before m.
    heard-other a.file.now a.from a.to before l.i l.seen (l.invariant.2 before m) l.invariant.0
    c.loop-i-test.true
    c.requires.1
    (sym c.is_event.ensures ∙ c.if-not-is_event.true))

pub overflow_sub-letter : goal.overflow_sub-letter
overflow_sub-letter c =
    (in_range (get_or c.args.file.now c.loop-i.i 0) _ c.is_event.ensures c.if-not-is_event.false).0

pub overflow_cast-letter : goal.overflow_cast-letter
overflow_cast-letter c =
    omega (arith, in_range (get_or c.args.file.now c.loop-i.i 0) _ c.is_event.ensures c.if-not-is_event.false)

pub bounds-seen-letter : goal.bounds-seen-letter
bounds-seen-letter c =
    omega (arith, in_range (get_or c.args.file.now c.loop-i.i 0) _ c.is_event.ensures c.if-not-is_event.false)

-- a letter listed before
pub returns-then-seen-letter : goal.returns-then-seen-letter
returns-then-seen-letter c =
    let a = c.args in
    let l = c.loop-i in
    lists-wrong a.file.now a.from a.to l.i a.seen.now l.seen l.invariant.2
    (λ before m.
    heard-twice a.file.now a.from a.to before l.i l.seen (l.invariant.2 before m) l.invariant.0
    c.loop-i-test.true
    c.requires.1
    (sym c.is_event.ensures ∙ c.if-not-is_event.false)
    c.if-seen-letter.true)

pub bounds-seen-letter-in-loop-i : goal.bounds-seen-letter-in-loop-i
bounds-seen-letter-in-loop-i c =
    omega (arith, in_range (get_or c.args.file.now c.loop-i.i 0) _ c.is_event.ensures c.if-not-is_event.false)

pub loop-i-preserved : goal.loop-i-preserved
loop-i-preserved c =
    let a = c.args in
    let l = c.loop-i in (
      omega arith,
      omega arith,
      λ before m.
          heard-step a.file.now a.from a.to before l.i l.seen (l.invariant.2 before m) l.invariant.0
          c.loop-i-test.true
          c.requires.1
          (sym c.is_event.ensures ∙ c.if-not-is_event.false)
          c.if-seen-letter.false,
    )

pub returns : goal.returns
returns c =
    let a = c.args in
    let l = c.loop-i in
    lists-fine a.file.now a.from a.to l.i a.seen.now l.seen l.invariant.2 (omega arith)
