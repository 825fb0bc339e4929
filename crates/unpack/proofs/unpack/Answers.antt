-- `unpack::unpack` meets its contract: a test that fails fails of all that decodes, and where none fails the bytes decode to the answer (`Answers`).
-- Assumes nothing.
use Prim.Native.Nat.{ℕ, ◌-◌}
use mathlib.Core.List.{List}
use mathlib.Core.Path.{◌≡◌, sym, ◌∙◌}
use native.Mathlib.Omega.{arith}
use lib.ListN.{length, take, drop}
use borrow.Rule.Slice.PartMut.{put_mid}
use Rattle.std.proofs.Common.{rules}
use Rattle.std.proofs.lemmas.Grind.{common_steps}
use Rattle.walk.proofs.Units.{tells-true, tells-false}
use Rattle.unpack.proofs.Letters.{ascends-small}
use Rattle.unpack.proofs.Answers.{read_small, not-shaped, not-set, not-recalled, not-fresh, not-walked, finding}
use Rattle.unpack.proofs.unpack.Goals as goal

pub returns-then-not-shaped : goal.returns-then-not-shaped
returns-then-not-shaped c = λ q of. not-shaped c.requires.0 c.args.live.now c.requires.1.0 (λ i. omega (arith, c.type_inv.live i)) q of (tells-false _ c.shaped.ensures c.if-not-shaped.true)

pub returns-in_err-stopped : goal.returns-in_err-stopped
returns-in_err-stopped c = λ q of. rw c.from_residual.ensures (not-set c.requires.0 c.args.live.now c.requires.1.0 (λ i. omega (arith, c.type_inv.live i)) q of (rw c.from.ensures at c.in_err-stopped.ensures))

pub returns-in_err-memory : goal.returns-in_err-memory
returns-in_err-memory c = λ q of. rw c.from_residual-in_err-memory.ensures (not-recalled c.requires.0 c.args.live.now c.requires.1.0 (λ i. omega (arith, c.type_inv.live i)) q of c.in_err-memory.ensures)

pub is_fresh-requires : goal.is_fresh-requires
is_fresh-requires c = λ i h. let m = c.in_ok-memory in grind (arith, common_steps, read_small m.ensures c.requires.0.events i)

pub returns-then-not-is_fresh : goal.returns-then-not-is_fresh
returns-then-not-is_fresh c = λ q of. not-fresh c.requires.0 c.args.live.now c.requires.1.0 (λ i. omega (arith, c.type_inv.live i)) q of c.in_ok-memory.ensures (search rules) (sym c.if-not-is_fresh.true ∙ c.is_fresh.ensures)

pub overflow_sub-start : goal.overflow_sub-start
overflow_sub-start c = let s = (tells-true _ c.shaped.ensures c.if-not-shaped.false).short in omega arith

pub fill-requires : goal.fill-requires
fill-requires c = let s = (tells-true _ c.shaped.ensures c.if-not-shaped.false).short in (c.requires.1.0, (grind (arith, common_steps), grind (arith, common_steps)))

-- W with D over what stands from place s on
abbrev filled : (W D : List ℕ) → ℕ → List ℕ
filled W D s = put_mid s (length W - s) W D

module _ (W D : List ℕ) (n : ℕ) (l : length D ≡ length (take (length W - (96 - n)) (drop (96 - n) W))) (h : length W ≡ 96) where
  filled-end : (us : List ℕ) → D ≡ us → drop (96 - n) (filled W D (96 - n)) ≡ us
  filled-end us e = grind (arith, common_steps)

  filled-long : length (filled W D (96 - n)) ≡ 96
  filled-long = grind (arith, common_steps)

pub walk-requires : goal.walk-requires
walk-requires c = (
  (c.requires.0.weighted, λ m t. (ascends-small 0 m c.args.modules.now c.requires.0.modules.ascend t).1),
  (filled-long c.args.w.now c.fill.new.w c.from-start.result c.fill.auto.w c.requires.1.1.0, (c.requires.1.1.1, omega arith)),
)

pub returns-then-not-walk : goal.returns-then-not-walk
returns-then-not-walk c = λ q of.
    not-walked c.requires.0 c.args.live.now c.requires.1.0 (λ i. omega (arith, c.type_inv.live i)) q of (filled c.args.w.now c.fill.new.w (96 - c.from-start.result)) (96 - c.from-start.result)
    (filled-end c.args.w.now c.fill.new.w c.from-start.result c.fill.auto.w c.requires.1.1.0 _ c.fill.ensures) (tells-false _ c.walk.ensures c.if-not-walk.true)

pub returns : goal.returns
returns c = λ q of.
    finding c.requires.0 c.args.live.now c.requires.1.0 (λ i. omega (arith, c.type_inv.live i)) q of (filled c.args.w.now c.fill.new.w (96 - c.from-start.result)) (96 - c.from-start.result)
    (filled-end c.args.w.now c.fill.new.w c.from-start.result c.fill.auto.w c.requires.1.1.0 _ c.fill.ensures) (tells-true _ c.shaped.ensures c.if-not-shaped.false)
    (rw c.from.ensures at c.in_ok-stopped.ensures) c.in_ok-memory.ensures (search rules) (sym c.if-not-is_fresh.false ∙ c.is_fresh.ensures)
    (tells-true _ c.walk.ensures c.if-not-walk.false) (search rules) (filled-long c.args.w.now c.fill.new.w c.from-start.result c.fill.auto.w c.requires.1.1.0) (omega arith)
