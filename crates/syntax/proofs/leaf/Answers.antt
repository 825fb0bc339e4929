-- `syntax::leaf` meets its contract: the byte is an atom by itself and is written (`leaf-read`), or no atom begins with it (`atom-no`).
-- Assumes nothing.
use native.Mathlib.Omega.{arith}
use Rattle.syntax.proofs.Steps.{atom-no}
use Rattle.syntax.proofs.Productions.{leaf-in, leaf-read}
use mathlib.Core.Path.{subst, ◌≡◌, sym, ◌∙◌}
use Prim.Native.Nat.{ℕ}
use mathlib.Core.Bool.{false}
use Rattle.syntax.specs.Readers.{is_leaf}
use Rattle.syntax.proofs.leaf.Goals as goal

pub returns-then-not-is_leaf : goal.returns-then-not-is_leaf
returns-then-not-is_leaf c = record { says = atom-no c.args.s.now c.args.at c.requires.open_mark_value (subst (λ (b : ℕ). is_leaf b ≡ false) c.byte_at-b.ensures (sym c.is_leaf.ensures ∙ c.if-not-is_leaf.true)) }

pub put-requires : goal.put-requires
put-requires c = record { room = c.requires.ready.room; l_le_free = (omega arith, omega (arith, (leaf-in c.args.s.now c.args.at c.byte_at-b.result c.byte_at-b.ensures (sym c.is_leaf.ensures ∙ c.if-not-is_leaf.false)), c.requires.ready.short)) }

pub overflow_add-result : goal.overflow_add-result
overflow_add-result c = omega (arith, (leaf-in c.args.s.now c.args.at c.byte_at-b.result c.byte_at-b.ensures (sym c.is_leaf.ensures ∙ c.if-not-is_leaf.false)), c.requires.ready.short, c.requires.ready.few)

pub overflow_add-result-2 : goal.overflow_add-result-2
overflow_add-result-2 c = omega (arith, (leaf-in c.args.s.now c.args.at c.byte_at-b.result c.byte_at-b.ensures (sym c.is_leaf.ensures ∙ c.if-not-is_leaf.false)), c.requires.ready.short, c.requires.ready.few)

pub returns : goal.returns
returns c = record { says = leaf-read c.byte_at-b.result c.byte_at-b.ensures c.requires.open_mark_value (sym c.is_leaf.ensures ∙ c.if-not-is_leaf.false) c.put.ensures }
