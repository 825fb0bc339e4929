-- `joins::node_set` meets its contract: the tests decide the case of `node_set`.
-- Assumes nothing.
use Prim.Native.Nat.{ℕ}
use mathlib.Core.Path.{sym, ◌∙◌}
use mathlib.Core.Bool.{false, cond, not}
use lib.Bits.{bit_or}
use lib.ListN.{get_or}
use borrow.Author.Tests.{eq-eqb, ne_eqb}
use Rattle.stars.specs.Nodes.{is_star, is_join}
use Rattle.joins.specs.Sets.{own_set}
use Rattle.letters.proofs.Turns.{cond-true, cond-false}
use Rattle.joins.proofs.node_set.Goals as goal

pub returns-then-is_join : goal.returns-then-is_join
returns-then-is_join c = sym (cond-true (is_join c.args.c) (bit_or c.args.y c.args.z) (cond (is_star c.args.c) c.args.z (own_set c.args.base (λ (k : ℕ). not (get_or c.args.skip k false)) c.args.c)) (sym c.is_join.ensures ∙ c.if-is_join.true))

pub returns-then-c-eq42 : goal.returns-then-c-eq42
returns-then-c-eq42 c = sym (cond-false (is_join c.args.c) (bit_or c.args.y c.args.z) (cond (is_star c.args.c) c.args.z (own_set c.args.base (λ (k : ℕ). not (get_or c.args.skip k false)) c.args.c)) (sym c.is_join.ensures ∙ c.if-is_join.false) ∙ cond-true (is_star c.args.c) c.args.z (own_set c.args.base (λ (k : ℕ). not (get_or c.args.skip k false)) c.args.c) (eq-eqb c.args.c 42 c.if-c-eq42.true))

pub returns : goal.returns
returns c = c.own_set.ensures ∙ sym (cond-false (is_join c.args.c) (bit_or c.args.y c.args.z) (cond (is_star c.args.c) c.args.z (own_set c.args.base (λ (k : ℕ). not (get_or c.args.skip k false)) c.args.c)) (sym c.is_join.ensures ∙ c.if-is_join.false) ∙ cond-false (is_star c.args.c) c.args.z (own_set c.args.base (λ (k : ℕ). not (get_or c.args.skip k false)) c.args.c) (ne_eqb c.args.c 42 c.if-c-eq42.false))
