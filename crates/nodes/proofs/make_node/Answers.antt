-- `nodes::make_node` meets its contract: the kind of the code says which case of `node_by` holds, and `make` makes that node. Assumes nothing.
use mathlib.Core.Path.{refl, sym, ◌∙◌}
use native.Mathlib.Omega.{arith}
use borrow.Author.Tests.{ne_eqb}
use Rattle.nodes.specs.Made.{node_by}
use Rattle.nodes.proofs.Codes.{module-code, event-code}
use Rattle.nodes.proofs.make_node.Goals as goal

pub overflow_sub-c : goal.overflow_sub-c
overflow_sub-c c = omega (arith, module-code c.args.c (sym c.code_kind-k.ensures ∙ c.in-0.is))

pub overflow_sub-c-in-6 : goal.overflow_sub-c-in-6
overflow_sub-c-in-6 c = omega (arith, event-code c.args.c (sym c.code_kind-k.ensures ∙ c.in-6.is))

pub returns-in-1 : goal.returns-in-1
unfolding node_by
returns-in-1 c = rw (sym c.code_kind-k.ensures ∙ c.in-1.is) (record { table_is = refl; node_is = refl })

pub returns-in-0 : goal.returns-in-0
unfolding node_by
returns-in-0 c = rw (sym c.code_kind-k.ensures ∙ c.in-0.is) c.make.ensures

pub returns-in-6 : goal.returns-in-6
unfolding node_by
returns-in-6 c = rw (sym c.code_kind-k.ensures ∙ c.in-6.is) c.make-in-6.ensures

pub returns-in-4 : goal.returns-in-4
unfolding node_by
returns-in-4 c = rw (sym c.code_kind-k.ensures ∙ c.in-4.is) c.make-in-4.ensures

pub returns-in-7 : goal.returns-in-7
unfolding node_by
returns-in-7 c = rw (sym c.code_kind-k.ensures ∙ c.in-7.is) c.make-in-7.ensures

pub returns-in_default : goal.returns-in_default
unfolding node_by
returns-in_default c = rw (← c.code_kind-k.ensures, ne_eqb c.code_kind-k.result 1 (omega arith), ne_eqb c.code_kind-k.result 0 (omega arith), ne_eqb c.code_kind-k.result 6 (omega arith), ne_eqb c.code_kind-k.result 4 (omega arith), ne_eqb c.code_kind-k.result 7 (omega arith)) c.make-in_default.ensures
