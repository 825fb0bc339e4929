-- `nodes::code_kind` meets its contract: at each single code `code_kind` computes, and the letters and what is left go by their ranges (`Codes`).
-- Assumes nothing.
use native.Mathlib.Omega.{arith}
use mathlib.Core.Path.{sym}
use Rattle.nodes.specs.Made.{code_kind}
use Rattle.nodes.proofs.Codes.{module-kind, event-kind, other-kind, under, over}
use Rattle.nodes.proofs.code_kind.Goals as goal

pub returns-in-49 : goal.returns-in-49
unfolding code_kind
returns-in-49 c = rw c.in-49.is

pub returns-in-42 : goal.returns-in-42
unfolding code_kind
returns-in-42 c = rw c.in-42.is

pub returns-in-59 : goal.returns-in-59
unfolding code_kind
returns-in-59 c = rw c.in-59.is

pub returns-in-124 : goal.returns-in-124
unfolding code_kind
returns-in-124 c = rw c.in-124.is

pub returns-in-47 : goal.returns-in-47
unfolding code_kind
returns-in-47 c = rw c.in-47.is

pub returns-in-58 : goal.returns-in-58
unfolding code_kind
returns-in-58 c = rw c.in-58.is

pub returns-in-33 : goal.returns-in-33
unfolding code_kind
returns-in-33 c = rw c.in-33.is

pub returns-in-65-to-90 : goal.returns-in-65-to-90
returns-in-65-to-90 c = sym (event-kind c.args.c (omega arith) (omega arith))

pub returns-in-97-to-122 : goal.returns-in-97-to-122
returns-in-97-to-122 c = sym (module-kind c.args.c (omega arith) (omega arith))

pub returns-in_default : goal.returns-in_default
returns-in_default c = sym (other-kind c.args.c (under 97 122 c.args.c (omega arith)) (under 65 90 c.args.c (omega arith)) (omega arith) (omega arith) (omega arith) (omega arith) (omega arith) (omega arith) (omega arith))

pub returns-in_default-2 : goal.returns-in_default-2
returns-in_default-2 c = sym (other-kind c.args.c (under 97 122 c.args.c (omega arith)) (over 65 90 c.args.c (omega arith) (omega arith)) (omega arith) (omega arith) (omega arith) (omega arith) (omega arith) (omega arith) (omega arith))

pub returns-in_default-3 : goal.returns-in_default-3
returns-in_default-3 c = sym (other-kind c.args.c (over 97 122 c.args.c (omega arith) (omega arith)) (over 65 90 c.args.c (omega arith) (omega arith)) (omega arith) (omega arith) (omega arith) (omega arith) (omega arith) (omega arith) (omega arith))
