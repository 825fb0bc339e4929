-- `words::skip` meets its contract: the argument is in `Invariants`.
use native.Mathlib.Omega.{arith}
use mathlib.Core.Path.{ap}
use Rattle.words.specs.Word.{arity}
use Rattle.words.proofs.Holding.{holds-less}
use Rattle.words.proofs.Reading.{arity-most, in_src, src-unary, src-binary, src-mid, past-unary, past-binary, past-leaf}
use Rattle.words.proofs.+skip.Goals as goal

pub offset_bounds-src-s : goal.offset_bounds-src-s
offset_bounds-src-s t c = omega (arith, in_src _ _ _ c.requires)

pub bounds-src-s : goal.bounds-src-s
bounds-src-s t c = in_src _ _ _ c.requires

pub overflow_add-s : goal.overflow_add-s
overflow_add-s t c = omega (arith, in_src _ _ _ c.requires)

pub skip-requires : goal.skip-requires
skip-requires t c = (omega (arith, in_src _ _ _ c.requires), src-unary c.requires (omega (arith, ap arity c.of.ensures.says)))

pub skip-second-requires : goal.skip-second-requires
skip-second-requires t c = (omega (arith, in_src _ _ _ c.requires), src-binary c.requires (omega (arith, ap arity c.of.ensures.says, arity-most)))

pub skip-requires-in_default : goal.skip-requires-in_default
skip-requires-in_default t c =
    (omega (arith, in_src _ _ _ c.requires, holds-less c.skip-second.ensures.held), src-mid c.requires (omega (arith, ap arity c.of.ensures.says, arity-most)) c.skip-second.ensures)

pub returns-in-0 : goal.returns-in-0
returns-in-0 t c = past-leaf c.requires (omega (arith, ap arity c.of.ensures.says))

pub returns-in-1 : goal.returns-in-1
returns-in-1 t c = past-unary c.requires (omega (arith, ap arity c.of.ensures.says)) c.skip.ensures

pub returns-in_default : goal.returns-in_default
returns-in_default t c = past-binary c.requires (omega (arith, ap arity c.of.ensures.says, arity-most)) c.skip-second.ensures c.skip-in_default.ensures
