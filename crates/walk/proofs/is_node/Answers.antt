-- `walk::is_node` meets its contract. Equal words are equal terms (`Units`, `same-term`).
-- Assumes nothing.
use Rattle.walk.proofs.Units.{same-term}
use native.Mathlib.Omega.{arith}
use Rattle.words.proofs.Holding.{holds-less}
use Rattle.words.proofs.Reading.{in_src, past_top}
use Rattle.walk.proofs.is_node.Goals as goal

pub same-requires : goal.same-requires
same-requires c = omega (arith, holds-less c.skip-z.ensures.held, past_top (omega (arith, in_src _ _ _ c.requires.1.0)) c.skip-z.ensures, holds-less c.expand-a.ensures.held, c.requires.0.top, c.requires.1.1)

pub returns : goal.returns
returns c = same-term _ c.requires.0.table c.skip-z.ensures c.expand-a.ensures c.same.ensures
