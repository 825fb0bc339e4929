-- `rewrite::rewrite_state` meets its contract. A state's word has room for its rewriting, and what was made stands as a state (`Standing`).
-- Assumes nothing.
use native.Mathlib.Omega.{arith}
use mathlib.Core.Path.{◌∙◌}
use Rattle.rewrite.specs.Steps.{letter_of}
use Rattle.rewrite.proofs.Standing.{works-of, stands_of, light-of}
use Rattle.rewrite.proofs.rewrite_state.Goals as goal

pub rewrite_term-r-requires : goal.rewrite_term-r-requires
rewrite_term-r-requires c = (works-of c.requires.1.0 c.requires.0 c.requires.1.1.0 c.requires.1.1.1)

pub copy-requires : goal.copy-requires
copy-requires c = (omega (arith, c.rewrite_term-r.ensures.held.long), (omega (arith, c.rewrite_term-r.auto.dst, c.requires.1.1.1), omega (arith, c.requires.1.0.long)))

pub returns : goal.returns
returns c = stands_of c.requires.1.1.1 c.rewrite_term-r.ensures c.copy.ensures (c.copy.auto.dst ∙ c.requires.1.0.long) (light-of (letter_of c.args.letter) (works-of c.requires.1.0 c.requires.0 c.requires.1.1.0 c.requires.1.1.1))
