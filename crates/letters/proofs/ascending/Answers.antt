-- `letters::ascending` meets its contract: the flags tell which letters the text uses, and where there is no ninth they are at most eight (`ninth-few`).
-- Assumes nothing.
use Prim.Native.Nat.{ℕ, ◌+◌}
use mathlib.Core.Path.{ap, ◌∙◌}
use mathlib.Core.Bool.{false}
use native.Mathlib.Omega.{arith}
use lib.ListN.{length, drop, get_or}
use Rattle.paper.specs.Lists.{has}
use Rattle.letters.specs.Letters.{names_of}
use Rattle.letters.proofs.Collects.{keep_same}
use Rattle.letters.proofs.Few.{ninth-few}
use Rattle.letters.proofs.ascending.Goals as goal

pub collect-requires : goal.collect-requires
collect-requires c = omega (arith, ap length (keep_same (λ (l : ℕ). get_or c.used.result l false) (λ (l : ℕ). has (c.args.base + l) (drop c.args.at c.args.s.now)) 26 c.used.ensures), ninth-few c.args.base c.args.at (drop c.args.at c.args.s.now) c.requires.1)

pub returns : goal.returns
returns c = c.collect.ensures ∙ ap names_of (keep_same (λ (l : ℕ). get_or c.used.result l false) (λ (l : ℕ). has (c.args.base + l) (drop c.args.at c.args.s.now)) 26 c.used.ensures)
