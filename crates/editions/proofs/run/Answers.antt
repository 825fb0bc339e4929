-- `editions::run` meets its contract: what was read is the whole input, or more than a file may have. Assumes nothing.
use Rattle.std.proofs.Common.{arith}
use Rattle.editions.proofs.Files.{known-ok}
use Rattle.editions.proofs.run.Goals as goal

pub returns-clause-whole : goal.returns-clause-whole
returns-clause-whole g c =
    known-ok _ _ _ _ _ _ _ c.in_ok-count.ensures.bytes
    (λ h. c.in_ok-count.ensures.end (omega (arith, c.in_ok-count.ensures.within.1)))
    c.answer.ensures
