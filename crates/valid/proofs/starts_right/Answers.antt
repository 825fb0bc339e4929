-- `valid::starts_right` meets its contract: what it tests of each module is what No. 19 says (`starts-right`).
-- Assumes nothing.
use Rattle.std.proofs.Common.{◌∙◌, refl, rules, tests}
use Rattle.layout.proofs.Every.{every-from_all}
use Rattle.valid.proofs.Starts.{start_ok, starts-right}
use Rattle.valid.proofs.starts_right.Goals as goal

pub returns : goal.returns
returns c =
    let a = c.args in
    let k = a.counts in
    every-from_all k.modules (start_ok a.table.now k.modules k.events) c.all.ensures.ran (λ x b q k. search (rules, tests)) refl
    ∙ starts-right a.table.now k c.requires.read
