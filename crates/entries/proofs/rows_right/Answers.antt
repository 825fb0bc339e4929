-- `entries::rows_right` meets its contract: what is tested of all states is what No. 19 says (`rows_right`).
-- Assumes nothing.
use Rattle.std.proofs.Common.{◌∙◌, refl, rules, tests}
use Rattle.layout.specs.Places.{place}
use Rattle.layout.proofs.Every.{every-from_all}
use Rattle.entries.specs.Entries.{row_right}
use Rattle.entries.proofs.Rows.{rows_right}
use Rattle.entries.proofs.rows_right.Goals as goal

pub returns : goal.returns
returns c =
    let a = c.args in
    let k = a.counts in
    every-from_all k.states (λ s. row_right a.table.now (place k.modules k.events s 0) k.modules k.events k.states) c.all.ensures.ran (λ x b q k. search (rules, tests)) refl
    ∙ rows_right a.table.now k c.requires
