-- `table::letter_index` meets its contract: a search among the letters' bytes.
-- Assumes nothing.
use Rattle.std.proofs.Common.{ℕ, ◌≡◌, ◌≢◌, get_or, List, rules, tests, arith}
use Rattle.std.proofs.lemmas.Iterator.{first_from_Range}
use Rattle.paper.specs.IsTable.{table_modules, table_events}
use Rattle.paper.specs.Calls.{letter_bytes}
use Rattle.table.proofs.Letters.{index_found, letters-length}
use Rattle.table.proofs.letter_index.Goals as goal

pub returns-clause-index : goal.returns-clause-index
returns-clause-index c =
    let a = c.args in
    let bytes : List ℕ = letter_bytes (table_modules a.table.now) (table_events a.table.now) in
    let n = letters-length a.table.now a.counts c.requires.read in
    index_found bytes a.letter c.find.result c.letters.result (omega arith)
    (first_from_Range _ _ _ _ (λ i. get_or bytes i 0 ≡ a.letter) (λ i. get_or bytes i 0 ≢ a.letter) c.find.ensures.ran (λ x q k. search (rules, tests)) (λ x q k. search (rules, tests)))
