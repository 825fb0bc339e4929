-- What start and step answer of a table, in its own words. Document 01, "Numbers a caller may get back":
--     "Table start: 19; it answers state 0 and the modules that run. Table step: 19 to 22."
--     start_from a           state 0 and the modules that run
--     taken_from e           an entry's next state and orders, or No. 22
--     step_from a state letter     the step, or No. 20 to 22
-- Not here: No. 19, which bytes are a table. Assumes nothing.
use Rattle.std.specs.Prelude.{ℕ, cond, map, ltb, length}
use Rattle.paper.specs.Lists.{chosen}
use Rattle.paper.specs.Table.{Entry, Table, flag}
use Rattle.paper.specs.Calls.{Stepped, not_stepped, steps_to, index_from, letter_bytes}
use Rattle.layout.specs.InRange.{entry_at}

abbrev pub start_from : Table → Stepped
start_from a = steps_to 0 (map flag a.running)

-- No. 22: "completion of a module not running"
abbrev pub taken_from : Entry → Stepped
taken_from e = cond e.possible (steps_to e.next e.orders) (not_stepped 22)

-- No. 20: "state number not below the count", No. 21: "letter not in the program"
unfoldable pub step_from : Table → (state letter : ℕ) → Stepped
step_from a state letter =
    cond (ltb state (length a.rows))
    (chosen (index_from 0 letter (letter_bytes a.modules a.events)) (λ u. not_stepped 21) (λ l. taken_from (entry_at a state l)))
    (not_stepped 20)
