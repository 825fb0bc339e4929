-- What bytes say, field by field, and the table that stands in them. Document 01, "The table".
--     fugitive_at t e        the field of an event: 1 for fugitive
--     Says t a              each field of the bytes t is the table a's part
--     entry_in t s l         the entry of state s and letter l that stands in t
--     table_in t             the table that stands in t
-- Assumes nothing.
use Rattle.std.specs.Prelude.{ℕ, ◌+◌, ◌*◌, ◌<◌, ◌≡◌, false, List, ◌++◌, map, eqb, length, get_or}
use Rattle.paper.specs.Lists.{below}
use Rattle.paper.specs.Table.{Entry, Table, flag}
use Rattle.paper.specs.IsTable.{field, layout, module_count, event_count, state_count, letter_count, name_at, start_at, possible_at, next_at, order_at, table_modules, table_events}
use Rattle.layout.specs.InRange.{letter_count_of, entry_at}

-- "one bit for each event, 1 for fugitive"
abbrev pub fugitive_at : List ℕ → ℕ → ℕ
fugitive_at t e = field t (24 + 5 * letter_count t + e) 1

pub record Says (t : List ℕ) (a : Table) : Type 0 where
  pub laid : layout t ≡ 1
  pub modules : module_count t ≡ length a.modules
  pub events : event_count t ≡ length a.events
  pub states : state_count t ≡ length a.rows
  pub name : (i : ℕ) → i < letter_count_of a → name_at t i ≡ get_or (a.modules ++ a.events) i 0
  pub fugitive : (e : ℕ) → e < length a.events → fugitive_at t e ≡ flag (get_or a.fugitive e false)
  pub start : (m : ℕ) → m < length a.modules → start_at t m ≡ flag (get_or a.running m false)
  pub possible : (s l : ℕ) → s < length a.rows → l < letter_count_of a → possible_at t s l ≡ flag (entry_at a s l).possible
  pub next : (s l : ℕ) → s < length a.rows → l < letter_count_of a → next_at t s l ≡ (entry_at a s l).next
  pub order : (s l m : ℕ) → s < length a.rows → l < letter_count_of a → m < length a.modules → order_at t s l m ≡ get_or (entry_at a s l).orders m 0

unfoldable pub entry_in : List ℕ → ℕ → ℕ → Entry
entry_in t s l =
    record {
      possible = eqb (possible_at t s l) 1;
      next = next_at t s l;
      orders = map (λ m. order_at t s l m) (below (module_count t));
    }

unfoldable pub table_in : List ℕ → Table
table_in t = record {
  modules = table_modules t;
  events = table_events t;
  fugitive = map (λ e. eqb (fugitive_at t e) 1) (below (event_count t));
  running = map (λ m. eqb (start_at t m) 1) (below (module_count t));
  rows = map (λ s. map (entry_in t s) (below (letter_count t))) (below (state_count t));
}
