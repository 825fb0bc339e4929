-- Which tables may be written. Document 01, "The table", and "Numbers a caller may get back", No. 19:
--     "not a table: wrong layout, count, name (over 25 or out of order), next state, padding, length, zeros, event bit, or a start bit unlike state 0's
--     possible bit"
--     letter_count_of a       how many letters a table has, modules then events
--     entry_at a s l         its entry of state s and letter l
--     Ascending ns          names ascending, each one of the 26
--     EntryInRange m n e    an entry of a table of m modules and n states
--     InRange a             what a table must meet; layout, padding and length are the writing's (`written`)
-- Assumes nothing.
use Rattle.std.specs.Prelude.{ℕ, suc, ◌+◌, ◌≤◌, ◌<◌, ◌≡◌, true, false, List, [], length, get_or}
use Rattle.paper.specs.Table.{Entry, Table}

abbrev pub letter_count_of : Table → ℕ
letter_count_of a = length a.modules + length a.events

-- past the end there is none
abbrev pub no_entry : Entry
no_entry = record { possible = false; next = 0; orders = [] }

abbrev pub entry_at : Table → ℕ → ℕ → Entry
entry_at a s l = get_or (get_or a.rows s []) l no_entry

-- "names ascending, 5 bits each (A or a is 0)", "over 25 or out of order"
pub record Ascending (ns : List ℕ) : Type 0 where
  pub small : (i : ℕ) → i < length ns → get_or ns i 0 ≤ 25
  pub above : (i : ℕ) → suc i < length ns → get_or ns i 0 < get_or ns (suc i) 0

-- "1 bit possible, 9 bits next state, 2 bits for each module (0 none, 1 start, 2 resume, 3 stop). A module not running has an entry of zeros"
pub record EntryInRange (m n : ℕ) (e : Entry) : Type 0 where
  pub next : e.next < n
  pub count : length e.orders ≡ m
  pub order : (k : ℕ) → k < m → get_or e.orders k 0 < 4
  pub zero_next : e.possible ≡ false → e.next ≡ 0
  pub zero_order : e.possible ≡ false → (k : ℕ) → k < m → get_or e.orders k 0 ≡ 0

-- "8 different modules and 8 different events", "At most 512 states", and the start is one; "one bit for each event", "one for each module"; "state by
-- state, letter by letter, an entry", "events are always possible"; the start bits are state 0's possible bits
pub record InRange (a : Table) : Type 0 where
  pub few_modules : length a.modules ≤ 8
  pub few_events : length a.events ≤ 8
  pub some_states : 1 ≤ length a.rows
  pub few_states : length a.rows ≤ 512
  pub modules : Ascending a.modules
  pub events : Ascending a.events
  pub fugitive : length a.fugitive ≡ length a.events
  pub running : length a.running ≡ length a.modules
  pub row : (s : ℕ) → s < length a.rows → length (get_or a.rows s []) ≡ letter_count_of a
  pub entry : (s l : ℕ) → s < length a.rows → l < letter_count_of a → EntryInRange (length a.modules) (length a.rows) (entry_at a s l)
  pub event : (s e : ℕ) → s < length a.rows → e < length a.events → (entry_at a s (length a.modules + e)).possible ≡ true
  pub start : (m : ℕ) → m < length a.modules → get_or a.running m false ≡ (entry_at a 0 m).possible
