-- A table as discovery leaves it: each entry one number, the entries of all states in one list. Document 01, "The table":
--     "an entry: 1 bit possible, 9 bits next state, 2 bits for each module (0 none, 1 start, 2 resume, 3 stop). A module not running has an entry of
--     zeros"
--     orders_from n os       the number n with an order more in its low two bits for each of os
--     entry_number e         the number of an entry: possible, next state, eight orders, zeros for modules that are not there
--     Tells t ms es fs rs states ns     names ms and es, fugitive flags fs, start flags rs and the entries' numbers ns tell the table t
-- Assumes nothing.
use Rattle.std.specs.Prelude.{ℕ, ◌+◌, ◌*◌, ◌≡◌, Bool, false, cond, List, [], ◌∷◌, map, length, get_or, take}
use Rattle.paper.specs.Lists.{gather}
use Rattle.paper.specs.Table.{Entry, Table, flag}
use Rattle.paper.specs.Calls.{eight}
use Rattle.layout.specs.InRange.{InRange}

unfoldable pub orders_from : ℕ → List ℕ → ℕ
orders_from n [] = n
orders_from n (o ∷ os) = orders_from (4 * n + o) os

-- 512 is the bit above a next state
unfoldable pub entry_number : Entry → ℕ
entry_number e = cond e.possible (orders_from (512 + e.next) (eight e.orders)) 0

-- the fugitive flags are of the 26 event letters, the start flags of the modules, in their order
pub record Tells (t : Table) (ms es : List ℕ) (fs : List Bool) (rs : List ℕ) (states : ℕ) (ns : List ℕ) : Type 0 where
  pub modules_are : t.modules ≡ ms
  pub events_are : t.events ≡ es
  pub fugitive_are : t.fugitive ≡ map (λ e. get_or fs e false) es
  pub running_are : rs ≡ eight (map flag t.running)
  pub states_are : length t.rows ≡ states
  pub entries_are : take (states * (length ms + length es)) ns ≡ gather (map entry_number) t.rows
  pub in_range : InRange t
