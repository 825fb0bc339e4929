-- The table: what stands in it, and its bits and bytes. Document 01, "The table":
--     "Fields are packed most significant bit first: layout 4 bits (1), modules 4, events 4, states less one 12; names ascending, 5 bits each (A or a
--     is 0), modules then events; one bit for each event, 1 for fugitive; one for each module, 1 if it runs at the start; state by state, letter by
--     letter, an entry: 1 bit possible, 9 bits next state, 2 bits for each module (0 none, 1 start, 2 resume, 3 stop). A module not running has an
--     entry of zeros; events are always possible; zero bits to a whole byte."
--     bits w n              the w bits of the number n, most significant first
--     packed bs             bits to bytes, eight by eight, zero bits at the end
--     Entry, Table          an entry; what a table says
--     written t             the bytes of a table
--     table_of p all         the table of a program whose states are `all`, in order of discovery
-- Not here: which bytes are a table (`IsTable`). Assumes nothing.
use Rattle.std.specs.Prelude.{ℕ, zero, suc, ◌+◌, ◌-◌, ◌*◌, ◌/◌, ◌%◌, ◌^◌, Bool, true, false, cond, List, [], ◌∷◌, ◌++◌, map, eqb, length}
use Rattle.paper.specs.Lists.{choose, has, gather}
use Rattle.paper.specs.Running.{runs_l}
use Rattle.paper.specs.Rewriting.{Letter}
use Rattle.paper.specs.Reaction.{Program, State, start_of, possible, reaction}
use Rattle.paper.specs.Discovery.{letters, eq_s}

unfoldable pub bits : ℕ → ℕ → List ℕ
bits zero n = []
bits (suc w) n = (n / 2 ^ w) % 2 ∷ bits w n

abbrev pub flag : Bool → ℕ
flag true = 1
flag false = 0

-- `value` has the first `count` bits of the next byte
unfoldable pub packed_from : (count value : ℕ) → List ℕ → List ℕ
packed_from count value [] = cond (eqb count 0) [] (value * 2 ^ (8 - count) ∷ [])
packed_from count value (b ∷ bs) =
    choose (eqb count 7) (λ u. (value * 2 + b) ∷ packed_from 0 0 bs) (λ u. packed_from (count + 1) (value * 2 + b) bs)

unfoldable pub packed : List ℕ → List ℕ
packed bs = packed_from 0 0 bs

pub record Entry : Type 0 where
  pub possible : Bool
  pub next : ℕ
  pub orders : List ℕ

pub record Table : Type 0 where
  pub modules : List ℕ
  pub events : List ℕ
  pub fugitive : List Bool
  pub running : List Bool
  pub rows : List (List Entry)

unfoldable pub entry_bits : Entry → List ℕ
entry_bits e = flag e.possible ∷ (bits 9 e.next ++ gather (bits 2) e.orders)

unfoldable pub head_bits : Table → List ℕ
head_bits t = bits 4 1 ++ bits 4 (length t.modules) ++ bits 4 (length t.events) ++ bits 12 (length t.rows - 1)

unfoldable pub table_bits : Table → List ℕ
table_bits t =
    head_bits t ++ gather (bits 5) t.modules ++ gather (bits 5) t.events ++ map flag t.fugitive ++ map flag t.running
    ++ gather (gather entry_bits) t.rows

unfoldable pub written : Table → List ℕ
written t = packed (table_bits t)

-- the number of the state s in order of discovery
unfoldable pub number_of : State → List State → ℕ
number_of s [] = 0
number_of s (t ∷ ts) = choose (eq_s s t) (λ u. 0) (λ u. suc (number_of s ts))

unfoldable pub entry_of : Program → List State → State → Letter → Entry
entry_of p all s l =
    choose (possible l s)
    (λ u. let r = reaction p l s in record { possible = true; next = number_of r.state all; orders = r.does })
    (λ u. record { possible = false; next = 0; orders = map (λ m. 0) p.modules })

unfoldable pub table_of : Program → List State → Table
table_of p all = record {
  modules = p.modules;
  events = p.events;
  fugitive = map (λ e. has e p.fugitive) p.events;
  running = map (λ m. runs_l m (start_of p).left) p.modules;
  rows = map (λ s. map (entry_of p all s) (letters p)) all;
}
