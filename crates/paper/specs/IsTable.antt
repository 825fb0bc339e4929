-- Which bytes are a table, and what stands where in them. Document 01, "Numbers a caller may get back", No. 19:
--     "not a table: wrong layout, count, name (over 25 or out of order), next state, padding, length, zeros, event bit, or a start bit unlike state 0's
--     possible bit"
--     bits_of t              the bits of the bytes t, one after the other
--     field t at w          the number in the w bits from the bit `at` on
--     module_count, event_count, state_count, names ..      the fields by name, each at its place
--     is_table t             no condition of No. 19 holds
-- Not here: the writing (`Table`). Assumes nothing.
use Rattle.std.specs.Prelude.{ℕ, suc, ◌+◌, ◌-◌, ◌*◌, ◌/◌, Bool, true, false, cond, not, ◌&&◌, ◌||◌, List, [], ◌∷◌, ◌++◌, map, eqb, leb, ltb, length, take, drop}
use Rattle.paper.specs.Lists.{gather, below, every}
use Rattle.paper.specs.Table.{bits}

unfoldable pub bits_of : List ℕ → List ℕ
bits_of t = gather (bits 8) t

-- the number that bits write, the first of them the most significant; `n` has those before
unfoldable pub number_from : ℕ → List ℕ → ℕ
number_from n [] = n
number_from n (b ∷ bs) = number_from (n * 2 + b) bs

unfoldable pub field : List ℕ → ℕ → ℕ → ℕ
field t at w = number_from 0 (take w (drop at (bits_of t)))

-- "layout 4 bits (1), modules 4, events 4, states less one 12"
unfoldable pub layout : List ℕ → ℕ
layout t = field t 0 4

unfoldable pub module_count : List ℕ → ℕ
module_count t = field t 4 4

unfoldable pub event_count : List ℕ → ℕ
event_count t = field t 8 4

unfoldable pub state_count : List ℕ → ℕ
state_count t = suc (field t 12 12)

abbrev pub letter_count : List ℕ → ℕ
letter_count t = module_count t + event_count t

-- "names ascending, 5 bits each (A or a is 0), modules then events"
abbrev pub name_at : List ℕ → ℕ → ℕ
name_at t i = field t (24 + 5 * i) 5

-- "one bit for each event, 1 for fugitive; one for each module, 1 if it runs at the start"
abbrev pub start_at : List ℕ → ℕ → ℕ
start_at t m = field t (24 + 5 * letter_count t + event_count t + m) 1

-- an entry: "1 bit possible, 9 bits next state, 2 bits for each module"
abbrev pub entry_width : List ℕ → ℕ
entry_width t = 10 + 2 * module_count t

abbrev pub entry_place : List ℕ → ℕ → ℕ → ℕ
entry_place t s l = 24 + 6 * letter_count t + (s * letter_count t + l) * entry_width t

abbrev pub possible_at : List ℕ → ℕ → ℕ → ℕ
possible_at t s l = field t (entry_place t s l) 1

abbrev pub next_at : List ℕ → ℕ → ℕ → ℕ
next_at t s l = field t (entry_place t s l + 1) 9

abbrev pub order_at : List ℕ → ℕ → ℕ → ℕ → ℕ
order_at t s l m = field t (entry_place t s l + 10 + 2 * m) 2

-- where the entries end, in bits
abbrev pub bit_count : List ℕ → ℕ
bit_count t = entry_place t (state_count t) 0

unfoldable pub wrong_layout : List ℕ → Bool
wrong_layout t = not (eqb (layout t) 1)

-- "8 different modules and 8 different events", "At most 512 states."
unfoldable pub wrong_count : List ℕ → Bool
wrong_count t = not (leb (module_count t) 8 && leb (event_count t) 8 && leb (state_count t) 512)

-- "to a whole byte"
unfoldable pub wrong_length : List ℕ → Bool
wrong_length t = not (eqb (length t) ((bit_count t + 7) / 8))

-- n names from the i-th on: each at most 25 and above the one before it
unfoldable pub ascend : List ℕ → ℕ → ℕ → Bool
ascend t i n = every n (λ k. leb (name_at t (i + k)) 25 && (eqb k 0 || ltb (name_at t (i + k - 1)) (name_at t (i + k))))

unfoldable pub wrong_name : List ℕ → Bool
wrong_name t = not (ascend t 0 (module_count t) && ascend t (module_count t) (event_count t))

-- "next state"
unfoldable pub wrong_next : List ℕ → Bool
wrong_next t = not (every (state_count t) (λ s. every (letter_count t) (λ l. ltb (next_at t s l) (state_count t))))

-- "zeros": "A module not running has an entry of zeros"
unfoldable pub zeros : List ℕ → ℕ → ℕ → Bool
zeros t s l = eqb (next_at t s l) 0 && every (module_count t) (λ m. eqb (order_at t s l m) 0)

unfoldable pub wrong_zeros : List ℕ → Bool
wrong_zeros t = not (every (state_count t) (λ s. every (letter_count t) (λ l. eqb (possible_at t s l) 1 || zeros t s l)))

-- "event bit": "events are always possible"
unfoldable pub wrong_event : List ℕ → Bool
wrong_event t = not (every (state_count t) (λ s. every (event_count t) (λ e. eqb (possible_at t s (module_count t + e)) 1)))

-- "a start bit unlike state 0's possible bit"
unfoldable pub wrong_start : List ℕ → Bool
wrong_start t = not (every (module_count t) (λ m. eqb (start_at t m) (possible_at t 0 m)))

-- "padding": "zero bits to a whole byte"
unfoldable pub wrong_padding : List ℕ → Bool
wrong_padding t = not (eqb (number_from 0 (drop (bit_count t) (bits_of t))) 0)

unfoldable pub is_table : List ℕ → Bool
is_table t =
    not
    (wrong_layout t || wrong_count t || wrong_name t || wrong_next t || wrong_padding t || wrong_length t || wrong_zeros t || wrong_event t
    || wrong_start t)

-- the names of the modules and of the events
unfoldable pub table_modules : List ℕ → List ℕ
table_modules t = map (λ i. name_at t i) (below (module_count t))

unfoldable pub table_events : List ℕ → List ℕ
table_events t = map (λ i. name_at t (module_count t + i)) (below (event_count t))
