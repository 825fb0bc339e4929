-- A table is right: what holds of the table that a program is given. Document 01, "The table".
--     letter_by_place q l, state_at q i     the l-th letter of the program q in the table's order; its i-th state in the order of discovery
--     TableRight q t states     the bytes t are the table of the program q, which has so many states
--     Answered e file c     the outcome c of compiling the file for the edition e is the right table of its program
-- Not here: that the compiler's tables are right (the proofs' `Demand`). Assumes nothing.
use Rattle.std.specs.Prelude.{ℕ, ◌<◌, true, false, List, [], ◌∷◌, ◌↔◌, ◌≡◌, T, length, get_or, take}
use Rattle.paper.specs.Lists.{has}
use Rattle.paper.specs.Parse.{parse}
use Rattle.paper.specs.File.{accepted}
use Rattle.paper.specs.Running.{runs_l}
use Rattle.paper.specs.Rewriting.{Letter, completion}
use Rattle.paper.specs.Reaction.{Program, State, start_of, possible, reaction}
use Rattle.paper.specs.Discovery.{letters, Reach, has_s, discovered}
use Rattle.paper.specs.Table.{flag, written, table_of}
use Rattle.paper.specs.IsTable.{state_count, start_at, possible_at, next_at, order_at, is_table, table_modules, table_events}
use Rattle.paper.specs.Refusals.{Edition, reading}
use Rattle.paper.specs.Calls.{Compiled}
use Rattle.layout.specs.Says.{fugitive_at}
use Rattle.laws.proofs.Members.{Distinct}

-- asked only below the counts
abbrev pub letter_by_place : Program → ℕ → Letter
letter_by_place q l = get_or (letters q) l (completion 0)

abbrev pub state_at : Program → ℕ → State
state_at q i = get_or (discovered q).seen i (start_of q)

pub record TableRight (q : Program) (t : List ℕ) (states : ℕ) : Type 0 where
  -- "each state in turn": the states listed are the reachable ones, each once, "from 0, the start", and no state waits for its turn
  pub listed : (s : State) → T (has_s s (discovered q).seen) ↔ Reach q s
  pub once : Distinct (discovered q).seen
  pub start_first : (more : List State) × ((discovered q).seen ≡ start_of q ∷ more)
  pub none_waits : (discovered q).todo ≡ []
  pub counted : states ≡ length (discovered q).seen
  -- the bytes are a table, that of the program
  pub is_written : t ≡ written (table_of q (discovered q).seen)
  pub is_table : is_table t ≡ true
  -- "states less one", "names ascending", "one bit for each event, 1 for fugitive; one for each module, 1 if it runs at the start"
  pub states_are : state_count t ≡ states
  pub modules_are : table_modules t ≡ q.modules
  pub events_are : table_events t ≡ q.events
  pub fugitive_are : (e : ℕ) → e < length q.events → fugitive_at t e ≡ flag (has (get_or q.events e 0) q.fugitive)
  pub start_are : (m : ℕ) → m < length q.modules → start_at t m ≡ flag (runs_l (get_or q.modules m 0) (start_of q).left)
  -- "state by state, letter by letter, an entry": possible exactly where the rules say so, and then the reaction's state and orders
  pub possible_is : (i l : ℕ) → i < states → l < length (letters q) → possible_at t i l ≡ flag (possible (letter_by_place q l) (state_at q i))
  pub next_below : (i l : ℕ) → i < states → l < length (letters q) → next_at t i l < states
  pub next_is : (i l : ℕ) → i < states → l < length (letters q) → T (possible (letter_by_place q l) (state_at q i))
      → state_at q (next_at t i l) ≡ (reaction q (letter_by_place q l) (state_at q i)).state
  pub order_is : (i l m : ℕ) → i < states → l < length (letters q) → m < length q.modules → T (possible (letter_by_place q l) (state_at q i))
      → order_at t i l m ≡ get_or (reaction q (letter_by_place q l) (state_at q i)).does m 0
  -- "A module not running has an entry of zeros"
  pub next_zero : (i l : ℕ) → i < states → l < length (letters q) → possible (letter_by_place q l) (state_at q i) ≡ false → next_at t i l ≡ 0
  pub order_zero : (i l m : ℕ) → i < states → l < length (letters q) → m < length q.modules → possible (letter_by_place q l) (state_at q i) ≡ false
      → order_at t i l m ≡ 0

-- the table is at the front of the output
pub record Answered (e : Edition) (file : List ℕ) (c : Compiled) : Type 0 where
  pub program : Program
  pub reads : reading parse e file ≡ accepted program
  pub right : TableRight program (take c.size c.output) c.states
