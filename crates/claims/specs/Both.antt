-- What both editions show, step after step. Document 01, "Numbers a caller may get back":
--     "In a sequence a refused step leaves either edition in the state before it, and the zeros it answers are no state; the next step goes on from
--     there. Table and live state are compared by the state's number in the order of discovery."
--     Shown                 a step as both show it: number and place, the eight orders, and the number of the state after it
--     state_after i r        the state that a table is in after the answer r to a step from the state i
--     table_shows i r        that answer, as it is shown
--     table_run t i bs       the table's run from the state i over any bytes, step after step
--     live_number q live     the number of the state that the live bytes code
--     live_shows q r, live_shown q file live bs       the live engine's answer r, and its run (`runs`, `Run`), as they are shown
--     Alike file live t q   the live engine on the file and the table t start alike, and run alike over every sequence
--     TableKept t i b, LiveKept file live b     a refused step leaves the state as it was, and the run goes on from there
--     BothAccept file output work       a file that Basic's compile accepts, Adaptive accepts, and the table is like the live engine
-- The order of discovery is that of the program q of the file. Not here: that they are alike (the proofs' `Demand3`). Assumes nothing.
use Rattle.std.specs.Prelude.{ℕ, cond, List, [], ◌∷◌, map, ◌≡◌, eqb, length, take}
use Rattle.paper.specs.Lists.{chosen}
use Rattle.paper.specs.Parse.{parse}
use Rattle.paper.specs.File.{accepted}
use Rattle.paper.specs.Reaction.{Program}
use Rattle.paper.specs.Discovery.{discovered}
use Rattle.paper.specs.Table.{number_of}
use Rattle.paper.specs.Refusals.{basic, adaptive, reading}
use Rattle.paper.specs.Calls.{Compiled, compiled, eight, Stepped, table_start, table_step, Lived, live_bytes, live_start, live_step}
use Rattle.coding.specs.Code.{decode, coding}
use Rattle.runs.specs.Run.{live_run}

pub record Shown : Type 0 where
  pub number : ℕ
  pub place : ℕ
  pub orders : List ℕ
  pub state : ℕ

-- ---- a table

-- "a refused step leaves either edition in the state before it, and the zeros it answers are no state"
unfoldable pub state_after : ℕ → Stepped → ℕ
state_after i r = cond (eqb r.number 0) r.state i

unfoldable pub table_shows : ℕ → Stepped → Shown
table_shows i r = record { number = r.number; place = r.place; orders = r.orders; state = state_after i r }

-- "the next step goes on from there"
unfoldable pub table_run : List ℕ → ℕ → List ℕ → List Shown
table_run t i [] = []
table_run t i (b ∷ bs) = let r = table_step t i b in table_shows i r ∷ table_run t (state_after i r) bs

-- ---- the live engine

-- "by the state's number in the order of discovery"; bytes that code no state have the number of none
unfoldable pub live_number : Program → List ℕ → ℕ
live_number q live =
    let all = (discovered q).seen in chosen (decode q live) (λ u. length all) (λ s. number_of s all)

unfoldable pub live_shows : Program → Lived → Shown
live_shows q r = record { number = r.number; place = r.place; orders = r.orders; state = live_number q r.live }

unfoldable pub live_shown : Program → (file live bs : List ℕ) → List Shown
live_shown q file live bs = map (live_shows q) (live_run parse coding file live bs)

-- ---- both

pub record Alike (file live t : List ℕ) (q : Program) : Type 0 where
  -- the start: not refused, the same modules run, and both are in state 0
  pub starts : (live_start parse coding file live).number ≡ 0
  pub place_none : (live_start parse coding file live).place ≡ 0
  pub same_start : table_shows 0 (table_start t) ≡ live_shows q (live_start parse coding file live)
  pub from_zero : (table_start t).state ≡ 0
  -- every sequence of letters, of any bytes: at each step the same number and place, the same orders, the same state
  pub same_runs : (bs : List ℕ) → table_run t 0 bs ≡ live_shown q file (live_start parse coding file live).live bs

-- the table at the front of the output
abbrev pub table_from : Compiled → List ℕ
table_from c = take c.size c.output

-- demand 3: if Basic's compile accepts a file then Adaptive's live start accepts it, lent 128 bytes, and from the start through every sequence of
-- letters the table's run and the live run give at each step the same orders, refusals and state
pub record BothAccept (file output work : List ℕ) : Type 0 where
  pub program : Program
  pub basic_reads : reading parse basic file ≡ accepted program
  pub adaptive_reads : reading parse adaptive file ≡ accepted program
  -- compiled for Adaptive, it has the same table
  pub same_table : compiled parse adaptive file output work ≡ compiled parse basic file output work
  pub alike : (live : List ℕ) → length live ≡ live_bytes → Alike file live (table_from (compiled parse basic file output work)) program

-- ---- a refused step

-- "leaves either edition in the state before it, and the zeros it answers are no state; the next step goes on from there"
pub record TableKept (t : List ℕ) (i b : ℕ) : Type 0 where
  pub zero_state : (table_step t i b).state ≡ 0
  pub zero_orders : (table_step t i b).orders ≡ eight []
  pub same_state : state_after i (table_step t i b) ≡ i
  pub goes_on : (bs : List ℕ) → table_run t i (b ∷ bs) ≡ table_shows i (table_step t i b) ∷ table_run t i bs

-- "Output and live state keep their bytes."
pub record LiveKept (file live : List ℕ) (b : ℕ) : Type 0 where
  pub same_bytes : (live_step parse coding file live b).live ≡ live
  pub zero_orders : (live_step parse coding file live b).orders ≡ eight []
  pub same_state : (q : Program) → (live_shows q (live_step parse coding file live b)).state ≡ live_number q live
  pub goes_on : (q : Program) (bs : List ℕ) → live_shown q file live (b ∷ bs) ≡ live_shows q (live_step parse coding file live b) ∷ live_shown q file live bs
