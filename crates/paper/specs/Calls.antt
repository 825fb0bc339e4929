-- The six public calls: for each the one outcome that its inputs have. Document 01, "Numbers a caller may get back":
--     "A refusal gives number and place, all else zero; a number for which no place is named has place 0. Output and live state keep their bytes. The
--     working slice is zero after every compile call but No. 1, which touches nothing. After success the bytes beyond the table keep theirs."
--     Compiled, compiled f e file output work           compile for either edition
--     Stepped, table_start t, table_step t state letter   the table's start and step
--     Lived, live_start f c file live, live_step f c file live letter         the live engine's
--     Coding, CodingRight   the live state's 128 bytes: a coding c, and what it must meet
-- Number 0 is no refusal. `f` reads a program's text (`Parse`: Right). Assumes nothing.
use Rattle.std.specs.Prelude.{ℕ, ◌+◌, ◌-◌, Bool, true, false, cond, not, ◌&&◌, ◌||◌, List, [], ◌∷◌, ◌++◌, map, ◌≡◌, T, eqb, ltb, length, take, drop, replicate}
use Rattle.std.proofs.Math.Option.{Option, none, some}
use Rattle.paper.specs.Lists.{chosen, has, below}
use Rattle.paper.specs.Bytes.{is_module, is_event}
use Rattle.paper.specs.Grammar.{module_byte, event_byte}
use Rattle.paper.specs.Parse.{Parsed}
use Rattle.paper.specs.File.{Answer, refused, accepted}
use Rattle.paper.specs.Running.{runs_l}
use Rattle.paper.specs.Rewriting.{Letter, completion, occurrence}
use Rattle.paper.specs.Reaction.{Program, State, start_of, possible, Reacted, reaction}
use Rattle.paper.specs.Discovery.{Among, letters, Reach}
use Rattle.paper.specs.Table.{flag, written, table_of}
use Rattle.paper.specs.IsTable.{module_count, state_count, start_at, possible_at, next_at, order_at, is_table, table_modules, table_events}
use Rattle.paper.specs.Refusals.{Edition, basic, adaptive, reading, discovering}

-- ---- compile: No. 1 to 18

pub record Compiled : Type 0 where
  pub number : ℕ
  pub place : ℕ
  pub states : ℕ
  pub size : ℕ
  pub output : List ℕ
  pub work : List ℕ

abbrev pub output_bytes : ℕ
output_bytes = 26640

abbrev pub work_bytes : ℕ
work_bytes = 65536

-- "The working slice is zero after every compile call but No. 1"
abbrev pub cleared : List ℕ → List ℕ
cleared work = replicate (length work) 0

abbrev pub not_compiled : ℕ → ℕ → List ℕ → List ℕ → Compiled
not_compiled number place output work =
    record { number = number; place = place; states = 0; size = 0; output = output; work = work }

-- the table at the front of the output
abbrev pub tabled : List State → List ℕ → List ℕ → List ℕ → Compiled
tabled all table output work =
    record {
      number = 0;
      place = 0;
      states = length all;
      size = length table;
      output = table ++ drop (length table) output;
      work = work;
    }

abbrev pub compiled_states : Program → Answer (List State) → List ℕ → List ℕ → Compiled
compiled_states p (refused number place) output work = not_compiled number place output work
compiled_states p (accepted all) output work = tabled all (written (table_of p all)) output work

abbrev pub compiled_program : Answer Program → List ℕ → List ℕ → Compiled
compiled_program (refused number place) output work = not_compiled number place output work
compiled_program (accepted p) output work = compiled_states p (discovering p) output work

-- No. 1: "output under 26,640 or working slice under 65,536 bytes"
unfoldable pub compiled : (List ℕ → Parsed) → Edition → (file output work : List ℕ) → Compiled
compiled f e file output work =
    cond (ltb (length output) output_bytes || ltb (length work) work_bytes) (not_compiled 1 0 output work)
    (compiled_program (reading f e file) output (cleared work))

-- ---- the table's start and step: No. 19 to 22

-- "one order for each module", ascending, and zeros up to eight
pub record Stepped : Type 0 where
  pub number : ℕ
  pub place : ℕ
  pub state : ℕ
  pub orders : List ℕ

abbrev pub eight : List ℕ → List ℕ
eight os = take 8 (os ++ replicate 8 0)

abbrev pub not_stepped : ℕ → Stepped
not_stepped number = record { number = number; place = 0; state = 0; orders = eight [] }

abbrev pub steps_to : ℕ → List ℕ → Stepped
steps_to state os = record { number = 0; place = 0; state = state; orders = eight os }

-- "Table start: 19; it answers state 0 and the modules that run": 1, as in a start, for each that does
unfoldable pub table_start : List ℕ → Stepped
table_start t = cond (is_table t) (steps_to 0 (map (λ m. start_at t m) (below (module_count t)))) (not_stepped 19)

-- where x stands in the list
unfoldable pub index_from : ℕ → ℕ → List ℕ → Option ℕ
index_from i x [] = none
index_from i x (y ∷ ys) = cond (eqb x y) (some i) (index_from (i + 1) x ys)

-- the letters' bytes in the table's order
unfoldable pub letter_bytes : List ℕ → List ℕ → List ℕ
letter_bytes modules events = map module_byte modules ++ map event_byte events

unfoldable pub entered : List ℕ → ℕ → ℕ → Stepped
entered t state l =
    cond (eqb (possible_at t state l) 1)
    (steps_to (next_at t state l) (map (λ m. order_at t state l m) (below (module_count t))))
    (not_stepped 22)

-- "Table step: 19 to 22."
unfoldable pub table_step : List ℕ → (state letter : ℕ) → Stepped
table_step t state letter =
    cond (is_table t)
    (cond (ltb state (state_count t))
    (chosen (index_from 0 letter (letter_bytes (table_modules t) (table_events t))) (λ u. not_stepped 21) (λ l. entered t state l))
    (not_stepped 20))
    (not_stepped 19)

-- ---- the live start and step: No. 1 to 14, 23, 21, 22

pub record Coding : Type 0 where
  pub code : Program → State → List ℕ
  pub decode : Program → List ℕ → Option State

abbrev pub live_bytes : ℕ
live_bytes = 128

-- "The live state is 128 bytes with a one-to-one coding that the team writes down, unused bytes zero; No. 23 refuses exactly what lies outside a
-- written set of states that holds every reachable one and is closed under steps."
pub record CodingRight (f : List ℕ → Parsed) (c : Coding) : Type 1 where
  pub Written : Program → State → Type 0
  pub start_in : (file : List ℕ) (p : Program) → reading f adaptive file ≡ accepted p → Written p (start_of p)
  pub step_in : (file : List ℕ) (p : Program) → reading f adaptive file ≡ accepted p → (s : State) (l : Letter) → Written p s → Among l (letters p) → T (possible l s) → Written p (reaction p l s).state
  pub code_long : (file : List ℕ) (p : Program) → reading f adaptive file ≡ accepted p → (s : State) → Written p s → length (c.code p s) ≡ live_bytes
  pub decode_code : (file : List ℕ) (p : Program) → reading f adaptive file ≡ accepted p → (s : State) → Written p s → c.decode p (c.code p s) ≡ some s
  pub code_decode : (file : List ℕ) (p : Program) → reading f adaptive file ≡ accepted p → (b : List ℕ) (s : State) → c.decode p b ≡ some s → Written p s × (c.code p s ≡ b)

pub record Lived : Type 0 where
  pub number : ℕ
  pub place : ℕ
  pub orders : List ℕ
  pub live : List ℕ

abbrev pub not_lived : ℕ → ℕ → List ℕ → Lived
not_lived number place live = record { number = number; place = place; orders = eight []; live = live }

abbrev pub lives_on : List ℕ → List ℕ → Lived
lives_on os live = record { number = 0; place = 0; orders = eight os; live = live }

abbrev pub begun : Coding → Answer Program → List ℕ → Lived
begun c (refused number place) live = not_lived number place live
begun c (accepted p) live = lives_on (map (λ m. flag (runs_l m (start_of p).left)) p.modules) (c.code p (start_of p))

-- "live state not 128 bytes"; "Live start (Adaptive): 1 to 14; it writes the start's code and answers the modules that run."
unfoldable pub live_start : (List ℕ → Parsed) → Coding → (file live : List ℕ) → Lived
live_start f c file live = cond (eqb (length live) live_bytes) (begun c (reading f adaptive file) live) (not_lived 1 0 live)

-- the program's letter of a byte
unfoldable pub letter_of : Program → ℕ → Option Letter
letter_of p b =
    cond (is_module b && has (b - 97) p.modules) (some (completion (b - 97)))
    (cond (is_event b && has (b - 65) p.events) (some (occurrence (b - 65))) none)

-- No. 21: "letter not in the program", No. 22: "completion of a module not running"
unfoldable pub reacted : Coding → Program → State → ℕ → List ℕ → Lived
reacted c p s letter live =
    chosen (letter_of p letter) (λ u. not_lived 21 0 live)
    (λ l. let r = reaction p l s in cond (possible l s) (lives_on r.does (c.code p r.state)) (not_lived 22 0 live))

-- No. 23: "live bytes code no state"
abbrev pub stepped : Coding → Answer Program → ℕ → List ℕ → Lived
stepped c (refused number place) letter live = not_lived number place live
stepped c (accepted p) letter live = chosen (c.decode p live) (λ u. not_lived 23 0 live) (λ s. reacted c p s letter live)

-- "Live step: 1 to 14, 23, 21, 22."
unfoldable pub live_step : (List ℕ → Parsed) → Coding → (file live : List ℕ) → (letter : ℕ) → Lived
live_step f c file live letter =
    cond (eqb (length live) live_bytes) (stepped c (reading f adaptive file) letter live) (not_lived 1 0 live)
