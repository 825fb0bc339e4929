-- A state as the engine holds it: a word, a memory, and a flag for each module. Document 01, "What a state is":
--     "A term, a memory and a set of stopped modules."
--     Modules ms            the letters of a program's modules: at most eight, ascending, each one of a to z
--     stopped_of ms fs       the stopped set: those of the modules ms whose flag is 1
--     state_of P W ms x     the state x, whose word stands in W, of a program with the modules ms
--     flags_of p ms          eight numbers: 1 for each of the modules that passes the test p, zeros behind
--     Flags n fs            each flag is 0 or 1, and 0 from the n-th on
--     runs_by rs m           the flag of the module m among flags by letter
--     Running rs r          the flags by letter say which modules run in what is left
--     ruled f l b a st m    what the rule f, `order` or `stays`, says of the module m: by the tests b and a for what ran before and runs after, and
--                           by the stopped set st
--     Told ms l rs ts fs a  the answer a has the orders and the stopped set after the letter l
--     Ready P ms W x T l    what a reaction to the letter l is given: table, modules, a state x and its word, a word T to write in
--     Fits q ms l f         q is a program with these modules, in which the letter's event is fugitive or not as f says
--     Comes P W ms a x      the word W and the answer a are the reaction x
-- Assumes nothing.
use Rattle.std.specs.Prelude.{ℕ, suc, ◌≤◌, ◌<◌, Bool, false, List, [], ◌∷◌, map, ◌≡◌, eqb, length, get_or}
use Rattle.paper.specs.Lists.{with_if, has}
use Rattle.paper.specs.Term.{Left}
use Rattle.paper.specs.Running.{runs_l}
use Rattle.paper.specs.Rewriting.{Letter, occurrence}
use Rattle.paper.specs.Reaction.{Program, State, Reacted as Reaction, order, stays, is_own}
use Rattle.paper.specs.Table.{flag}
use Rattle.paper.specs.Calls.{eight}
use Rattle.words.specs.Pieces.{Table}
use Rattle.rewrite.specs.Steps.{state, Stands}
use Rattle.rewrite.specs.Stored.{stored}
use Rattle.react.specs.declared.State.{State as Kept}
use Rattle.react.specs.declared.Ordered.{Ordered}
use Rattle.react.specs.declared.Reacted.{Reacted}

-- letters from k on, each above the one before it
unfoldable pub Ascends : ℕ → List ℕ → Type 0
Ascends k [] = Unit {0}
Ascends k (m ∷ ms) = (k ≤ m) × ((m < 26) × Ascends (suc m) ms)

pub record Modules (ms : List ℕ) : Type 0 where
  pub few : length ms ≤ 8
  pub ascend : Ascends 0 ms

unfoldable pub stopped_of : (modules flags : List ℕ) → List ℕ
stopped_of [] fs = []
stopped_of (m ∷ ms) [] = []
stopped_of (m ∷ ms) (f ∷ fs) = with_if (eqb f 1) m (stopped_of ms fs)

abbrev pub state_of : (nodes word modules : List ℕ) → Kept → State
state_of P W ms x = record { left = state P W x.start; memory = stored x.memory; stopped = stopped_of ms x.stopped }

abbrev pub flags_of : (ℕ → Bool) → List ℕ → List ℕ
flags_of p ms = eight (map (λ m. flag (p m)) ms)

abbrev pub Flags : ℕ → List ℕ → Type 0
Flags n fs = (i : ℕ) → (get_or fs i 0 ≤ 1) × (n ≤ i → get_or fs i 0 ≡ 0)

abbrev pub runs_by : List Bool → ℕ → Bool
runs_by rs m = get_or rs m false

abbrev pub Running : List Bool → Left → Type 0
Running rs r = (m : ℕ) → m < 26 → runs_by rs m ≡ runs_l m r

abbrev pub ruled : {A : Type 0} → ((own before after stopped : Bool) → A) → Letter → (before after : ℕ → Bool) → List ℕ → ℕ → A
ruled f l b a st m = f (is_own l m) (b m) (a m) (has m st)

pub record Told (ms : List ℕ) (l : Letter) (before after : List Bool) (fs : List ℕ) (a : Ordered) : Type 0 where
  pub orders_are : a.orders ≡ eight (map (ruled order l (runs_by before) (runs_by after) (stopped_of ms fs)) ms)
  pub stopped_are : a.stopped ≡ flags_of (ruled stays l (runs_by before) (runs_by after) (stopped_of ms fs)) ms

-- an event that is not stored may have to be
pub record Ready (P ms W : List ℕ) (x : Kept) (T : List ℕ) (l : Letter) : Type 0 where
  pub table : Table P
  pub modules : Modules ms
  pub stands : Stands P W x.start
  pub long : length T ≡ 96
  pub few : x.memory.count ≤ 8
  pub room : (e : ℕ) → l ≡ occurrence e → has e (stored x.memory) ≡ false → x.memory.count < 8

pub record Fits (q : Program) (ms : List ℕ) (l : Letter) (fugitive : Bool) : Type 0 where
  pub modules_are : q.modules ≡ ms
  pub fugitive_is : (e : ℕ) → l ≡ occurrence e → fugitive ≡ has e q.fugitive

pub record Comes (P W ms : List ℕ) (a : Reacted) (x : Reaction) : Type 0 where
  pub stands : Stands P W a.state.start
  pub few : a.state.memory.count ≤ 8
  pub flags : Flags (length ms) a.state.stopped
  pub state_is : state_of P W ms a.state ≡ x.state
  pub orders_are : a.orders ≡ eight x.does
