-- The live engine's answers, and what its parts are given.
--     outcome r live        the code's answer r, with the bytes that it leaves, as the outcome of `paper`'s calls
--     meant k               the letter of the rules that the code found, or none
--     Letters q ms es       ms and es are the letters of q's modules and events
--     Loaded q P ms es      the program q as the engine holds it: its table of nodes and its letters
--     Rooted q P root       its term is the node `root`
--     Kinds q fs            the flags fs say by letter which events of q are fugitive
--     Begins ..             there is such a program: what `begin` is given
--     Turns ..              what `turn` is given beside a letter and the bytes
--     Stated q .. x l       the state x, whose word stands in W, is of the written set, and l is a letter of q
--     Runs ..               there is such a program: what `go` is given
--     Reads q r P           the reader's value r and the table P are of the program q; `Came`, `CameWith`: there is such a program, with these weights
--     reacted_to q l s live  the outcome of a letter of the program in the state s: No. 22, or the reaction
-- Assumes nothing.
use Rattle.std.specs.Prelude.{ℕ, ◌≤◌, ◌<◌, Bool, false, cond, List, ◌≡◌, length, get_or}
use Rattle.std.proofs.Math.Option.{Option, none, some}
use Rattle.paper.specs.Lists.{has}
use Rattle.paper.specs.Rewriting as rules
use Rattle.paper.specs.Reaction.{Program, State, possible, reaction}
use Rattle.paper.specs.Discovery.{Among, letters}
use Rattle.paper.specs.Calls.{Lived, not_lived, lives_on}
use Rattle.laws.specs.Nodes.{kind, count, tree}
use Rattle.words.specs.Pieces.{Table}
use Rattle.rewrite.specs.Steps.{Stands, letter_of}
use Rattle.react.specs.declared.State.{State as Kept}
use Rattle.react.specs.States.{Modules, Flags, state_of}
use Rattle.coding.specs.Written.{nodes_of, Written}
use Rattle.coding.specs.Code.{code}
use Rattle.coding.proofs.Fit.{Fit}
use Rattle.walk.specs.Judging.{Weighted}
use Rattle.paper.specs.Parse.{parse}
use Rattle.paper.specs.File.{accepted}
use Rattle.paper.specs.Refusals.{adaptive, reading}
use Rattle.reader.specs.declared.Program.{Program as Given}
use Rattle.reader.specs.Reads.{ReadsAs}
use Rattle.engine.specs.declared.Answer.{Answer}
use Rattle.engine.specs.declared.Known.{Known}
use Rattle.engine.specs.declared.Known.TheVariants.{Foreign, Own}

abbrev pub outcome : Answer → List ℕ → Lived
outcome r live = record { number = r.number; place = r.place; orders = r.orders; live = live }

abbrev pub meant : Known → Option rules.Letter
meant Foreign = none
meant (Own l) = some (letter_of l)

pub record Letters (q : Program) (ms es : List ℕ) : Type 0 where
  pub modules_are : q.modules ≡ ms
  pub events_are : q.events ≡ es

pub record Loaded (q : Program) (P ms es : List ℕ) : Type 0 where
  pub fit : Fit q
  pub nodes_are : nodes_of q ≡ P
  pub its : Letters q ms es
  pub table : Table P
  pub modules : Modules ms
  pub events : Modules es

pub record Rooted (q : Program) (P : List ℕ) (root : ℕ) : Type 0 where
  pub below : root < count P
  pub a_term : kind P root ≤ 5
  pub its_term : tree P root ≡ q.term

abbrev pub Kinds : Program → List Bool → Type 0
Kinds q fs = (e : ℕ) → e < 26 → get_or fs e false ≡ has e q.fugitive

pub record Begins (P : List ℕ) (root : ℕ) (ms es : List ℕ) : Type 0 where
  pub program : Program
  pub loaded : Loaded program P ms es
  pub rooted : Rooted program P root

pub record Turns (P vs ms es : List ℕ) (fs : List Bool) : Type 0 where
  pub program : Program
  pub loaded : Loaded program P ms es
  pub weighted : Weighted P vs
  pub kinds : Kinds program fs

pub record Stated (q : Program) (P ms W : List ℕ) (x : Kept) (l : rules.Letter) : Type 0 where
  pub written : Written q (state_of P W ms x)
  pub among : Among l (letters q)

pub record Runs (P ms es : List ℕ) (fs : List Bool) (W : List ℕ) (x : Kept) (l : rules.Letter) : Type 0 where
  pub program : Program
  pub loaded : Loaded program P ms es
  pub kinds : Kinds program fs
  pub stated : Stated program P ms W x l
  pub stands : Stands P W x.start
  pub few : x.memory.count ≤ 8
  pub flags : Flags (length ms) x.stopped

abbrev pub reacted_to : Program → rules.Letter → State → List ℕ → Lived
reacted_to q l s live =
    cond (possible l s) (lives_on (reaction q l s).does (code q (reaction q l s).state)) (not_lived 22 0 live)

-- the reader's value r and the table P are of the program q, which a file gave
pub record Reads (q : Program) (r : Given) (P : List ℕ) : Type 0 where
  pub file : List ℕ
  pub weights : List ℕ
  pub accepts : reading parse adaptive file ≡ accepted q
  pub gives : ReadsAs (accepted q) r P weights

pub record Came (r : Given) (P : List ℕ) : Type 0 where
  pub program : Program
  pub reads : Reads program r P

pub record CameWith (r : Given) (P vs : List ℕ) : Type 0 where
  pub program : Program
  pub reads : Reads program r P
  pub weights_are : vs ≡ reads.weights
