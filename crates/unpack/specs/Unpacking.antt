-- The live state's bytes, taken apart and tested (`coding`, `Layout`, has the layout). Document 01: "No. 23 refuses exactly what lies outside a written
-- set of states".
--     Given P vs ms es      what a caller has beside the bytes: a table of nodes, its weights, and the letters of modules and events
--     Of q P ms es fs       they are those of the program q; fs are flags by letter, which say its fugitive events
--     Shaped b              the bytes have a word's length, and zeros where nothing can stand
--     Leads b c             the first c marks of the memory are not zero, and the next is
--     Limited b c n         each of those c is at most n, and the marks behind them are zero
--     Remembers b es c m    the memory m has the events of the first c marks
--     Recalls b es m        the marks are of such a memory, and m is it
--     Unmarked b n          the marks are of no memory of n events
--     fresh fs m            no event is stored twice, and none is fugitive
--     Bitted n k fs         the flags fs are the n low bits of k, zeros behind, and k has no other bits
--     Decoded q P W ms b s  the state s, with its word in W, is what `decode` says
--     Decodes q P W ms b r  the answer r is what `decode` says: the state or nothing
-- Assumes nothing.
use Rattle.std.specs.Prelude.{ℕ, ◌-◌, ◌/◌, ◌%◌, ◌^◌, ◌≤◌, ◌<◌, Bool, true, false, cond, not, ◌&&◌, List, [], ◌∷◌, ◌≡◌, ltb, length, get_or, Option, MatchOption}
use Rattle.std.proofs.Math.Option.{none, some}
use Rattle.paper.specs.Lists.{has}
use Rattle.paper.specs.Reaction.{Program}
use Rattle.rewrite.specs.Steps.{Stands}
use Rattle.rewrite.specs.declared.Memory.{Memory}
use Rattle.react.specs.declared.State.{State}
use Rattle.react.specs.States.{Modules, state_of, Flags}
use Rattle.coding.specs.Layout.{unit_in, mark_in}
use Rattle.coding.specs.Written.{nodes_of}
use Rattle.coding.specs.Code.{decode}
use Rattle.coding.proofs.Fit.{Fit}
use Rattle.walk.specs.Judging.{Weighted}

pub record Given (P vs ms es : List ℕ) : Type 0 where
  pub weighted : Weighted P vs
  pub modules : Modules ms
  pub events : Modules es

pub record Of (q : Program) (P ms es : List ℕ) (fs : List Bool) : Type 0 where
  pub fit : Fit q
  pub nodes_are : nodes_of q ≡ P
  pub modules_are : q.modules ≡ ms
  pub events_are : q.events ≡ es
  pub fugitive_are : (e : ℕ) → e < 26 → get_or fs e false ≡ has e q.fugitive

-- at the end nothing is stopped or stored
pub record Shaped (b : List ℕ) : Type 0 where
  pub short : get_or b 120 0 ≤ 96
  pub behind : (i : ℕ) → get_or b 120 0 ≤ i → i < 96 → unit_in b i ≡ 0
  pub spare : (get_or b 126 0 ≡ 0) × (get_or b 127 0 ≡ 0)
  pub ended : get_or b 120 0 ≡ 0 → (get_or b 121 0 ≡ 0) × (get_or b 122 0 ≡ 0)

pub record Leads (b : List ℕ) (c : ℕ) : Type 0 where
  pub few : c ≤ 8
  pub marks : (i : ℕ) → i < c → mark_in b i ≡ 0 → ⊥
  pub stop : c < 8 → mark_in b c ≡ 0

abbrev pub Limited : List ℕ → ℕ → ℕ → Type 0
Limited b c n = (i : ℕ) → i < 8 → mark_in b i ≤ cond (ltb i c) n 0

pub record Remembers (b es : List ℕ) (c : ℕ) (m : Memory) : Type 0 where
  pub count_is : m.count ≡ c
  pub events_are : (i : ℕ) → i < c → get_or m.events i 0 ≡ get_or es (mark_in b i - 1) 0

pub record Recalls (b es : List ℕ) (m : Memory) : Type 0 where
  pub leads : Leads b m.count
  pub limited : Limited b m.count (length es)
  pub remembers : Remembers b es m.count m

abbrev pub Unmarked : List ℕ → ℕ → Type 0
Unmarked b n = (c : ℕ) × Leads b c × (Limited b c n → ⊥)

unfoldable pub fresh : List Bool → List ℕ → Bool
fresh fs [] = true
fresh fs (e ∷ m) = (not (has e m) && not (get_or fs e false)) && fresh fs m

pub record Bitted (n k : ℕ) (flags : List ℕ) : Type 0 where
  pub all : k / 2 ^ n ≡ 0
  pub bits : (i : ℕ) → i < n → get_or flags i 0 ≡ k / 2 ^ i % 2
  pub behind : (i : ℕ) → n ≤ i → get_or flags i 0 ≡ 0

pub record Decoded (q : Program) (P W ms b : List ℕ) (s : State) : Type 0 where
  pub is : decode q b ≡ some (state_of P W ms s)
  pub stands : Stands P W s.start
  pub few : s.memory.count ≤ 8
  pub flags : Flags (length ms) s.stopped

abbrev pub Decodes : Program → (P W ms b : List ℕ) → Option State → Type 0
Decodes q P W ms b r = MatchOption r (decode q b ≡ none) (Decoded q P W ms b)
