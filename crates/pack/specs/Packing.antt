-- Packing a state into the live state's 128 bytes (`coding`, `Layout` has the places): what is asked, and what each part writes.
--     Wrote f a n b b'      b' is b but for the n places from a on, which have f 0, f 1 and so on
--     Small us              each unit has ten bits
--     Known es m            few events, and each of the stored ones is among them
--     Packs P ms es W x     what is packed: a state x whose word over a table stands in W, with a memory of known events
--     Names q P ms es       q is a program with this table of nodes, these modules and these events
-- Assumes nothing.
use Rattle.std.specs.Prelude.{ℕ, ◌+◌, ◌≤◌, ◌<◌, List, ◌≡◌, T, length, get_or}
use Rattle.paper.specs.Lists.{has}
use Rattle.paper.specs.Reaction.{Program}
use Rattle.words.specs.Pieces.{Table}
use Rattle.rewrite.specs.declared.Memory.{Memory}
use Rattle.rewrite.specs.Steps.{Stands}
use Rattle.rewrite.specs.Stored.{stored}
use Rattle.react.specs.declared.State.{State}
use Rattle.react.specs.States.{Modules, Flags}
use Rattle.coding.specs.Written.{nodes_of}

pub record Wrote (f : ℕ → ℕ) (a n : ℕ) (b b' : List ℕ) : Type 0 where
  pub there : (i : ℕ) → i < n → get_or b' (a + i) 0 ≡ f i
  pub before : (i : ℕ) → i < a → get_or b' i 0 ≡ get_or b i 0
  pub behind : (i : ℕ) → a + n ≤ i → get_or b' i 0 ≡ get_or b i 0

abbrev pub Small : List ℕ → Type 0
Small us = (i : ℕ) → get_or us i 0 < 1024

pub record Known (es : List ℕ) (m : Memory) : Type 0 where
  pub few : length es ≤ 8
  pub count : m.count ≤ 8
  pub among : (e : ℕ) → T (has e (stored m)) → T (has e es)

pub record Packs (P ms es W : List ℕ) (x : State) : Type 0 where
  pub table : Table P
  pub modules : Modules ms
  pub stands : Stands P W x.start
  pub memory : Known es x.memory
  pub flags : Flags (length ms) x.stopped

pub record Names (q : Program) (P ms es : List ℕ) : Type 0 where
  pub nodes_are : nodes_of q ≡ P
  pub modules_are : q.modules ≡ ms
  pub events_are : q.events ≡ es
