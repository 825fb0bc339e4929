-- Discovery over the working slice. Document 01, "The table":
--     "States are numbered in order of discovery from 0, the start: each state in turn, module letters alphabetically, then event letters."
--     entered p all s l     the number of the entry of state s and letter l (`emit`, `Entries`), where the states are `all`
--     met p s ls seen       the states seen, and those that s finds beyond them by the letters ls
--     turned p k            k turns from the start: the states seen, and those whose turn did not come
--     rows p all ss         the entries of the states ss, letter by letter, where the states are `all`
--     Numbered s ss k       s is one of ss, and its number is k
--     Idles p s l           the letter l is an occurrence at which nothing changes in the state s (`laws`, `Reached`)
--     Seen p K X ss         the states ss of the program p, in their order, stand in the working slice K, with their index X
--     Room W N T K X n      a word W, places N and T for others, a working slice K and an index X as long as is asked for, and at most 512 states
--     Arrives p s l ss K X a    the answer a is of the letter l in the state s, and K and X have the states met
--     Standing P ms es fs W x K X n k   there is a program, a state x of its written set, whose word stands in W, and n states seen, of which it is
--                           the k-th
--     Turning p s ss K X E F at j n     j letters of a turn of the state s
--     Turns p s ss K X E F at over n    a turn of the state s: K and X have the states met, n of them, and its entries stand in F from `at` on, E before it;
--                           or there are too many
--     Stocked P vs ms es fs zs      there is a program of these nodes, weights, letters and kinds, and zs are its nodes' parts
--     Visits .., Explores ..        there is such a program, and the states seen stand in the working slice
--     Visited p s ss K X E F at a   the answer a is of the turn of the state s
--     Exploring p K X E k n large   what holds after k turns
--     Explored p E a        the answer a is what `discovering` says of the program p, and the table's entries stand in E
--     Begins P vs root ms es fs     there is a program of these nodes, weights, letters and kinds, whose term is the node `root`
--     Discovers p ms E a    the same of the whole discovery, with the modules that run at the start
-- Assumes nothing.
use Rattle.std.specs.Prelude.{ℕ, ◌+◌, ◌*◌, ◌≤◌, ◌<◌, Bool, true, false, List, [], ◌∷◌, ◌++◌, map, ◌≡◌, T, ltb, length, take, drop}
use Rattle.paper.specs.Lists.{gather}
use Rattle.paper.specs.File.{refused, accepted}
use Rattle.paper.specs.Running.{runs_l}
use Rattle.paper.specs.Rewriting.{Letter, occurrence}
use Rattle.paper.specs.Reaction.{Program, State, start_of}
use Rattle.paper.specs.Discovery.{letters, has_s, finds, Found, discover, discovered}
use Rattle.paper.specs.Table.{number_of, entry_of}
use Rattle.paper.specs.Refusals.{most_parts, parts_of, any_too_large, discovering}
use Rattle.laws.proofs.Reached.{Idle}
use Rattle.rewrite.specs.Steps.{Stands}
use Rattle.react.specs.declared.State.{State as Kept}
use Rattle.react.specs.States.{Flags, state_of, flags_of}
use Rattle.coding.specs.Written.{Written}
use Rattle.coding.specs.Code.{code}
use Rattle.walk.specs.Judging.{Weighted}
use Rattle.engine.specs.Live.{Loaded, Rooted, Kinds}
use Rattle.emit.specs.Entries.{entry_number}
use Rattle.parts.specs.Parts.{Counted}
use Rattle.slots.specs.Slots.{Holds}
use Rattle.discover.specs.declared.Arrived.{Arrived}
use Rattle.discover.specs.declared.Turned.{Turned}
use Rattle.discover.specs.declared.Found.{Found as Given}

abbrev pub entered : Program → List State → State → Letter → ℕ
entered p all s l = entry_number (entry_of p all s l)

abbrev pub met : Program → State → List Letter → List State → List State
met p s ls seen = seen ++ finds p s ls seen

abbrev pub turned : Program → ℕ → Found
turned p k = discover k p (start_of p ∷ []) (start_of p ∷ [])

abbrev pub Numbered : State → List State → ℕ → Type 0
Numbered s ss k = (number_of s ss ≡ k) × (k < length ss)

abbrev pub Idles : Program → State → Letter → Type 0
Idles p s l = (e : ℕ) × (l ≡ occurrence e) × Idle p s e

pub record Seen (p : Program) (K X : List ℕ) (ss : List State) : Type 0 where
  pub held : Holds K X (map (code p) ss)
  pub written : (s : State) → T (has_s s ss) → Written p s

-- a word, a place for another and one to write in; the working slice and its index
pub record Room (W N T K X : List ℕ) (count : ℕ) : Type 0 where
  pub word : length W ≡ 96
  pub next : length N ≡ 96
  pub tmp : length T ≡ 96
  pub work : 65536 ≤ length K
  pub index : 1536 ≤ length X
  pub few : count ≤ 512

pub record Arrives (p : Program) (s : State) (l : Letter) (ss : List State) (K X : List ℕ) (a : Arrived) : Type 0 where
  pub over : a.over ≡ true → 512 < length (met p s (l ∷ []) ss)
  pub seen : a.over ≡ false → Seen p K X (met p s (l ∷ []) ss)
  pub count_is : a.over ≡ false → a.count ≡ length (met p s (l ∷ []) ss)
  pub entry_is : a.over ≡ false → (more : List State) → a.entry ≡ entered p (met p s (l ∷ []) ss ++ more) s l

pub record Standing (P ms es : List ℕ) (fs : List Bool) (W : List ℕ) (x : Kept) (K X : List ℕ) (n k : ℕ) : Type 0 where
  pub program : Program
  pub loaded : Loaded program P ms es
  pub kinds : Kinds program fs
  pub written : Written program (state_of P W ms x)
  pub stands : Stands P W x.start
  pub few : x.memory.count ≤ 8
  pub flags : Flags (length ms) x.stopped
  pub states : List State
  pub seen : Seen program K X states
  pub count_is : length states ≡ n
  pub numbered : Numbered (state_of P W ms x) states k

pub record Turning (p : Program) (s : State) (ss : List State) (K X E F : List ℕ) (at j n : ℕ) : Type 0 where
  pub seen : Seen p K X (met p s (take j (letters p)) ss)
  pub count_is : n ≡ length (met p s (take j (letters p)) ss)
  pub entries_are : (more : List State) → take (at + j) F ≡ take at E ++ map (entered p (met p s (take j (letters p)) ss ++ more) s) (take j (letters p))

pub record Turns (p : Program) (s : State) (ss : List State) (K X E F : List ℕ) (at : ℕ) (over : Bool) (n : ℕ) : Type 0 where
  pub too_many : over ≡ true → 512 < length (met p s (letters p) ss)
  pub seen : over ≡ false → Seen p K X (met p s (letters p) ss)
  pub count_is : over ≡ false → n ≡ length (met p s (letters p) ss)
  pub entries_are : over ≡ false → (more : List State) → take (at + length (letters p)) F ≡ take at E ++ map (entered p (met p s (letters p) ss ++ more) s) (letters p)

pub record Stocked (P vs ms es : List ℕ) (fs : List Bool) (zs : List ℕ) : Type 0 where
  pub program : Program
  pub loaded : Loaded program P ms es
  pub kinds : Kinds program fs
  pub weighted : Weighted P vs
  pub counted : Counted P zs

pub record Visits (P vs ms es : List ℕ) (fs : List Bool) (zs K X : List ℕ) (n k : ℕ) : Type 0 where
  pub stocked : Stocked P vs ms es fs zs
  pub states : List State
  pub seen : Seen stocked.program K X states
  pub count_is : length states ≡ n
  pub turn : k < n

pub record Visited (p : Program) (s : State) (ss : List State) (K X E F : List ℕ) (at : ℕ) (a : Turned) : Type 0 where
  pub turns : Turns p s ss K X E F at a.over a.count
  pub large_is : a.over ≡ false → a.large ≡ ltb most_parts (parts_of s.left)

abbrev pub rows : Program → (all ss : List State) → List ℕ
rows p all ss = gather (λ s. map (entered p all s) (letters p)) ss

pub record Exploring (p : Program) (K X E : List ℕ) (k n : ℕ) (large : Bool) : Type 0 where
  pub seen : Seen p K X (turned p k).seen
  pub count_is : length (turned p k).seen ≡ n
  pub waiting : (turned p k).todo ≡ drop k (turned p k).seen
  pub large_is : large ≡ any_too_large (take k (turned p k).seen)
  pub entries_are : (more : List State) → take (k * length (letters p)) E ≡ rows p ((turned p k).seen ++ more) (take k (turned p k).seen)

pub record Explores (P vs ms es : List ℕ) (fs : List Bool) (zs K X : List ℕ) : Type 0 where
  pub stocked : Stocked P vs ms es fs zs
  pub seen : Seen stocked.program K X (start_of stocked.program ∷ [])

pub record Explored (p : Program) (E : List ℕ) (a : Turned) : Type 0 where
  pub too_many : a.over ≡ true → discovering p ≡ refused 17 0
  pub too_large : a.over ≡ false → a.large ≡ true → discovering p ≡ refused 18 0
  pub all : a.over ≡ false → a.large ≡ false → (discovering p ≡ accepted (discovered p).seen) × ((discovered p).todo ≡ [])
  pub count_is : a.over ≡ false → a.count ≡ length (discovered p).seen
  pub entries_are : a.over ≡ false → take (a.count * length (letters p)) E ≡ rows p (discovered p).seen (discovered p).seen

pub record Begins (P vs : List ℕ) (root : ℕ) (ms es : List ℕ) (fs : List Bool) : Type 0 where
  pub program : Program
  pub loaded : Loaded program P ms es
  pub rooted : Rooted program P root
  pub kinds : Kinds program fs
  pub weighted : Weighted P vs

pub record Discovers (p : Program) (ms E : List ℕ) (a : Given) : Type 0 where
  pub explored : Explored p E (record { over = a.over; large = a.large; count = a.count })
  pub running_are : a.running ≡ flags_of (λ m. runs_l m (start_of p).left) ms
