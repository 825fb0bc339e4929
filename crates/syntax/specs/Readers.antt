-- What each reader asks, and what it answers: a tree of its production, or the place at which the text stops being one.
--     is_leaf, starts b      an atom that is one byte, any atom, may begin with the byte b
--     join_of both           the join that a chain's flag stands for
--     Sort                  the productions; their trees (Syntax), texts, codes, places and what the machine of `Parse` waits for (stack_of)
--     Ready s at S          the text's places fit 16 bits, and for each byte at most two nodes have been counted
--     Read ..               from `at` to n the machine goes from the stack X to the stack Y, whatever comes behind, and the tree t is written
--     Says ..               a reader's answer
-- Assumes nothing.
use Rattle.std.specs.Prelude.{ℕ, ◌+◌, ◌-◌, ◌*◌, ◌≤◌, ◌<◌, Bool, true, false, ◌||◌, List, ◌∷◌, ◌++◌, ◌≡◌, eqb, length, drop}
use Rattle.paper.specs.Bytes.{is_module, one_mark, open_mark}
use Rattle.paper.specs.Grammar.{Join, bar, bars, Sequence, Item, Starred, Atom, Body, Interruption, Chain, last, next, join_text, print_s, print_i, print_t, print_a, print_b, print_n}
use Rattle.paper.specs.Parse.{Code, Sym, s_atom, s_star, s_intr, bad, item_q, sequence_q, body_q, chain_q, pre, run}
use Rattle.laws.specs.Placed.{Tree, join, join_code, placed_s, placed_i, placed_t, placed_a, placed_b, placed_n}
use Rattle.laws.proofs.Posted.{post_s, post_i, post_t, post_a, post_b, post_n, post_c}
use Rattle.syntax.specs.Store.{Store, Room, store, writes}
use Rattle.syntax.specs.declared.Got.{Got}
use Rattle.syntax.specs.declared.Got.TheVariants.{At, Bad}

-- `1`, or "a module a to z"
abbrev pub is_leaf : ℕ → Bool
is_leaf b = eqb b one_mark || is_module b

-- "or `[` body `]`"
abbrev pub starts : ℕ → Bool
starts b = eqb b open_mark || is_leaf b

abbrev pub join_of : Bool → Join
join_of true = bars
join_of false = bar

-- a chain behind its first join: its text, and its tree
unfoldable pub chain_text : Join → Chain → List ℕ
chain_text j (last n) = print_n n
chain_text j (next n c) = print_n n ++ (join_text j ++ chain_text j c)

unfoldable pub placed_chain : Join → ℕ → Chain → Tree
placed_chain j at (last n) = placed_n at n
placed_chain j at (next n c) =
    join (join_code j) (at + length (print_n n)) (placed_n at n) (placed_chain j (at + length (print_n n) + length (join_text j)) c)

pub data Sort : Type 0 where
  sequence_s item_s starred_s atom_s body_s interruption_s : Sort
  chain_s : Join → Sort

abbrev pub Syntax : Sort → Type 0
Syntax sequence_s = Sequence
Syntax item_s = Item
Syntax starred_s = Starred
Syntax atom_s = Atom
Syntax body_s = Body
Syntax interruption_s = Interruption
Syntax (chain_s j) = Chain

abbrev pub text_of : (σ : Sort) → Syntax σ → List ℕ
text_of sequence_s s = print_s s
text_of item_s i = print_i i
text_of starred_s t = print_t t
text_of atom_s a = print_a a
text_of body_s b = print_b b
text_of interruption_s n = print_n n
text_of (chain_s j) c = chain_text j c

abbrev pub codes_of : (σ : Sort) → Syntax σ → List Code
codes_of sequence_s s = post_s s
codes_of item_s i = post_i i
codes_of starred_s t = post_t t
codes_of atom_s a = post_a a
codes_of body_s b = post_b b
codes_of interruption_s n = post_n n
codes_of (chain_s j) c = post_c c

abbrev pub placed_of : (σ : Sort) → ℕ → Syntax σ → Tree
placed_of sequence_s at s = placed_s at s
placed_of item_s at i = placed_i at i
placed_of starred_s at t = placed_t at t
placed_of atom_s at a = placed_a at a
placed_of body_s at b = placed_b at b
placed_of interruption_s at n = placed_n at n
placed_of (chain_s j) at c = placed_chain j at c

abbrev pub stack_of : Sort → List Sym → List Sym
stack_of sequence_s K = sequence_q K
stack_of item_s K = item_q K
stack_of starred_s K = s_atom ∷ s_star ∷ K
stack_of atom_s K = s_atom ∷ K
stack_of body_s K = body_q K
stack_of interruption_s K = s_intr ∷ K
stack_of (chain_s j) K = chain_q j K

abbrev pub here : List Sym → List Sym
here K = K

pub record Ready (s : List ℕ) (at : ℕ) (S : Store) : Type 0 where
  pub short : length s ≤ 65536
  pub room : Room S
  pub few : S.free ≤ 2 * at

-- what comes behind is never empty: at the text's end the machine lets an optional symbol pass only in front of another symbol
pub record Read (s : List ℕ) (at : ℕ) (S : Store) (n : ℕ) (S' : Store) (X Y : List Sym → List Sym) (t : Tree) (x : List Code) : Type 0 where
  pub more : at < n
  pub within : n ≤ length s
  pub some : S.free < S'.free
  pub few : S'.free < S.free + 2 * (n - at)
  pub wrote : S' ≡ writes S t
  pub reads : (k : Sym) (K : List Sym) → run (drop at s) (X (k ∷ K)) at ≡ pre x (run (drop n s) (Y (k ∷ K)) n)

-- a tree stands from `at` to n
pub record SaysAt (σ : Sort) (s : List ℕ) (at : ℕ) (S : Store) (n : ℕ) (S' : Store) : Type 0 where
  pub tree : Syntax σ
  pub ends : n ≡ at + length (text_of σ tree)
  pub read : Read s at S n S' (stack_of σ) here (placed_of σ at tree) (codes_of σ tree)

-- whatever is to come behind, the text stops at p
pub record SaysBad (X : List Sym → List Sym) (s : List ℕ) (at p : ℕ) : Type 0 where
  pub stops : (k : Sym) (K : List Sym) → run (drop at s) (X (k ∷ K)) at ≡ bad p

abbrev pub Cases : Sort → List ℕ → ℕ → Store → List ℕ → List ℕ → List ℕ → Got → Type 0
Cases σ s at S c l p (At n f) = SaysAt σ s at S n (store c l p f)
Cases σ s at S c l p (Bad q) = SaysBad (stack_of σ) s at q

-- the text s read from `at` on: S before, the lists after, and the answer
pub record Says (σ : Sort) (s : List ℕ) (at : ℕ) (S : Store) (c l p : List ℕ) (r : Got) : Type 0 where
  pub says : Cases σ s at S c l p r
