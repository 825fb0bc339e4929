-- A function that reads a program's text, so that the other definitions compute. Nobody has to believe it: `Right` says what it must do, in the
-- words of `Grammar`, and the crate `laws` proves `Right parse`, and that whatever is right answers the same.
--     Parsed                a program's tree, or the place at which the text stops being one
--     Says v r              r is what document 01 says of the bytes v
--     Right f               f answers so for all bytes
--     parse v               a stack of what must or may come next (`Sym`), fed byte by byte; each production that ends writes its `Code`,
--                           and the codes, in the order written, build the tree
-- Assumes nothing.
use Rattle.std.specs.Prelude.{ℕ, ◌+◌, ◌-◌, Bool, true, false, cond, List, [], ◌∷◌, ◌++◌, ◌≡◌, refl, T, eqb, ltb}
use Rattle.std.proofs.Common.{sym, subst}
use Rattle.paper.specs.Bytes.{is_module, is_event, star_mark, dot_mark, slash_mark, one_mark, colon_mark, open_mark, close_mark, brace_mark, bar_mark, unbrace_mark}
use Rattle.paper.specs.Grammar.{Join, bar, bars, Sequence, Item, Starred, Atom, Body, Interruption, Chain, only, then, plain, until, once, again, named, never, group, single, beside, event, treated, braces, last, next, printed, Stops}

pub data Parsed : Type 0 where
  program : Sequence → Parsed
  stops : ℕ → Parsed

abbrev pub Says : List ℕ → Parsed → Type 0
Says v (program s) = v ≡ printed s
Says v (stops p) = Stops v p

abbrev pub Right : (List ℕ → Parsed) → Type 0
Right f = (v : List ℕ) → Says v (f v)

-- ---- the machine: what must come (s_atom, s_bar, s_close, s_intr, s_sep, s_next, s_second, s_brace, s_dot), what may come, and what is then written

pub data Code : Type 0 where
  c_named c_letter : ℕ → Code
  c_never c_group c_once c_again c_plain c_until c_only c_then c_single c_beside c_event c_treated c_last c_next : Code
  c_braces : Join → Code

pub data Sym : Type 0 where
  s_atom s_star s_slash s_more s_bars s_bar s_close s_intr s_colon s_sep s_next s_second s_brace s_dot : Sym
  s_chain : Join → Sym
  s_emit : Code → Sym

-- the byte does not fit; or the stack after it, and what it writes
pub data Fed : Type 0 where
  off : Fed
  to : List Sym → List Code → Fed

pub data Out : Type 0 where
  done : List Code → Out
  bad : ℕ → Out

abbrev pub emit : Code → Fed → Fed
emit c off = off
emit c (to L o) = to L (c ∷ o)

abbrev pub item_q : List Sym → List Sym
item_q K = s_atom ∷ s_star ∷ s_slash ∷ K

abbrev pub sequence_q : List Sym → List Sym
sequence_q K = s_atom ∷ s_star ∷ s_slash ∷ s_more ∷ K

abbrev pub body_q : List Sym → List Sym
body_q K = s_atom ∷ s_star ∷ s_slash ∷ s_more ∷ s_bars ∷ K

abbrev pub chain_q : Join → List Sym → List Sym
chain_q j K = s_intr ∷ s_chain j ∷ K

abbrev pub program_q : List Sym
program_q = sequence_q (s_dot ∷ [])

-- an atom begins, or else f
unfoldable pub begin : List Sym → ℕ → Fed → Fed
begin K b f =
    cond (eqb b open_mark) (to (body_q (s_close ∷ K)) [])
    (cond (is_module b) (to K (c_named (b - 97) ∷ [])) (cond (eqb b one_mark) (to K (c_never ∷ [])) f))

-- an interruption begins, or else f
unfoldable pub begin_i : List Sym → ℕ → Fed → Fed
begin_i K b f = cond (eqb b brace_mark) (to (s_intr ∷ s_sep ∷ K) []) (cond (is_event b) (to (s_colon ∷ K) (c_letter (b - 65) ∷ [])) f)

unfoldable pub feed : List Sym → ℕ → Fed
feed [] b = off
feed (s_atom ∷ K) b = begin K b off
feed (s_star ∷ K) b = cond (eqb b star_mark) (to K (c_again ∷ [])) (emit c_once (feed K b))
feed (s_slash ∷ K) b = cond (eqb b slash_mark) (to (s_intr ∷ s_emit c_until ∷ K) []) (emit c_plain (feed K b))
feed (s_more ∷ K) b = begin (s_star ∷ s_slash ∷ s_more ∷ s_emit c_then ∷ K) b (emit c_only (feed K b))
feed (s_bars ∷ K) b = cond (eqb b bar_mark) (to (s_bar ∷ K) []) (emit c_single (feed K b))
feed (s_bar ∷ K) b = cond (eqb b bar_mark) (to (body_q (s_emit c_beside ∷ K)) []) off
feed (s_close ∷ K) b = cond (eqb b close_mark) (to K (c_group ∷ [])) off
feed (s_intr ∷ K) b = begin_i K b off
feed (s_colon ∷ K) b = cond (eqb b colon_mark) (to (item_q (s_emit c_treated ∷ K)) []) (emit c_event (feed K b))
feed (s_sep ∷ K) b = cond (eqb b bar_mark) (to (s_next ∷ K) []) off
feed (s_next ∷ K) b =
    cond (eqb b bar_mark) (to (chain_q bars (s_emit (c_braces bars) ∷ s_brace ∷ K)) []) (begin_i (s_chain bar ∷ s_emit (c_braces bar) ∷ s_brace ∷ K) b off)
feed (s_second ∷ K) b = cond (eqb b bar_mark) (to (chain_q bars (s_emit c_next ∷ K)) []) off
feed (s_brace ∷ K) b = cond (eqb b unbrace_mark) (to K []) off
feed (s_dot ∷ K) b = cond (eqb b dot_mark) (to K []) off
feed (s_chain bar ∷ K) b = cond (eqb b bar_mark) (to (chain_q bar (s_emit c_next ∷ K)) []) (emit c_last (feed K b))
feed (s_chain bars ∷ K) b = cond (eqb b bar_mark) (to (s_second ∷ K) []) (emit c_last (feed K b))
feed (s_emit c ∷ K) b = emit c (feed K b)

abbrev pub pre : List Code → Out → Out
pre o (done x) = done (o ++ x)
pre o (bad p) = bad p

-- the text has ended: well only where nothing is waited for
abbrev pub ending : List Sym → ℕ → Out
ending [] at = done []
ending (s ∷ K) at = bad at

abbrev pub onward : Fed → (List Sym → List Code → Out) → Out → Out
onward off f o = o
onward (to L x) f o = f L x

-- the text from the place `at` on
unfoldable pub run : List ℕ → List Sym → ℕ → Out
run [] K at = ending K at
run (b ∷ w) K at = onward (feed K b) (λ L x. pre x (run w L (at + 1))) (bad at)

-- ---- the tree of the codes: a stack for each sort of tree, and each code takes its parts from them

pub record Stacks : Type 0 where
  pub letters : List ℕ
  pub atoms : List Atom
  pub starreds : List Starred
  pub items : List Item
  pub sequences : List Sequence
  pub bodies : List Body
  pub interruptions : List Interruption
  pub chains : List Chain

abbrev pub top : {A : Type 0} → A → List A → A
top d [] = d
top d (x ∷ xs) = x

abbrev pub rest : {A : Type 0} → List A → List A
rest [] = []
rest (x ∷ xs) = xs

-- what is asked of an empty stack, or of a letter over 25: never the case for a text's own codes
abbrev pub no_starred : Starred
no_starred = once never

abbrev pub no_item : Item
no_item = plain no_starred

abbrev pub no_sequence : Sequence
no_sequence = only no_item

abbrev pub no_body : Body
no_body = single no_sequence

abbrev pub no_event : Interruption
no_event = event 0 tt

abbrev pub no_chain : Chain
no_chain = last no_event

abbrev pub as_atom : (m : ℕ) (b : Bool) → ltb m 26 ≡ b → Atom
as_atom m true e = named m (subst T (sym e) tt)
as_atom m false e = never

abbrev pub as_event : (n : ℕ) (b : Bool) → ltb n 26 ≡ b → Interruption
as_event n true e = event n (subst T (sym e) tt)
as_event n false e = no_event

abbrev pub as_treated : (n : ℕ) (b : Bool) → ltb n 26 ≡ b → Item → Interruption
as_treated n true e i = treated n (subst T (sym e) tt) i
as_treated n false e i = no_event

-- the stacks with one of them changed
abbrev pub letters_are : List ℕ → Stacks → Stacks
letters_are xs s = record { letters = xs; atoms = s.atoms; starreds = s.starreds; items = s.items; sequences = s.sequences; bodies = s.bodies; interruptions = s.interruptions; chains = s.chains }

abbrev pub atoms_are : List Atom → Stacks → Stacks
atoms_are xs s = record { letters = s.letters; atoms = xs; starreds = s.starreds; items = s.items; sequences = s.sequences; bodies = s.bodies; interruptions = s.interruptions; chains = s.chains }

abbrev pub starreds_are : List Starred → Stacks → Stacks
starreds_are xs s = record { letters = s.letters; atoms = s.atoms; starreds = xs; items = s.items; sequences = s.sequences; bodies = s.bodies; interruptions = s.interruptions; chains = s.chains }

abbrev pub items_are : List Item → Stacks → Stacks
items_are xs s = record { letters = s.letters; atoms = s.atoms; starreds = s.starreds; items = xs; sequences = s.sequences; bodies = s.bodies; interruptions = s.interruptions; chains = s.chains }

abbrev pub sequences_are : List Sequence → Stacks → Stacks
sequences_are xs s = record { letters = s.letters; atoms = s.atoms; starreds = s.starreds; items = s.items; sequences = xs; bodies = s.bodies; interruptions = s.interruptions; chains = s.chains }

abbrev pub bodies_are : List Body → Stacks → Stacks
bodies_are xs s = record { letters = s.letters; atoms = s.atoms; starreds = s.starreds; items = s.items; sequences = s.sequences; bodies = xs; interruptions = s.interruptions; chains = s.chains }

abbrev pub interruptions_are : List Interruption → Stacks → Stacks
interruptions_are xs s = record { letters = s.letters; atoms = s.atoms; starreds = s.starreds; items = s.items; sequences = s.sequences; bodies = s.bodies; interruptions = xs; chains = s.chains }

abbrev pub chains_are : List Chain → Stacks → Stacks
chains_are xs s = record { letters = s.letters; atoms = s.atoms; starreds = s.starreds; items = s.items; sequences = s.sequences; bodies = s.bodies; interruptions = s.interruptions; chains = xs }

-- one line a code: what it takes, and what it leaves
unfoldable pub build : Code → Stacks → Stacks
build (c_named m) s = atoms_are (as_atom m (ltb m 26) refl ∷ s.atoms) s
build (c_letter e) s = letters_are (e ∷ s.letters) s
build c_never s = atoms_are (never ∷ s.atoms) s
build c_group s = atoms_are (group (top no_body s.bodies) ∷ s.atoms) (bodies_are (rest s.bodies) s)
build c_once s = starreds_are (once (top never s.atoms) ∷ s.starreds) (atoms_are (rest s.atoms) s)
build c_again s = starreds_are (again (top never s.atoms) ∷ s.starreds) (atoms_are (rest s.atoms) s)
build c_plain s = items_are (plain (top no_starred s.starreds) ∷ s.items) (starreds_are (rest s.starreds) s)
build c_until s =
    items_are (until (top no_starred s.starreds) (top no_event s.interruptions) ∷ s.items)
    (starreds_are (rest s.starreds) (interruptions_are (rest s.interruptions) s))
build c_only s = sequences_are (only (top no_item s.items) ∷ s.sequences) (items_are (rest s.items) s)
build c_then s =
    sequences_are (then (top no_item s.items) (top no_sequence s.sequences) ∷ rest s.sequences) (items_are (rest s.items) s)
build c_single s = bodies_are (single (top no_sequence s.sequences) ∷ s.bodies) (sequences_are (rest s.sequences) s)
build c_beside s =
    bodies_are (beside (top no_sequence s.sequences) (top no_body s.bodies) ∷ rest s.bodies) (sequences_are (rest s.sequences) s)
build c_event s =
    interruptions_are (as_event (top 0 s.letters) (ltb (top 0 s.letters) 26) refl ∷ s.interruptions) (letters_are (rest s.letters) s)
build c_treated s =
    interruptions_are (as_treated (top 0 s.letters) (ltb (top 0 s.letters) 26) refl (top no_item s.items) ∷ s.interruptions)
    (letters_are (rest s.letters) (items_are (rest s.items) s))
build c_last s = chains_are (last (top no_event s.interruptions) ∷ s.chains) (interruptions_are (rest s.interruptions) s)
build c_next s =
    chains_are (next (top no_event s.interruptions) (top no_chain s.chains) ∷ rest s.chains) (interruptions_are (rest s.interruptions) s)
build (c_braces j) s =
    interruptions_are (braces j (top no_event s.interruptions) (top no_chain s.chains) ∷ rest s.interruptions)
    (chains_are (rest s.chains) s)

unfoldable pub builds : List Code → Stacks → Stacks
builds [] s = s
builds (c ∷ cs) s = builds cs (build c s)

abbrev pub empty : Stacks
empty = record {
  letters = [];
  atoms = [];
  starreds = [];
  items = [];
  sequences = [];
  bodies = [];
  interruptions = [];
  chains = [];
}

unfoldable pub answer : Out → Parsed
answer (done x) = program (top no_sequence (builds x empty).sequences)
answer (bad p) = stops p

unfoldable pub parse : List ℕ → Parsed
parse v = answer (run v program_q 0)
