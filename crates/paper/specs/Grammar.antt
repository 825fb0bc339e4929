-- The grammar, as trees of what is written and the text of each. Document 01, "The configuration file":
--     "Program: a sequence, then `.`." and the six productions under it.
--     Sequence, Item, Starred, Atom, Body, Interruption, Chain      a tree for each production
--     printed s             the text of the program s
--     IsProgram v           the bytes v are a program: the text of one
--     Begins v              some program continues v
--     Stops v p             v is no program, and p is the place that No. 8 names
-- Not here: the limits (`Limits`), what a program means (`Term`). Assumes nothing.
use Rattle.std.specs.Prelude.{ℕ, suc, ◌+◌, ◌<◌, List, [], ◌∷◌, ◌++◌, ◌≡◌, T, ltb, length, take}
use Rattle.paper.specs.Bytes.{star_mark, dot_mark, slash_mark, one_mark, colon_mark, open_mark, close_mark, brace_mark, bar_mark, unbrace_mark}

-- "all joined by `|` or all by `||`"
pub data Join : Type 0 where
  bar bars : Join

-- Letters are numbers from 0, so a and A are 0, z and Z 25.
mutual
  -- "Sequence: one or more items side by side."
  pub data Sequence : Type 0 where
    only : Item → Sequence
    then : Item → Sequence → Sequence

  -- "Item: a starred part, then optionally `/` and an interruption."
  pub data Item : Type 0 where
    plain : Starred → Item
    until : Starred → Interruption → Item

  -- "Starred part: an atom, optionally one `*`."
  pub data Starred : Type 0 where
    once : Atom → Starred
    again : Atom → Starred

  -- "Atom: a module a to z, or `1`, or `[` body `]`."
  pub data Atom : Type 0 where
    named : (m : ℕ) → T (ltb m 26) → Atom
    never : Atom
    group : Body → Atom

  -- "Body: one or more sequences joined by `||`."
  pub data Body : Type 0 where
    single : Sequence → Body
    beside : Sequence → Body → Body

  -- "Interruption: an event A to Z, optionally `:` and an item (its treatment); or `{` two or more interruptions `}`, .."
  pub data Interruption : Type 0 where
    event : (e : ℕ) → T (ltb e 26) → Interruption
    treated : (e : ℕ) → T (ltb e 26) → Item → Interruption
    braces : Join → Interruption → Chain → Interruption

  -- the second of them and those after it
  pub data Chain : Type 0 where
    last : Interruption → Chain
    next : Interruption → Chain → Chain

abbrev pub module_byte : ℕ → ℕ
module_byte m = 97 + m

abbrev pub event_byte : ℕ → ℕ
event_byte e = 65 + e

-- "Each byte is a token, but `||` is one."
abbrev pub join_text : Join → List ℕ
join_text bar = bar_mark ∷ []
join_text bars = bar_mark ∷ bar_mark ∷ []

unfoldable mutual
  pub print_s : Sequence → List ℕ
  print_s (only i) = print_i i
  print_s (then i s) = print_i i ++ print_s s

  pub print_i : Item → List ℕ
  print_i (plain t) = print_t t
  print_i (until t n) = print_t t ++ (slash_mark ∷ print_n n)

  pub print_t : Starred → List ℕ
  print_t (once a) = print_a a
  print_t (again a) = print_a a ++ (star_mark ∷ [])

  pub print_a : Atom → List ℕ
  print_a (named m h) = module_byte m ∷ []
  print_a never = one_mark ∷ []
  print_a (group b) = open_mark ∷ (print_b b ++ (close_mark ∷ []))

  pub print_b : Body → List ℕ
  print_b (single s) = print_s s
  print_b (beside s b) = print_s s ++ (bar_mark ∷ bar_mark ∷ print_b b)

  pub print_n : Interruption → List ℕ
  print_n (event e h) = event_byte e ∷ []
  print_n (treated e h i) = event_byte e ∷ colon_mark ∷ print_i i
  print_n (braces j n c) = brace_mark ∷ (print_n n ++ (print_c j c ++ (unbrace_mark ∷ [])))

  -- each of them behind its join
  pub print_c : Join → Chain → List ℕ
  print_c j (last n) = join_text j ++ print_n n
  print_c j (next n c) = join_text j ++ (print_n n ++ print_c j c)

-- "Program: a sequence, then `.`."
unfoldable pub printed : Sequence → List ℕ
printed s = print_s s ++ (dot_mark ∷ [])

abbrev pub IsProgram : List ℕ → Type 0
IsProgram v = (s : Sequence) × (v ≡ printed s)

-- a program continues the bytes v
abbrev pub Begins : List ℕ → Type 0
Begins v = (w : List ℕ) × IsProgram (v ++ w)

-- No. 8: "first byte that no program continues with; the line end if the value stops short"
pub data Stops (v : List ℕ) : ℕ → Type 0 where
  wrong : {p : ℕ} → p < length v → Begins (take p v) → (Begins (take (suc p) v) → ⊥) → Stops v p
  short : Begins v → (IsProgram v → ⊥) → Stops v (length v)
