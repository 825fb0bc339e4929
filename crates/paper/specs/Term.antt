-- Terms: what a program means, and the shape that the rules rewrite. Document 01, "What a state is":
--     "Terms are equal when their trees are: brackets and braces only group, and rewriting regroups nothing."
--     Term, Intr            terms and interruptions, without brackets and braces
--     term_s s               the term of a program's sequence; "Sequences and joins group to the right."
--     eq_t x y               the two trees are the same
--     parts t               "Parts of a term: each name or `1`, each join (sequence too), `/`, `:` and star."
--     Left                  what a rewriting leaves of a term: nothing, or a term
-- Not here: what runs and what is armed (`Running`). Assumes nothing.
use Rattle.std.specs.Prelude.{ℕ, suc, ◌+◌, Bool, true, false}
use Rattle.std.proofs.Math.Decide.{ℕ_discrete}
use Rattle.paper.specs.Grammar.{Join, bar, bars, Sequence, Item, Starred, Atom, Body, Interruption, Chain, only, then, plain, until, once, again, named, never, group, single, beside, event, treated, braces, last, next}

mutual
  pub data Term : Type 0 where
    Mod : ℕ → Term
    One : Term
    Seq : Term → Term → Term
    Par : Term → Term → Term
    Star : Term → Term
    Act : Term → Intr → Term
    deriving Discrete as Term-discrete

  -- an event; with its treatment; joined by `|`; joined by `||`
  pub data Intr : Type 0 where
    Event : ℕ → Intr
    Treat : ℕ → Term → Intr
    Either : Intr → Intr → Intr
    Both : Intr → Intr → Intr
    deriving Discrete as Intr-discrete

abbrev pub joined : Join → Intr → Intr → Intr
joined bar i j = Either i j
joined bars i j = Both i j

-- "Sequences and joins group to the right. `a/E:b/F:c` has the treatment `b/F:c`."
unfoldable mutual
  pub term_s : Sequence → Term
  term_s (only i) = term_i i
  term_s (then i s) = Seq (term_i i) (term_s s)

  pub term_i : Item → Term
  term_i (plain t) = term_t t
  term_i (until t n) = Act (term_t t) (term_n n)

  pub term_t : Starred → Term
  term_t (once a) = term_a a
  term_t (again a) = Star (term_a a)

  pub term_a : Atom → Term
  term_a (named m h) = Mod m
  term_a never = One
  term_a (group b) = term_b b

  pub term_b : Body → Term
  term_b (single s) = term_s s
  term_b (beside s b) = Par (term_s s) (term_b b)

  pub term_n : Interruption → Intr
  term_n (event e h) = Event e
  term_n (treated e h i) = Treat e (term_i i)
  term_n (braces j n c) = joined j (term_n n) (term_c j c)

  pub term_c : Join → Chain → Intr
  term_c j (last n) = term_n n
  term_c j (next n c) = joined j (term_n n) (term_c j c)

unfoldable pub is_yes : {A : Type 0} → Dec A → Bool
is_yes (yes p) = true
is_yes (no q) = false

unfoldable pub eq_t : Term → Term → Bool
eq_t x y = is_yes (Term-discrete ℕ_discrete x y)

unfoldable mutual
  pub parts : Term → ℕ
  parts (Mod m) = 1
  parts One = 1
  parts (Seq x y) = suc (parts x + parts y)
  parts (Par x y) = suc (parts x + parts y)
  parts (Star x) = suc (parts x)
  parts (Act x i) = suc (parts x + parts_i i)

  -- an event; an event, `:` and the treatment; a join
  pub parts_i : Intr → ℕ
  parts_i (Event e) = 1
  parts_i (Treat e t) = suc (suc (parts t))
  parts_i (Either i j) = suc (parts_i i + parts_i j)
  parts_i (Both i j) = suc (parts_i i + parts_i j)

pub data Left : Type 0 where
  gone : Left
  still : Term → Left
