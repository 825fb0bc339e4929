-- Reachable states, and their discovery in order. Document 01, "The table":
--     "States are numbered in order of discovery from 0, the start: each state in turn, module letters alphabetically, then event letters. At most 512
--     states."
--     letters p             the letters of a program in the table's order
--     Reach p s             the state s is reachable: what is meant, by the rules alone
--     eq_s s t, has_s s ss    the same state; the state stands in the list
--     discover n p todo seen        n turns: the first state of todo looks at each letter, and what it finds beyond those seen joins both lists
--     discovered p          512 turns from the start: `seen` in order of discovery, `todo` those whose turn did not come
-- Not here: the bytes of the table (`Table`), that these are the reachable states, each once (`laws`). Assumes nothing.
use Rattle.std.specs.Prelude.{ℕ, zero, suc, Bool, true, false, ◌&&◌, List, [], ◌∷◌, ◌++◌, map, T}
use Rattle.paper.specs.Lists.{choose, eq_l}
use Rattle.paper.specs.Term.{Left, gone, still, eq_t}
use Rattle.paper.specs.Rewriting.{Letter, completion, occurrence}
use Rattle.paper.specs.Reaction.{Program, State, start_of, possible, reaction}

unfoldable pub letters : Program → List Letter
letters p = map (λ m. completion m) p.modules ++ map (λ e. occurrence e) p.events

-- the letter l stands in the list
pub data Among (l : Letter) : List Letter → Type 0 where
  here : {ls : List Letter} → Among l (l ∷ ls)
  there : {k : Letter} {ls : List Letter} → Among l ls → Among l (k ∷ ls)

pub data Reach (p : Program) : State → Type 0 where
  begin : Reach p (start_of p)
  next : {s : State} (l : Letter) → Among l (letters p) → T (possible l s) → Reach p s → Reach p (reaction p l s).state

abbrev pub eq_left : Left → Left → Bool
eq_left gone gone = true
eq_left gone (still t) = false
eq_left (still t) gone = false
eq_left (still t) (still u) = eq_t t u

unfoldable pub eq_s : State → State → Bool
eq_s s t = eq_l s.memory t.memory && eq_l s.stopped t.stopped && eq_left s.left t.left

unfoldable pub has_s : State → List State → Bool
has_s s [] = false
has_s s (t ∷ ts) = choose (eq_s s t) (λ u. true) (λ u. has_s s ts)

-- the states that s finds beyond those seen, letter by letter
unfoldable pub finds : Program → State → List Letter → List State → List State
finds p s [] seen = []
finds p s (l ∷ ls) seen =
    choose (possible l s)
    (λ u.
    let n = (reaction p l s).state in
    choose (has_s n seen) (λ v. finds p s ls seen) (λ v. n ∷ finds p s ls (seen ++ (n ∷ []))))
    (λ u. finds p s ls seen)

pub record Found : Type 0 where
  pub seen : List State
  pub todo : List State

unfoldable pub discover : ℕ → Program → List State → List State → Found
discover zero p todo seen = record { seen = seen; todo = todo }
discover (suc n) p [] seen = record { seen = seen; todo = [] }
discover (suc n) p (s ∷ todo) seen = let new = finds p s (letters p) seen in discover n p (todo ++ new) (seen ++ new)

abbrev pub most_states : ℕ
most_states = 512

unfoldable pub discovered : Program → Found
discovered p = discover most_states p (start_of p ∷ []) (start_of p ∷ [])
