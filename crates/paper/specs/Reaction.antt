-- States, and one reaction with its orders. Document 01, "What a state is", Occurrence and Orders:
--     Program               what is fixed by a file: its modules and events, ascending, the fugitive ones, and its term
--     State                 "A term, a memory and a set of stopped modules."; the set as a list in the order of the modules
--     start_of p             the state in which a program begins
--     possible l s          a completion only of a module that runs; events always
--     reaction p l s        the state after the letter l, and one order for each module
--     walk p s ls           the same for one letter after the other
-- Not here: refused letters (`Calls`). Assumes nothing.
use Rattle.std.specs.Prelude.{ℕ, Bool, true, false, cond, List, [], ◌∷◌, ◌++◌, map, eqb}
use Rattle.paper.specs.Lists.{has, keep}
use Rattle.paper.specs.Term.{Term, Left, gone, still}
use Rattle.paper.specs.Running.{armed, runs_l}
use Rattle.paper.specs.Rewriting.{Letter, completion, occurrence, completed, taken}
use Rattle.paper.specs.Settling.{Held, held, settled}

pub record Program : Type 0 where
  pub modules : List ℕ
  pub events : List ℕ
  pub fugitive : List ℕ
  pub term : Term

pub record State : Type 0 where
  pub left : Left
  pub memory : List ℕ
  pub stopped : List ℕ

unfoldable pub start_of : Program → State
start_of p = record { left = still p.term; memory = []; stopped = [] }

-- "Completion of a (only if it runs)"
unfoldable pub possible : Letter → State → Bool
possible (completion m) s = runs_l m s.left
possible (occurrence e) s = true

-- "Fugitive: taken if armed, else nothing; never stored. Standard: if already stored, nothing changes; else it is taken if armed, or appended to
-- the memory." Settling follows each taking.
unfoldable pub occurred : Program → ℕ → Term → List ℕ → Held
occurred p e t m =
    cond (has e p.fugitive)
    (cond (armed e t) (settled (taken e t) m) (held (still t) m))
    (cond (has e m) (held (still t) m) (cond (armed e t) (settled (taken e t) m) (held (still t) (m ++ (e ∷ [])))))

-- "At the end: nothing changes." "Settling follows each taking and each completion."
unfoldable pub moved : Program → Letter → Left → List ℕ → Held
moved p (completion a) gone m = held gone m
moved p (occurrence e) gone m = held gone m
moved p (completion a) (still t) m = settled (completed a t) m
moved p (occurrence e) (still t) m = occurred p e t m

-- 0 none, 1 start, 2 resume, 3 stop
abbrev pub none : ℕ
none = 0

abbrev pub start : ℕ
start = 1

abbrev pub resume : ℕ
resume = 2

abbrev pub stop : ℕ
stop = 3

-- "The completed module: start if it runs again, else none. Any other: runs before and after, none; before only, stop, ..; after only, resume if it is
-- in that set, .., else start." Of: it is the completed one, it ran before, it runs after, it is in the stopped set.
unfoldable pub order : (own before after stopped : Bool) → ℕ
order true b true s = start
order true b false s = none
order false true true s = none
order false true false s = stop
order false false true true = resume
order false false true false = start
order false false false s = none

-- "stop, and it joins the stopped set"; "resume if it is in that set, which it leaves": it is in the set afterwards
unfoldable pub stays : (own before after stopped : Bool) → Bool
stays true b c s = s
stays false true true s = s
stays false true false s = true
stays false false true s = false
stays false false false s = s

abbrev pub is_own : Letter → ℕ → Bool
is_own (completion a) m = eqb a m
is_own (occurrence e) m = false

-- "Orders compare before and after the whole reaction."
unfoldable pub orders : Program → Letter → State → Left → List ℕ
orders p l s r = map (λ m. order (is_own l m) (runs_l m s.left) (runs_l m r) (has m s.stopped)) p.modules

-- "On reaching the end the set is emptied after the orders are worked out."
unfoldable pub stopped_after : Program → Letter → State → Left → List ℕ
stopped_after p l s gone = []
stopped_after p l s (still t) = keep (λ m. stays (is_own l m) (runs_l m s.left) (runs_l m (still t)) (has m s.stopped)) p.modules

pub record Reacted : Type 0 where
  pub state : State
  pub does : List ℕ

unfoldable pub reaction : Program → Letter → State → Reacted
reaction p l s =
    let h = moved p l s.left s.memory in
    record {
      state = record { left = h.left; memory = h.memory; stopped = stopped_after p l s h.left };
      does = orders p l s h.left;
    }

unfoldable pub walk : Program → State → List Letter → List Reacted
walk p s [] = []
walk p s (l ∷ ls) = let r = reaction p l s in r ∷ walk p r.state ls
