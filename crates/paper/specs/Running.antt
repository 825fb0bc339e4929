-- What runs in a term, and what is armed. Document 01, "What a state is":
--     "Running. A module runs itself; a sequence, a star and a `/` run their first part; `||` runs both sides."
--     "Armed: the same walk, and at a `/` also every event at the head of its interruption, inside braces too."
--     runs m t, runs_l m r   the module m runs in the term t, in what is left
--     heads e i             the event e stands at the head of the interruption i
--     armed e t             the event e is armed in the term t
-- Not here: what a completion or an event does (`Rewriting`). Assumes nothing.
use Rattle.std.specs.Prelude.{ℕ, Bool, false, ◌||◌, eqb}
use Rattle.paper.specs.Term.{Term, Intr, Left, Mod, One, Seq, Par, Star, Act, Event, Treat, Either, Both, gone, still}

-- `1` runs nothing
unfoldable pub runs : ℕ → Term → Bool
runs m (Mod n) = eqb m n
runs m One = false
runs m (Seq x y) = runs m x
runs m (Star x) = runs m x
runs m (Act x i) = runs m x
runs m (Par x y) = runs m x || runs m y

-- at the end nothing runs
unfoldable pub runs_l : ℕ → Left → Bool
runs_l m gone = false
runs_l m (still t) = runs m t

unfoldable pub heads : ℕ → Intr → Bool
heads e (Event f) = eqb e f
heads e (Treat f t) = eqb e f
heads e (Either i j) = heads e i || heads e j
heads e (Both i j) = heads e i || heads e j

unfoldable pub armed : ℕ → Term → Bool
armed e (Mod n) = false
armed e One = false
armed e (Seq x y) = armed e x
armed e (Star x) = armed e x
armed e (Act x i) = heads e i || armed e x
armed e (Par x y) = armed e x || armed e y
