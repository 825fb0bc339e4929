-- What a completion and an event make of a term. Document 01, "What a state is", Completion and Taking:
--     Letter                a completion of a module, or an occurrence of an event
--     rewritten l t         what the letter l leaves of the term t; taking shares with completion what "behave as above" says
--     completed m t, taken e t      the two, by name
--     hit l i               what a struck interruption becomes
-- Not here: when an event is taken (`Reaction`), what the memory does (`Settling`). Assumes nothing.
use Rattle.std.specs.Prelude.{ℕ, Bool, true, false, cond, eqb}
use Rattle.paper.specs.Term.{Term, Intr, Left, Mod, One, Seq, Par, Star, Act, Event, Treat, Either, Both, gone, still, eq_t}
use Rattle.paper.specs.Running.{heads}

pub data Letter : Type 0 where
  completion : ℕ → Letter
  occurrence : ℕ → Letter

-- "The a that runs vanishes."
abbrev pub ends : Letter → ℕ → Bool
ends (completion m) n = eqb m n
ends (occurrence e) n = false

-- "if E heads its interruption"
abbrev pub strikes : Letter → Intr → Bool
strikes (completion m) i = false
strikes (occurrence e) i = heads e i

-- "A sequence whose first part vanishes becomes its second"
abbrev pub seq_l : Left → Term → Left
seq_l gone y = still y
seq_l (still x) y = still (Seq x y)

-- "a `||` with one side gone becomes the other, with both gone it is gone"
abbrev pub par_l : Left → Left → Left
par_l gone r = r
par_l (still x) gone = still x
par_l (still x) (still y) = still (Par x y)

-- "a `/` whose first part vanishes is gone with its interruption"
abbrev pub act_l : Left → Intr → Left
act_l gone i = gone
act_l (still x) i = still (Act x i)

-- "A starred T: if T becomes T', different and not gone, the result is T' followed by the starred T; if T is gone or equal to before, the starred T."
unfoldable pub star_l : Left → Term → Left
star_l gone t = still (Star t)
star_l (still x) t = cond (eq_t x t) (still (Star t)) (still (Seq x (Star t)))

-- "plain E is gone; `E:T` becomes T; in `|` the leftmost alternative that E heads is hit and the rest dropped; in `||` each side that E heads is
-- hit, and a side I that it does not head becomes `1/I`."
unfoldable pub hit : Letter → Intr → Left
hit l (Event f) = gone
hit l (Treat f t) = still t
hit l (Either i j) = cond (strikes l i) (hit l i) (hit l j)
hit l (Both i j) = par_l (cond (strikes l i) (hit l i) (still (Act One i))) (cond (strikes l j) (hit l j) (still (Act One j)))

-- "At a `/`: if E heads its interruption, the first part is dropped and the interruption is hit, so an outer `/` wins over an inner one; otherwise
-- E is taken in the first part, and if that is gone the `/` is gone too."
unfoldable pub rewritten : Letter → Term → Left
rewritten l (Mod n) = cond (ends l n) gone (still (Mod n))
rewritten l One = still One
rewritten l (Seq x y) = seq_l (rewritten l x) y
rewritten l (Par x y) = par_l (rewritten l x) (rewritten l y)
rewritten l (Act x i) = cond (strikes l i) (hit l i) (act_l (rewritten l x) i)
rewritten l (Star x) = star_l (rewritten l x) x

abbrev pub completed : ℕ → Term → Left
completed m t = rewritten (completion m) t

abbrev pub taken : ℕ → Term → Left
taken e t = rewritten (occurrence e) t
