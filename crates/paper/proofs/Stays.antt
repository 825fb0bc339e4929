-- "A part in which E is not armed stays", and a module that does not run completes nowhere.
-- By cases of the term: each join keeps a part that stays, and a starred part that came back equal is the starred part (`star-stays`).
-- Assumes nothing.
use Prim.Native.Nat.{ℕ}
use mathlib.Core.Path.{◌≡◌, refl}
use mathlib.Core.Bool.{Bool, true, false, ◌||◌, true≢false}
use lib.Dec.{T}
use Rattle.paper.specs.Term.{Term, Mod, One, Seq, Par, Star, Act, still, eq_t}
use Rattle.paper.specs.Running.{runs, heads, armed}
use Rattle.paper.specs.Rewriting.{star_l, rewritten, completed, taken}
use Rattle.paper.proofs.Equal.{eq_t-complete}

pub or_left : (a b : Bool) → (a || b) ≡ false → a ≡ false
or_left true b e = e
or_left false b e = refl

pub or_right : (a b : Bool) → (a || b) ≡ false → b ≡ false
or_right true b e = absurd (true≢false e)
or_right false b e = e

pub T_true : (b : Bool) → T b → b ≡ true
T_true true t = refl
T_true false t = absurd t

pub star-stays : (x : Term) → star_l (still x) x ≡ still (Star x)
unfolding star_l
star-stays x = rw (T_true (eq_t x x) (eq_t-complete x x refl))

pub completed-stays : (m : ℕ) (t : Term) → runs m t ≡ false → completed m t ≡ still t
unfolding runs rewritten
completed-stays m (Mod n) h = rw h
completed-stays m One h = refl
completed-stays m (Seq x y) h = rw (completed-stays m x h)
completed-stays m (Par x y) h =
    rw (completed-stays m x (or_left (runs m x) (runs m y) h), completed-stays m y (or_right (runs m x) (runs m y) h))
completed-stays m (Star x) h = rw (completed-stays m x h) (star-stays x)
completed-stays m (Act x i) h = rw (completed-stays m x h)

pub taken-stays : (e : ℕ) (t : Term) → armed e t ≡ false → taken e t ≡ still t
unfolding armed rewritten
taken-stays e (Mod n) h = refl
taken-stays e One h = refl
taken-stays e (Seq x y) h = rw (taken-stays e x h)
taken-stays e (Par x y) h =
    rw (taken-stays e x (or_left (armed e x) (armed e y) h), taken-stays e y (or_right (armed e x) (armed e y) h))
taken-stays e (Star x) h = rw (taken-stays e x h) (star-stays x)
taken-stays e (Act x i) h = rw (or_left (heads e i) (armed e x) h, taken-stays e x (or_right (heads e i) (armed e x) h))
