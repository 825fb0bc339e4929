-- The parts of a reachable term are at most the bound of the program's: a term's parts are at most its bound, and no rule raises the bound.
-- By cases of the term, one small lemma for each way in which a rule joins what is left; the parts of a star that unrolls are in its bound.
-- Assumes nothing.
use Prim.Native.Nat.{ℕ, ◌+◌, ◌≤◌, max}
use mathlib.Core.Bool.{Bool, cond}
use mathlib.Core.List.{List}
use native.Mathlib.Omega.{arith}
use Rattle.paper.specs.Term.{Term, Intr, Left, Mod, One, Seq, Par, Star, Act, Event, Treat, Either, Both, gone, still, eq_t, parts, parts_i}
use Rattle.paper.specs.Rewriting.{Letter, ends, strikes, seq_l, par_l, act_l, star_l, hit, rewritten}
use Rattle.paper.specs.Settling.{settled}
use Rattle.paper.specs.Reaction.{Program, State, reaction}
use Rattle.paper.specs.Discovery.{Reach}
use Rattle.paper.specs.Refusals.{parts_of}
use Rattle.laws.specs.PartsBound.{bound, bound_i, bound_l}
use Rattle.laws.proofs.Kept.{both_ways, side_l, settled-keeps, reaction-keeps, reach-keeps}

pub parts-bounded : (t : Term) → parts t ≤ bound t
unfolding parts bound
parts-bounded (Mod m) = omega arith
parts-bounded One = omega arith
parts-bounded (Seq x y) = omega (arith, parts-bounded x)
parts-bounded (Par x y) = omega (arith, parts-bounded x, parts-bounded y)
parts-bounded (Star x) = omega (arith, parts-bounded x)
parts-bounded (Act x i) = omega (arith, parts-bounded x)

parts_of-bounded : (r : Left) → parts_of r ≤ bound_l r
unfolding bound_l
parts_of-bounded gone = omega arith
parts_of-bounded (still t) = parts-bounded t

-- a choice is bounded by n where both branches are
cond-bounded : (b : Bool) (r s : Left) (n : ℕ) → bound_l r ≤ n → bound_l s ≤ n → bound_l (cond b r s) ≤ n
cond-bounded b r s n h k = both_ways (λ x. bound_l x ≤ n) b r s h k

seq_l-bounded : (r : Left) (x y : Term) → bound_l r ≤ bound x → bound_l (seq_l r y) ≤ bound (Seq x y)
unfolding bound bound_l
seq_l-bounded gone x y h = omega arith
seq_l-bounded (still x') x y h = omega arith

par_l-bounded : (r s : Left) (m n : ℕ) → bound_l r ≤ m → bound_l s ≤ n → bound_l (par_l r s) ≤ m + 1 + n
unfolding bound bound_l
par_l-bounded gone s m n h k = omega arith
par_l-bounded (still x) gone m n h k = omega arith
par_l-bounded (still x) (still y) m n h k = omega arith

act_l-bounded : (r : Left) (x : Term) (i : Intr) → bound_l r ≤ bound x → bound_l (act_l r i) ≤ bound (Act x i)
unfolding bound bound_l
act_l-bounded gone x i h = omega arith
act_l-bounded (still x') x i h = omega arith

-- T' followed by the starred T: the bound of the starred T has room for both
star_l-bounded : (r : Left) (x : Term) → bound_l r ≤ bound x → bound_l (star_l r x) ≤ bound (Star x)
unfolding bound bound_l star_l
star_l-bounded gone x h = omega arith
star_l-bounded (still x') x h =
    cond-bounded (eq_t x' x) (still (Star x)) (still (Seq x' (Star x))) (bound (Star x)) (omega arith) (omega arith)

side_l-bounded : (l : Letter) (i : Intr) → bound_l (hit l i) ≤ bound_i i → bound_l (side_l l i) ≤ max (2 + parts_i i) (bound_i i)
unfolding bound bound_l
side_l-bounded l i h = cond-bounded (strikes l i) (hit l i) (still (Act One i)) (max (2 + parts_i i) (bound_i i)) (omega arith) (omega arith)

pub hit-bounded : (l : Letter) (i : Intr) → bound_l (hit l i) ≤ bound_i i
unfolding bound bound_l hit
hit-bounded l (Event f) = omega arith
hit-bounded l (Treat f t) = omega arith
hit-bounded l (Either i j) =
    cond-bounded (strikes l i) (hit l i) (hit l j) (max (bound_i i) (bound_i j)) (omega (arith, hit-bounded l i)) (omega (arith, hit-bounded l j))
hit-bounded l (Both i j) =
    omega (
      arith,
      par_l-bounded
          (side_l l i)
          (side_l l j)
          (max (2 + parts_i i) (bound_i i))
          (max (2 + parts_i j) (bound_i j))
          (side_l-bounded l i (hit-bounded l i))
          (side_l-bounded l j (hit-bounded l j)),
    )

pub rewritten-bounded : (l : Letter) (t : Term) → bound_l (rewritten l t) ≤ bound t
unfolding bound bound_l rewritten
rewritten-bounded l (Mod n) = cond-bounded (ends l n) gone (still (Mod n)) 1 (omega arith) (omega arith)
rewritten-bounded l One = omega arith
rewritten-bounded l (Seq x y) = seq_l-bounded (rewritten l x) x y (rewritten-bounded l x)
rewritten-bounded l (Par x y) = par_l-bounded (rewritten l x) (rewritten l y) (bound x) (bound y) (rewritten-bounded l x) (rewritten-bounded l y)
rewritten-bounded l (Star x) = star_l-bounded (rewritten l x) x (rewritten-bounded l x)
rewritten-bounded l (Act x i) =
    cond-bounded (strikes l i) (hit l i) (act_l (rewritten l x) i) (bound (Act x i)) (omega (arith, hit-bounded l i))
    (act_l-bounded (rewritten l x) x i (rewritten-bounded l x))

-- "bounded by n" is kept
bound_l-kept : (n : ℕ) (l : Letter) (t : Term) → bound_l (still t) ≤ n → bound_l (rewritten l t) ≤ n
unfolding bound_l
bound_l-kept n l t h = omega (arith, rewritten-bounded l t)

pub settled-bounded : (r : Left) (m : List ℕ) → bound_l (settled r m).left ≤ bound_l r
settled-bounded r m = settled-keeps (λ x. bound_l x ≤ bound_l r) (bound_l-kept (bound_l r)) r m (omega arith)

pub reaction-bounded : (p : Program) (l : Letter) (s : State) → bound_l (reaction p l s).state.left ≤ bound_l s.left
reaction-bounded p l s = reaction-keeps (λ x. bound_l x ≤ bound_l s.left) (bound_l-kept (bound_l s.left)) p l s (omega arith)

pub reach-bounded : (p : Program) (s : State) → Reach p s → bound_l s.left ≤ bound p.term
unfolding bound_l
reach-bounded p s r = reach-keeps (λ x. bound_l x ≤ bound p.term) (bound_l-kept (bound p.term)) p s (omega arith) r

-- the parts that No. 18 counts
pub reach-parts : (p : Program) (s : State) → Reach p s → parts_of s.left ≤ bound p.term
reach-parts p s r = omega (arith, parts_of-bounded s.left, reach-bounded p s r)
