-- No rule raises the weight, so in every reachable state it is at most the program's.
-- By cases of the term, one small lemma for each way in which a rule joins what is left: a join weighs no less than what may take its place.
-- Assumes nothing.
use Prim.Native.Nat.{ℕ, ◌+◌, ◌≤◌, max}
use mathlib.Core.Bool.{Bool, cond}
use mathlib.Core.List.{List}
use native.Mathlib.Omega.{arith}
use Rattle.paper.specs.Term.{Term, Intr, Left, Mod, One, Seq, Par, Star, Act, Event, Treat, Either, Both, gone, still, eq_t}
use Rattle.paper.specs.Rewriting.{Letter, ends, strikes, seq_l, par_l, act_l, star_l, hit, rewritten}
use Rattle.paper.specs.Settling.{settled}
use Rattle.paper.specs.Reaction.{Program, State, reaction}
use Rattle.paper.specs.Discovery.{Reach}
use Rattle.laws.specs.Weight.{weight, weight_i, weight_l}
use Rattle.laws.proofs.Kept.{both_ways, side_l, settled-keeps, reaction-keeps, reach-keeps}

-- a choice weighs no more than n where both branches do
cond-weighs : (b : Bool) (r s : Left) (n : ℕ) → weight_l r ≤ n → weight_l s ≤ n → weight_l (cond b r s) ≤ n
cond-weighs b r s n h k = both_ways (λ x. weight_l x ≤ n) b r s h k

seq_l-weighs : (r : Left) (x y : Term) → weight_l r ≤ weight x → weight_l (seq_l r y) ≤ weight (Seq x y)
unfolding weight weight_l
seq_l-weighs gone x y h = omega arith
seq_l-weighs (still x') x y h = omega arith

par_l-weighs : (r s : Left) (m n : ℕ) → weight_l r ≤ max 1 m → weight_l s ≤ max 1 n → weight_l (par_l r s) ≤ max 1 m + max 1 n + 1
unfolding weight weight_l
par_l-weighs gone s m n h k = omega arith
par_l-weighs (still x) gone m n h k = omega arith
par_l-weighs (still x) (still y) m n h k = omega arith

act_l-weighs : (r : Left) (x : Term) (i : Intr) → weight_l r ≤ weight x → weight_l (act_l r i) ≤ weight (Act x i)
unfolding weight weight_l
act_l-weighs gone x i h = omega arith
act_l-weighs (still x') x i h = omega arith

star_l-weighs : (r : Left) (x : Term) → weight_l r ≤ weight x → weight_l (star_l r x) ≤ weight (Star x)
unfolding weight weight_l star_l
star_l-weighs gone x h = omega arith
star_l-weighs (still x') x h =
    cond-weighs (eq_t x' x) (still (Star x)) (still (Seq x' (Star x))) (weight (Star x)) (omega arith) (omega arith)

side_l-weighs : (l : Letter) (i : Intr) → weight_l (hit l i) ≤ weight_i i → weight_l (side_l l i) ≤ max 1 (weight_i i)
unfolding weight weight_l
side_l-weighs l i h = cond-weighs (strikes l i) (hit l i) (still (Act One i)) (max 1 (weight_i i)) (omega arith) (omega arith)

pub hit-weighs : (l : Letter) (i : Intr) → weight_l (hit l i) ≤ weight_i i
unfolding weight weight_l hit
hit-weighs l (Event f) = omega arith
hit-weighs l (Treat f t) = omega arith
hit-weighs l (Either i j) =
    cond-weighs (strikes l i) (hit l i) (hit l j) (max (weight_i i) (weight_i j)) (omega (arith, hit-weighs l i)) (omega (arith, hit-weighs l j))
hit-weighs l (Both i j) =
    par_l-weighs (side_l l i) (side_l l j) (weight_i i) (weight_i j) (side_l-weighs l i (hit-weighs l i)) (side_l-weighs l j (hit-weighs l j))

pub rewritten-weighs : (l : Letter) (t : Term) → weight_l (rewritten l t) ≤ weight t
unfolding weight weight_l rewritten
rewritten-weighs l (Mod n) = cond-weighs (ends l n) gone (still (Mod n)) 1 (omega arith) (omega arith)
rewritten-weighs l One = omega arith
rewritten-weighs l (Seq x y) = seq_l-weighs (rewritten l x) x y (rewritten-weighs l x)
rewritten-weighs l (Par x y) =
    par_l-weighs (rewritten l x) (rewritten l y) (weight x) (weight y) (omega (arith, rewritten-weighs l x)) (omega (arith, rewritten-weighs l y))
rewritten-weighs l (Star x) = star_l-weighs (rewritten l x) x (rewritten-weighs l x)
rewritten-weighs l (Act x i) =
    cond-weighs (strikes l i) (hit l i) (act_l (rewritten l x) i) (weight (Act x i)) (omega (arith, hit-weighs l i))
    (act_l-weighs (rewritten l x) x i (rewritten-weighs l x))

-- "weighs at most n" is kept
weight_l-kept : (n : ℕ) (l : Letter) (t : Term) → weight_l (still t) ≤ n → weight_l (rewritten l t) ≤ n
unfolding weight_l
weight_l-kept n l t h = omega (arith, rewritten-weighs l t)

pub settled-weighs : (r : Left) (m : List ℕ) → weight_l (settled r m).left ≤ weight_l r
settled-weighs r m = settled-keeps (λ x. weight_l x ≤ weight_l r) (weight_l-kept (weight_l r)) r m (omega arith)

pub reaction-weighs : (p : Program) (l : Letter) (s : State) → weight_l (reaction p l s).state.left ≤ weight_l s.left
reaction-weighs p l s = reaction-keeps (λ x. weight_l x ≤ weight_l s.left) (weight_l-kept (weight_l s.left)) p l s (omega arith)

pub reach-weighs : (p : Program) (s : State) → Reach p s → weight_l s.left ≤ weight p.term
unfolding weight_l
reach-weighs p s r = reach-keeps (λ x. weight_l x ≤ weight p.term) (weight_l-kept (weight p.term)) p s (omega arith) r
