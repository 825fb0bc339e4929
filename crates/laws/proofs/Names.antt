-- No rule brings in a name: a module or an event of what is left was in the term before, so reachable states have only names of the program.
-- By cases of the term, for any test of names at once: what a rule joins again are parts that were joined before.
-- What runs and what is armed occurs. Assumes nothing.
use Prim.Native.Nat.{ℕ}
use mathlib.Core.Bool.{Bool, true, false, ◌||◌}
use mathlib.Core.List.{List}
use lib.Dec.{T, eqb}
use Rattle.paper.specs.Term.{Term, Intr, Left, Mod, One, Seq, Par, Star, Act, Event, Treat, Either, Both, gone, still, eq_t}
use Rattle.paper.specs.Running.{runs, heads, armed}
use Rattle.paper.specs.Rewriting.{Letter, ends, strikes, seq_l, par_l, act_l, star_l, hit, rewritten}
use Rattle.paper.specs.Settling.{settled}
use Rattle.paper.specs.Reaction.{Program, State, reaction}
use Rattle.paper.specs.Discovery.{Reach}
use Rattle.laws.specs.Names.{uses, uses_i, uses_l, nowhere, uses_module, uses_module_l, uses_event, uses_event_i, uses_event_l}
use Rattle.laws.proofs.Kept.{both_ways, side_l, settled-keeps, reaction-keeps, reach-keeps}

pub or-in-left : (a b : Bool) → T a → T (a || b)
or-in-left true b t = tt
or-in-left false b t = absurd t

pub or-in-right : (a b : Bool) → T b → T (a || b)
or-in-right true b t = tt
or-in-right false b t = t

pub or-each : (a b c : Bool) → (T a → T c) → (T b → T c) → T (a || b) → T c
or-each true b c f g t = f tt
or-each false b c f g t = g t

-- side by side
pub or-both : (a b c d : Bool) → (T a → T c) → (T b → T d) → T (a || b) → T (c || d)
or-both a b c d f g t = or-each a b (c || d) (λ u. or-in-left c d (f u)) (λ u. or-in-right c d (g u)) t

module _ (f g : ℕ → Bool) where
  -- if a name in r passes, c holds
  abbrev From : Left → Bool → Type 0
  From r c = T (uses_l f g r) → T c

  seq_l-names : (r : Left) (x y : Term) → From r (uses f g x) → From (seq_l r y) (uses f g (Seq x y))
  unfolding uses uses_l
  seq_l-names gone x y h t = or-in-right (uses f g x) (uses f g y) t
  seq_l-names (still x') x y h t = or-both (uses f g x') (uses f g y) (uses f g x) (uses f g y) h (λ u. u) t

  par_l-names : (r s : Left) (c d : Bool) → From r c → From s d → From (par_l r s) (c || d)
  unfolding uses uses_l
  par_l-names gone s c d h k t = or-in-right c d (k t)
  par_l-names (still x) gone c d h k t = or-in-left c d (h t)
  par_l-names (still x) (still y) c d h k t = or-both (uses f g x) (uses f g y) c d h k t

  act_l-names : (r : Left) (x : Term) (i : Intr) → From r (uses f g x) → From (act_l r i) (uses f g (Act x i))
  unfolding uses uses_l
  act_l-names gone x i h t = absurd t
  act_l-names (still x') x i h t = or-both (uses_i f g i) (uses f g x') (uses_i f g i) (uses f g x) (λ u. u) h t

  star_l-names : (r : Left) (x : Term) → From r (uses f g x) → From (star_l r x) (uses f g (Star x))
  unfolding uses uses_l star_l
  star_l-names gone x h = λ t. t
  star_l-names (still x') x h =
      both_ways (λ z. From z (uses f g x)) (eq_t x' x) (still (Star x)) (still (Seq x' (Star x))) (λ t. t)
      (or-each (uses f g x') (uses f g x) (uses f g x) h (λ u. u))

  side_l-names : (l : Letter) (i : Intr) → From (hit l i) (uses_i f g i) → From (side_l l i) (uses_i f g i)
  unfolding uses uses_l
  side_l-names l i h =
      both_ways (λ z. From z (uses_i f g i)) (strikes l i) (hit l i) (still (Act One i)) h
      (or-each (uses_i f g i) false (uses_i f g i) (λ u. u) (λ u. absurd u))

  pub hit-names : (l : Letter) (i : Intr) → T (uses_l f g (hit l i)) → T (uses_i f g i)
  unfolding uses uses_l hit
  hit-names l (Event e) = λ u. absurd u
  hit-names l (Treat e x) = or-in-right (g e) (uses f g x)
  hit-names l (Either i j) =
      both_ways (λ z. From z (uses_i f g i || uses_i f g j)) (strikes l i) (hit l i) (hit l j)
      (λ u. or-in-left (uses_i f g i) (uses_i f g j) (hit-names l i u)) (λ u. or-in-right (uses_i f g i) (uses_i f g j) (hit-names l j u))
  hit-names l (Both i j) =
      par_l-names (side_l l i) (side_l l j) (uses_i f g i) (uses_i f g j) (side_l-names l i (hit-names l i)) (side_l-names l j (hit-names l j))

  pub rewritten-names : (l : Letter) (t : Term) → T (uses_l f g (rewritten l t)) → T (uses f g t)
  unfolding uses uses_l rewritten
  rewritten-names l (Mod n) = both_ways (λ z. From z (f n)) (ends l n) gone (still (Mod n)) (λ u. absurd u) (λ u. u)
  rewritten-names l One = λ u. u
  rewritten-names l (Seq x y) = seq_l-names (rewritten l x) x y (rewritten-names l x)
  rewritten-names l (Par x y) = par_l-names (rewritten l x) (rewritten l y) (uses f g x) (uses f g y) (rewritten-names l x) (rewritten-names l y)
  rewritten-names l (Star x) = star_l-names (rewritten l x) x (rewritten-names l x)
  rewritten-names l (Act x i) =
      both_ways (λ z. From z (uses f g (Act x i))) (strikes l i) (hit l i) (act_l (rewritten l x) i)
      (λ u. or-in-left (uses_i f g i) (uses f g x) (hit-names l i u)) (act_l-names (rewritten l x) x i (rewritten-names l x))

  -- "if a name passes, c holds" is kept
  uses_l-kept : (c : Bool) (l : Letter) (t : Term) → From (still t) c → From (rewritten l t) c
  unfolding uses_l
  uses_l-kept c l t h u = h (rewritten-names l t u)

  pub settled-names : (r : Left) (m : List ℕ) → T (uses_l f g (settled r m).left) → T (uses_l f g r)
  settled-names r m = settled-keeps (λ x. From x (uses_l f g r)) (uses_l-kept (uses_l f g r)) r m (λ u. u)

  pub reaction-names : (p : Program) (l : Letter) (s : State) → T (uses_l f g (reaction p l s).state.left) → T (uses_l f g s.left)
  reaction-names p l s = reaction-keeps (λ x. From x (uses_l f g s.left)) (uses_l-kept (uses_l f g s.left)) p l s (λ u. u)

  pub reach-names : (p : Program) (s : State) → Reach p s → T (uses_l f g s.left) → T (uses f g p.term)
  unfolding uses_l
  reach-names p s r = reach-keeps (λ x. From x (uses f g p.term)) (uses_l-kept (uses f g p.term)) p s (λ u. u) r

-- for each kind of name
pub reach-module : (m : ℕ) (p : Program) (s : State) → Reach p s → T (uses_module_l m s.left) → T (uses_module m p.term)
reach-module m = reach-names (eqb m) nowhere

pub reach-event : (e : ℕ) (p : Program) (s : State) → Reach p s → T (uses_event_l e s.left) → T (uses_event e p.term)
reach-event e = reach-names nowhere (eqb e)

-- a module that runs occurs
pub runs-used : (m : ℕ) (t : Term) → T (runs m t) → T (uses_module m t)
unfolding runs uses
runs-used m (Mod n) t = t
runs-used m One t = t
runs-used m (Seq x y) t = or-in-left (uses_module m x) (uses_module m y) (runs-used m x t)
runs-used m (Star x) t = runs-used m x t
runs-used m (Act x i) t = or-in-right (uses_i (eqb m) nowhere i) (uses_module m x) (runs-used m x t)
runs-used m (Par x y) t = or-both (runs m x) (runs m y) (uses_module m x) (uses_module m y) (runs-used m x) (runs-used m y) t

pub heads-used : (e : ℕ) (i : Intr) → T (heads e i) → T (uses_event_i e i)
unfolding heads uses
heads-used e (Event n) t = t
heads-used e (Treat n x) t = or-in-left (eqb e n) (uses_event e x) t
heads-used e (Either i j) t = or-both (heads e i) (heads e j) (uses_event_i e i) (uses_event_i e j) (heads-used e i) (heads-used e j) t
heads-used e (Both i j) t = or-both (heads e i) (heads e j) (uses_event_i e i) (uses_event_i e j) (heads-used e i) (heads-used e j) t

-- an event that is armed occurs
pub armed-used : (e : ℕ) (t : Term) → T (armed e t) → T (uses_event e t)
unfolding armed uses
armed-used e (Mod n) t = absurd t
armed-used e One t = t
armed-used e (Seq x y) t = or-in-left (uses_event e x) (uses_event e y) (armed-used e x t)
armed-used e (Star x) t = armed-used e x t
armed-used e (Act x i) t = or-both (heads e i) (armed e x) (uses_event_i e i) (uses_event e x) (heads-used e i) (armed-used e x) t
armed-used e (Par x y) t = or-both (armed e x) (armed e y) (uses_event e x) (uses_event e y) (armed-used e x) (armed-used e y) t
