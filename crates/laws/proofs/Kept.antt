-- What no rewriting breaks holds in every reachable state. Settling is one taking after the other, and a reaction rewrites and settles, or leaves
-- the term; so a property of what is left that every rewriting keeps is kept by both, and along every path from the start.
-- Assumes nothing.
use Prim.Native.Nat.{ℕ, zero, suc}
use mathlib.Core.Bool.{Bool, true, false, cond}
use mathlib.Core.List.{List}
use lib.ListN.{length}
use Rattle.paper.specs.Lists.{has, without}
use Rattle.paper.specs.Term.{Term, Intr, Left, One, Act, gone, still}
use Rattle.paper.specs.Running.{armed}
use Rattle.paper.specs.Rewriting.{Letter, completion, occurrence, strikes, hit, rewritten, completed, taken}
use Rattle.paper.specs.Settling.{Held, held, oldest, settle, settled}
use Rattle.paper.specs.Reaction.{Program, State, start_of, occurred, moved, reaction}
use Rattle.paper.specs.Discovery.{Reach, begin, next}
use Rattle.paper.proofs.Choices.{by-option}

-- what holds of both branches holds of the choice
pub both_ways : {A : Type 0} (P : A → Type 0) (b : Bool) (x y : A) → P x → P y → P (cond b x y)
both_ways P true x y h k = h
both_ways P false x y h k = k

-- a side I of a struck `||`: what is left of it, or `1/I`
abbrev pub side_l : Letter → Intr → Left
side_l l i = cond (strikes l i) (hit l i) (still (Act One i))

-- every rewriting keeps P
module _ (P : Left → Type 0) (kept : (l : Letter) (t : Term) → P (still t) → P (rewritten l t)) where
  settle-keeps : (n : ℕ) (r : Left) (m : List ℕ) → P r → P (settle n r m).left
  unfolding settle
  settle-keeps zero gone m h = h
  settle-keeps (suc n) gone m h = h
  settle-keeps zero (still t) m h = h
  settle-keeps (suc n) (still t) m h =
      by-option (λ x. P x.left) (oldest t m) (λ u. held (still t) m) (λ e. settle n (taken e t) (without e m)) (λ o. h)
      (λ e o. settle-keeps n (taken e t) (without e m) (kept (occurrence e) t h))

  pub settled-keeps : (r : Left) (m : List ℕ) → P r → P (settled r m).left
  unfolding settled
  settled-keeps r m h = settle-keeps (length m) r m h

  -- an event is taken, or the term stays
  occurred-keeps : (p : Program) (e : ℕ) (t : Term) (m : List ℕ) → P (still t) → P (occurred p e t m).left
  unfolding occurred
  occurred-keeps p e t m h =
      let now = settled-keeps (taken e t) m (kept (occurrence e) t h) in
      ways (has e p.fugitive) _ _ (ways (armed e t) _ _ now h) (ways (has e m) _ _ h (ways (armed e t) _ _ now h))
    where
      ways : (b : Bool) (x y : Held) → P x.left → P y.left → P (cond b x y).left
      ways = both_ways (λ z. P z.left)

  moved_keeps : (p : Program) (l : Letter) (r : Left) (m : List ℕ) → P r → P (moved p l r m).left
  unfolding moved
  moved_keeps p (completion a) gone m h = h
  moved_keeps p (occurrence e) gone m h = h
  moved_keeps p (completion a) (still t) m h = settled-keeps (completed a t) m (kept (completion a) t h)
  moved_keeps p (occurrence e) (still t) m h = occurred-keeps p e t m h

  pub reaction-keeps : (p : Program) (l : Letter) (s : State) → P s.left → P (reaction p l s).state.left
  unfolding reaction
  reaction-keeps p l s h = moved_keeps p l s.left s.memory h

  pub reach-keeps : (p : Program) (s : State) → P (still p.term) → Reach p s → P s.left
  unfolding start_of
  reach-keeps p s h begin = h
  reach-keeps p s h (next {s = t} l a o r) = reaction-keeps p l t (reach-keeps p t h r)
