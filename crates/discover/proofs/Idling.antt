-- Occurrences at which nothing changes: in every state of the written set, so that they lead to the state itself, with no orders. And how the code sees
-- them.
-- Assumes nothing.
use Prim.Native.Nat.{ℕ, zero, suc, ◌+◌, ◌≤◌, ◌<◌}
use mathlib.Core.Path.{◌≡◌, refl, sym, ap, subst, ◌∙◌}
use mathlib.Core.Bool.{Bool, true, false, ◌||◌}
use mathlib.Core.List.{List, [], ◌∷◌, ◌++◌, map}
use native.Mathlib.Omega.{arith}
use lib.ListN.{length, take, drop, replicate}
use Rattle.paper.specs.Lists.{has}
use Rattle.paper.specs.Term.{Left, gone, still}
use Rattle.paper.specs.Running.{armed, runs_l}
use Rattle.paper.specs.Rewriting.{Letter, occurrence}
use Rattle.paper.specs.Settling.{held}
use Rattle.paper.specs.Reaction.{Program, State, possible, occurred, moved, order, stays, orders, stopped_after, reaction}
use Rattle.paper.specs.Calls.{eight}
use Rattle.laws.proofs.Letters.{keep_same}
use Rattle.laws.proofs.Reached.{Idle, at_end, unarmed, again}
use Rattle.words.specs.Word.{terms, any_armed}
use Rattle.words.specs.Pieces.{top}
use Rattle.rewrite.specs.Steps.{Stands}
use Rattle.rewrite.specs.Stored.{stored}
use Rattle.rewrite.proofs.Standing.{state-still, state-gone, state-terms}
use Rattle.react.specs.declared.State.{State as Kept}
use Rattle.react.specs.States.{state_of}
use Rattle.coding.specs.Written.{Written}
use Rattle.coding.proofs.Fit.{Fit}
use Rattle.emit.specs.Entries.{orders_from}
use Rattle.discover.specs.Finding.{Numbered, Idles, Seen, Arrives}
use Rattle.discover.proofs.Arriving.{arrives_back}

-- ---- nothing changes

moved-idle : (p : Program) (s : State) (e : ℕ) → Idle p s e → moved p (occurrence e) s.left s.memory ≡ held s.left s.memory
unfolding moved occurred
moved-idle p s e (at_end q) = rw q
moved-idle p s e (unarmed q f a) = rw (q, f, a)
moved-idle p s e (again f h) = go s.left
  where
    go : (r : Left) → moved p (occurrence e) r s.memory ≡ held r s.memory
    go gone = refl
    go (still t) = rw (f, h)

stays_same : (b c : Bool) → stays false b b c ≡ c
unfolding stays
stays_same true c = refl
stays_same false c = refl

order_same : (b c : Bool) → order false b b c ≡ 0
unfolding order
order_same true c = refl
order_same false c = refl

stopped-idle : (p : Program) (s : State) (e : ℕ) → Written p s → (r : Left) → s.left ≡ r → stopped_after p (occurrence e) s r ≡ s.stopped
unfolding stopped_after
stopped-idle p s e w gone q = sym (w.ended q).1
stopped-idle p s e w (still t) q =
    keep_same _ (λ m. has m s.stopped) p.modules (λ m h. rw q (stays_same (runs_l m (still t)) (has m s.stopped)))
    ∙ sym w.stopped

reaction-idle : (p : Program) (s : State) (e : ℕ) → Written p s → Idle p s e → ((reaction p (occurrence e) s).state ≡ s) × ((reaction p (occurrence e) s).does ≡ map (λ m. 0) p.modules)
unfolding reaction orders
reaction-idle p s e w h =
    rw (moved-idle p s e h)
    (λ i. record { left = s.left; memory = s.memory; stopped = same i }, λ i. map (λ m. order_same (runs_l m s.left) (has m s.stopped) i) p.modules)
  where
    same : stopped_after p (occurrence e) s s.left ≡ s.stopped
    same = stopped-idle p s e w s.left refl

-- no order to any module
no-orders : (n : ℕ) (ms : List ℕ) (m : ℕ) → n ≤ m → take {A = ℕ} n (map (λ x. 0) ms ++ replicate m 0) ≡ replicate n 0
no-orders zero ms m h = refl
no-orders (suc n) [] zero h = absurd (omega arith)
no-orders (suc n) [] (suc m) h = ap (λ (l : List ℕ). 0 ∷ l) (no-orders n [] m (omega arith))
no-orders (suc n) (x ∷ ms) m h = ap (λ (l : List ℕ). 0 ∷ l) (no-orders n ms m (omega arith))

-- the letter leads to the state itself
module _ (q : Program) (f : Fit q) (x : State) (w : Written q x) (ss : List State) (k : ℕ) (i : Numbered x ss k) (K X : List ℕ) (seen : Seen q K X ss) where
  back : (e : ℕ) → Idle q x e → (c b : ℕ) → length ss ≡ c → b ≡ orders_from (512 + k) (replicate 8 0) → Arrives q x (occurrence e) ss K X (record { over = false; count = c; entry = b })
  unfolding possible
  back e h c b n z =
      let r = reaction-idle q x e w h in
      arrives_back q f x (occurrence e) ss K X seen refl r.0 k i (replicate 8 0) (sym (ap eight r.1 ∙ no-orders 8 q.modules 8 (omega arith))) c b n z

  pub idle-back : (l : Letter) → Idles q x l → (c b : ℕ) → length ss ≡ c → b ≡ orders_from (512 + k) (replicate 8 0) → Arrives q x l ss K X (record { over = false; count = c; entry = b })
  idle-back l h c b n z = subst (λ (y : Letter). Arrives q x y ss K X (record { over = false; count = c; entry = b })) (sym h.1) (back h.0 h.2 c b n z)

-- ---- how it is seen

or-none : (b : Bool) → (b || false) ≡ b
or-none true = refl
or-none false = refl

module _ {P W : List ℕ} (x : Kept) (st : Stands P W x.start) (q : Program) (e : ℕ) (ms : List ℕ) where
  pub idle-end : 96 ≤ x.start → Idle q (state_of P W ms x) e
  idle-end h = at_end (state-gone st h)

  pub idle-fugitive : x.start < 96 → has e q.fugitive ≡ true → any_armed e (terms P (drop x.start W)) ≡ false → Idle q (state_of P W ms x) e
  unfolding any_armed
  idle-fugitive h f a = unarmed (state-still st h) f (sym (ap (any_armed e) (state-terms st h) ∙ or-none (armed e (top P W x.start))) ∙ a)

  pub idle-stored : has e q.fugitive ≡ false → has e (stored x.memory) ≡ true → Idle q (state_of P W ms x) e
  idle-stored f h = again f h
