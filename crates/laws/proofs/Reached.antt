-- What holds in every reachable state of any program: nothing stored is armed, at the end memory and stopped set are empty, the memory lists
-- different standard events of the program, and the stopped set is a list of the program's modules in their order, so that the set determines it.
-- Each by induction on `Reach` from a law on one reaction; from them, the occurrences of which document 01 says that nothing changes change nothing.
-- Assumes nothing.
use Prim.Native.Nat.{ℕ, zero, suc}
use mathlib.Core.Path.{◌≡◌, refl, subst, sym, ◌∙◌}
use mathlib.Core.Bool.{Bool, true, false, cond, true≢false}
use mathlib.Core.List.{List, [], ◌∷◌, ◌++◌, map}
use mathlib.Core.Option.{none, some}
use mathlib.Core.Logic.{◌⊎◌, inl, inr, ⊎_elim}
use lib.Dec.{T, eqb, eqb_refl}
use lib.ListN.{length}
use Rattle.paper.specs.Lists.{has, without, keep}
use Rattle.paper.specs.Term.{Term, Left, gone, still}
use Rattle.paper.specs.Running.{armed, runs_l}
use Rattle.paper.specs.Rewriting.{Letter, completion, occurrence, completed, taken}
use Rattle.paper.specs.Settling.{Held, held, oldest, settle, settled}
use Rattle.paper.specs.Reaction.{Program, State, start_of, occurred, moved, order, stays, is_own, orders, stopped_after, reaction}
use Rattle.paper.specs.Discovery.{letters, Among, here, there, Reach, begin, next}
use Rattle.paper.proofs.Choices.{by-option}
use Rattle.paper.proofs.Settles.{Quiet, settled-quiet}
use Rattle.laws.proofs.Letters.{by_cond, false-not, has_here, has_there, has_more, has-without, Once, once-without, once_more, keep-none, keep_same, keep-own}

-- what holds of each of the three things that an occurrence can do holds of it: taken, nothing changes, appended
pub by-occurred : (p : Program) (e : ℕ) (t : Term) (m : List ℕ) (P : Held → Type 0) → P (settled (taken e t) m) → P (held (still t) m) → (has e p.fugitive ≡ false → has e m ≡ false → armed e t ≡ false → P (held (still t) (m ++ e ∷ []))) → P (occurred p e t m)
unfolding occurred
by-occurred p e t m P takes same adds =
    by_cond P (has e p.fugitive) _ _
    (λ f. by_cond P (armed e t) _ _ (λ a. takes) (λ a. same))
    (λ f. by_cond P (has e m) _ _ (λ h. same) (λ h. by_cond P (armed e t) _ _ (λ a. takes) (λ a. adds f h a)))

oldest-append : (t : Term) (m : List ℕ) (e : ℕ) → oldest t m ≡ none → armed e t ≡ false → oldest t (m ++ e ∷ []) ≡ none
unfolding oldest
oldest-append t [] e q a = rw a
oldest-append t (x ∷ m) e q a = go (armed x t) q (λ r. oldest-append t m e r a)
  where
    go : (b : Bool) → cond b (some x) (oldest t m) ≡ none → (oldest t m ≡ none → oldest t (m ++ e ∷ []) ≡ none) → cond b (some x) (oldest t (m ++ e ∷ [])) ≡ none
    go true r ih = r
    go false r ih = ih r

moved-quiet : (p : Program) (l : Letter) (r : Left) (m : List ℕ) → Quiet r m → Quiet (moved p l r m).left (moved p l r m).memory
unfolding moved
moved-quiet p (completion a) gone m q = q
moved-quiet p (occurrence e) gone m q = q
moved-quiet p (completion a) (still t) m q = settled-quiet (completed a t) m
moved-quiet p (occurrence e) (still t) m q =
    by-occurred p e t m (λ h. Quiet h.left h.memory) (settled-quiet (taken e t) m) q (λ f h a. oldest-append t m e q a)

-- nothing stored is armed
pub reach-quiet : (p : Program) (s : State) → Reach p s → Quiet s.left s.memory
unfolding reaction start_of oldest
reach-quiet p s begin = refl
reach-quiet p s (next {s = r} l a q k) = moved-quiet p l r.left r.memory (reach-quiet p r k)

stopped-end : (p : Program) (l : Letter) (s : State) (r : Left) → r ≡ gone → stopped_after p l s r ≡ []
unfolding stopped_after
stopped-end p l s r e = rw e

reach-emptied : (p : Program) (s : State) → Reach p s → s.left ≡ gone → s.stopped ≡ []
unfolding reaction start_of
reach-emptied p s begin e = refl
reach-emptied p s (next {s = r} l a q k) e = stopped-end p l r (moved p l r.left r.memory).left e

-- "A state is at its end when nothing is left of the term; then memory and stopped set are empty."
pub reach-end : (p : Program) (s : State) → Reach p s → s.left ≡ gone → (s.memory ≡ []) × (s.stopped ≡ [])
reach-end p s k e = (subst (λ (r : Left). Quiet r s.memory) e (reach-quiet p s k), reach-emptied p s k e)

-- an event among the letters is an event of the program
pub among-cons : (l k : Letter) (ls : List Letter) → Among l (k ∷ ls) → (l ≡ k) ⊎ Among l ls
among-cons l k ls here = inl refl
among-cons l k ls (there a) = inr a

pub among-event : (e : ℕ) (ms es : List ℕ) → Among (occurrence e) (map (λ m. completion m) ms ++ map (λ x. occurrence x) es) → T (has e es)
among-event e [] [] a = elim a [ ]
among-event e [] (x ∷ es) a =
    ⊎_elim (λ q. has_here e x es (subst (λ (y : ℕ). T (eqb e y)) (cc) (eqb_refl e)))
    (λ b. has_there e x es (among-event e [] es b))
    (among-cons (occurrence e) (occurrence x) (map (λ y. occurrence y) es) a)
among-event e (m ∷ ms) es a =
    ⊎_elim (λ q. absurd (true≢false (cc))) (λ b. among-event e ms es b)
    (among-cons (occurrence e) (completion m) (map (λ n. completion n) ms ++ map (λ y. occurrence y) es) a)

-- settling keeps what losing an event keeps
settle-keeps : (P : List ℕ → Type 0) → P [] → ((e : ℕ) (m : List ℕ) → P m → P (without e m)) → (n : ℕ) (r : Left) (m : List ℕ) → P m → P (settle n r m).memory
unfolding settle
settle-keeps P z w zero gone m h = z
settle-keeps P z w (suc n) gone m h = z
settle-keeps P z w zero (still t) m h = h
settle-keeps P z w (suc n) (still t) m h =
    by-option (λ x. P x.memory) (oldest t m) (λ u. held (still t) m) (λ e. settle n (taken e t) (without e m)) (λ q. h)
    (λ e q. settle-keeps P z w n (taken e t) (without e m) (w e m h))

-- a memory: no event twice, each an event of the program and not a fugitive one
abbrev pub Memory : Program → List ℕ → Type 0
Memory p m = Once m × ((e : ℕ) → T (has e m) → T (has e p.events) × (has e p.fugitive ≡ false))

pub memory-none : (p : Program) → Memory p []
unfolding Once has
memory-none p = (tt, λ e h. absurd h)

memory-without : (p : Program) (e : ℕ) (m : List ℕ) → Memory p m → Memory p (without e m)
memory-without p e m h = (once-without e m h.0, λ x k. h.1 x (has-without x e m k))

memory-more : (p : Program) (e : ℕ) (m : List ℕ) → Memory p m → T (has e p.events) → has e p.fugitive ≡ false → has e m ≡ false → Memory p (m ++ e ∷ [])
memory-more p e m h a f n = (
  once_more e m h.0 (false-not (has e m) n),
  λ x k. ⊎_elim (h.1 x) (λ q. subst (λ (y : ℕ). T (has y p.events) × (has y p.fugitive ≡ false)) (sym q) (a, f)) (has_more x e m k),
)

pub moved-memory : (p : Program) (l : Letter) (r : Left) (m : List ℕ) → Among l (letters p) → Memory p m → Memory p (moved p l r m).memory
unfolding moved letters settled
moved-memory p (completion c) gone m a h = h
moved-memory p (occurrence e) gone m a h = h
moved-memory p (completion c) (still t) m a h =
    settle-keeps (Memory p) (memory-none p) (memory-without p) (length m) (completed c t) m h
moved-memory p (occurrence e) (still t) m a h =
    by-occurred p e t m (λ x. Memory p x.memory)
    (settle-keeps (Memory p) (memory-none p) (memory-without p) (length m) (taken e t) m h)
    h
    (λ f n u. memory-more p e m h (among-event e p.modules p.events a) f n)

-- "The memory lists different standard events"
pub reach-memory : (p : Program) (s : State) → Reach p s → Memory p s.memory
unfolding reaction start_of
reach-memory p s begin = memory-none p
reach-memory p s (next {s = r} l a q k) = moved-memory p l r.left r.memory a (reach-memory p r k)

-- the set is the program's modules that stand in it, in their order
abbrev pub Own : Program → List ℕ → Type 0
Own p ms = ms ≡ keep (λ m. has m ms) p.modules

pub own-none : (p : Program) → Own p []
unfolding has
own-none p = sym (keep-none p.modules)

pub stopped-own : (p : Program) (l : Letter) (s : State) (r : Left) → Own p (stopped_after p l s r)
unfolding stopped_after
stopped-own p l s gone = own-none p
stopped-own p l s (still t) = sym (keep-own (λ m. stays (is_own l m) (runs_l m s.left) (runs_l m (still t)) (has m s.stopped)) p.modules)

pub reach-stopped : (p : Program) (s : State) → Reach p s → s.stopped ≡ keep (λ m. has m s.stopped) p.modules
unfolding reaction start_of
reach-stopped p s begin = own-none p
reach-stopped p s (next {s = r} l a q k) = stopped-own p l r (moved p l r.left r.memory).left

-- the list is determined by the set
pub stopped-same : (p : Program) (s t : State) → Reach p s → Reach p t → ((m : ℕ) → T (has m p.modules) → has m s.stopped ≡ has m t.stopped) → s.stopped ≡ t.stopped
stopped-same p s t j k h =
    reach-stopped p s j ∙ keep_same (λ m. has m s.stopped) (λ m. has m t.stopped) p.modules h ∙ sym (reach-stopped p t k)

-- the occurrences at which "nothing changes": at the end, a fugitive event that is not armed, a stored one
pub data Idle (p : Program) (s : State) : ℕ → Type 0 where
  at_end : {e : ℕ} → s.left ≡ gone → Idle p s e
  unarmed : {e : ℕ} {t : Term} → s.left ≡ still t → has e p.fugitive ≡ true → armed e t ≡ false → Idle p s e
  again : {e : ℕ} → has e p.fugitive ≡ false → has e s.memory ≡ true → Idle p s e

moved-idle : (p : Program) (s : State) (e : ℕ) → Idle p s e → moved p (occurrence e) s.left s.memory ≡ held s.left s.memory
unfolding moved occurred
moved-idle p s e (at_end q) = rw q
moved-idle p s e (unarmed q f a) = rw (q, f, a)
moved-idle p s e (again f h) = go s.left
  where
    go : (r : Left) → moved p (occurrence e) r s.memory ≡ held r s.memory
    go gone = refl
    go (still t) = rw (f, h)

stays_same : (b c : Bool) → stays false b b c ≡ c
unfolding stays
stays_same true c = refl
stays_same false c = refl

order_same : (b c : Bool) → order false b b c ≡ 0
unfolding order
order_same true c = refl
order_same false c = refl

stopped-idle : (p : Program) (s : State) (e : ℕ) → Reach p s → (r : Left) → s.left ≡ r → stopped_after p (occurrence e) s r ≡ s.stopped
unfolding stopped_after
stopped-idle p s e k gone q = sym (reach-end p s k q).1
stopped-idle p s e k (still t) q =
    keep_same _ (λ m. has m s.stopped) p.modules (λ m h. rw q (stays_same (runs_l m (still t)) (has m s.stopped)))
    ∙ sym (reach-stopped p s k)

-- nothing changes, and every order is 0
pub reaction-idle : (p : Program) (s : State) (e : ℕ) → Reach p s → Idle p s e → ((reaction p (occurrence e) s).state ≡ s) × ((reaction p (occurrence e) s).does ≡ map (λ m. 0) p.modules)
unfolding reaction orders
reaction-idle p s e k h =
    rw (moved-idle p s e h)
    (λ i. record { left = s.left; memory = s.memory; stopped = same i }, λ i. map (λ m. order_same (runs_l m s.left) (has m s.stopped) i) p.modules)
  where
    same : stopped_after p (occurrence e) s s.left ≡ s.stopped
    same = stopped-idle p s e k s.left refl
