-- The rules are deterministic and total, and no reachable state is stuck. `Steps` says sentence by sentence of document 01 what a state answers to a
-- letter; by cases of each sentence's condition every state and letter have exactly one answer, the one of `reaction`, and from a reachable state
-- it leads to a reachable one. The last law counts the takings of one reaction: one more than the stored events at most.
-- Assumes nothing.
use Prim.Native.Nat.{ℕ, suc, ◌≤◌}
use mathlib.Core.Path.{◌≡◌, refl, subst, sym, ◌∙◌}
use mathlib.Core.Bool.{Bool, true, false, cond, true≢false}
use mathlib.Core.List.{List, ◌∷◌, [], ◌++◌}
use native.Mathlib.Omega.{arith}
use lib.Dec.{T, T_not}
use lib.ListN.{length}
use Rattle.paper.specs.Lists.{choose, has}
use Rattle.paper.specs.File.{Answer, refused, accepted}
use Rattle.paper.specs.Term.{Term, Left, gone, still}
use Rattle.paper.specs.Running.{armed, runs, runs_l}
use Rattle.paper.specs.Rewriting.{Letter, completion, occurrence, completed, taken}
use Rattle.paper.specs.Settling.{Held, held, settled}
use Rattle.paper.specs.Reaction.{Program, State, possible, occurred, moved, orders, stopped_after, Reacted, reaction}
use Rattle.paper.specs.Discovery.{letters, Among, Reach, next}
use Rattle.paper.proofs.Choices.{by-test}
use Rattle.paper.proofs.Settles.{takings, takings-few}
use Rattle.paper.proofs.Stays.{T_true}
use Rattle.laws.proofs.Letters.{by_cond}

-- No. 22: "completion of a module not running"; no place is named
abbrev pub not_running : Answer Reacted
not_running = refused 22 0

-- the answer when the term and the memory end as h: stopped set and orders "compare before and after the whole reaction"
abbrev pub ending : Program → Letter → State → Held → Answer Reacted
ending p l s h =
    accepted
    (record { state = record { left = h.left; memory = h.memory; stopped = stopped_after p l s h.left }; does = orders p l s h.left })

pub data Steps (p : Program) (s : State) : Letter → Answer Reacted → Type 0 where
  -- "Completion of a (only if it runs)." "Settling follows each taking and each completion."
  completes : {a : ℕ} {t : Term} → s.left ≡ still t → T (runs a t) → Steps p s (completion a) (ending p (completion a) s (settled (completed a t) s.memory))
  refuses : {a : ℕ} → (T (runs_l a s.left) → ⊥) → Steps p s (completion a) not_running
  -- "At the end: nothing changes."
  ended : {e : ℕ} → s.left ≡ gone → Steps p s (occurrence e) (ending p (occurrence e) s (held gone s.memory))
  -- "Fugitive: taken if armed, else nothing; never stored."
  caught : {e : ℕ} {t : Term} → s.left ≡ still t → has e p.fugitive ≡ true → armed e t ≡ true → Steps p s (occurrence e) (ending p (occurrence e) s (settled (taken e t) s.memory))
  missed : {e : ℕ} {t : Term} → s.left ≡ still t → has e p.fugitive ≡ true → armed e t ≡ false → Steps p s (occurrence e) (ending p (occurrence e) s (held (still t) s.memory))
  -- "Standard: if already stored, nothing changes; else it is taken if armed, or appended to the memory."
  stored : {e : ℕ} {t : Term} → s.left ≡ still t → has e p.fugitive ≡ false → has e s.memory ≡ true → Steps p s (occurrence e) (ending p (occurrence e) s (held (still t) s.memory))
  served : {e : ℕ} {t : Term} → s.left ≡ still t → has e p.fugitive ≡ false → has e s.memory ≡ false → armed e t ≡ true → Steps p s (occurrence e) (ending p (occurrence e) s (settled (taken e t) s.memory))
  appended : {e : ℕ} {t : Term} → s.left ≡ still t → has e p.fugitive ≡ false → has e s.memory ≡ false → armed e t ≡ false → Steps p s (occurrence e) (ending p (occurrence e) s (held (still t) (s.memory ++ e ∷ [])))

-- the same as a function
unfoldable pub answer : Program → State → Letter → Answer Reacted
answer p s l = choose (possible l s) (λ u. accepted (reaction p l s)) (λ u. not_running)

module _ (p : Program) (s : State) where
  completion-some : (a : ℕ) (r : Left) → s.left ≡ r → Steps p s (completion a) (choose (runs_l a r) (λ u. ending p (completion a) s (moved p (completion a) r s.memory)) (λ u. not_running))
  unfolding moved runs_l
  completion-some a gone q = refuses {a = a} (λ k. rw q at k)
  completion-some a (still t) q =
      by-test (Steps p s (completion a)) (runs a t) _ _ (λ h. completes q h) (λ h. refuses {a = a} (λ k. T_not (runs a t) h (rw q at k)))

  occurrence-some : (e : ℕ) (r : Left) → s.left ≡ r → Steps p s (occurrence e) (ending p (occurrence e) s (moved p (occurrence e) r s.memory))
  unfolding moved occurred
  occurrence-some e gone q = ended q
  occurrence-some e (still t) q =
      by_cond P (has e p.fugitive) _ _
      (λ f. by_cond P (armed e t) _ _ (λ a. caught q f a) (λ a. missed q f a))
      (λ f.
      by_cond P (has e s.memory) _ _ (λ m. stored q f m)
      (λ m. by_cond P (armed e t) _ _ (λ a. served q f m a) (λ a. appended q f m a)))
    where
      P : Held → Type 0
      P h = Steps p s (occurrence e) (ending p (occurrence e) s h)

  -- there is an answer, the one of `reaction`
  pub steps-some : (l : Letter) → Steps p s l (answer p s l)
  unfolding answer possible reaction
  steps-some (completion a) = completion-some a s.left refl
  steps-some (occurrence e) = occurrence-some e s.left refl

  -- and no other
  steps-answer : (l : Letter) (x : Answer Reacted) → Steps p s l x → x ≡ answer p s l
  unfolding answer possible reaction moved occurred runs_l
  steps-answer l x (completes {a = a} {t = t} q h) = rw (q, T_true (runs a t) h)
  steps-answer l x (refuses {a = a} h) =
      by-test (λ (y : Answer Reacted). not_running ≡ y) (runs_l a s.left) _ _ (λ k. absurd (h k)) (λ k. refl)
  steps-answer l x (ended q) = rw q
  steps-answer l x (caught q f a) = rw (q, f, a)
  steps-answer l x (missed q f a) = rw (q, f, a)
  steps-answer l x (stored q f m) = rw (q, f, m)
  steps-answer l x (served q f m a) = rw (q, f, m, a)
  steps-answer l x (appended q f m a) = rw (q, f, m, a)

  pub steps-one : (l : Letter) (x y : Answer Reacted) → Steps p s l x → Steps p s l y → x ≡ y
  steps-one l x y h k = steps-answer l x h ∙ sym (steps-answer l y k)

  -- every event is possible, a module exactly where it runs
  pub possible-event : (e : ℕ) → T (possible (occurrence e) s)
  unfolding possible
  possible-event e = tt

  pub possible-module : (a : ℕ) → possible (completion a) s ≡ runs_l a s.left
  unfolding possible
  possible-module a = refl

  -- what is possible is answered by its reaction
  pub steps-possible : (l : Letter) → T (possible l s) → Steps p s l (accepted (reaction p l s))
  steps-possible l h = subst (Steps p s l) (answered (possible l s) h) (unfold answer in steps-some l)
    where
      answered : (b : Bool) → T b → choose b (λ u. accepted (reaction p l s)) (λ u. not_running) ≡ accepted (reaction p l s)
      answered true t = refl
      answered false t = absurd t

  -- and nothing else: a reaction is the possible letter's, a refusal the completion's of a module that does not run
  pub steps-accepted : (l : Letter) (r : Reacted) → Steps p s l (accepted r) → T (possible l s) × (r ≡ reaction p l s)
  unfolding answer
  steps-accepted l r h =
      by-test (λ y. accepted r ≡ y → T (possible l s) × (r ≡ reaction p l s)) (possible l s) _ _ (λ t q. (t, cc))
      (λ t q. absurd (true≢false (cc)))
      (steps-answer l (accepted r) h)

  pub steps-refused : (l : Letter) (n at : ℕ) → Steps p s l (refused n at) → (refused n at ≡ not_running) × (T (possible l s) → ⊥)
  unfolding answer
  steps-refused l n at h =
      by-test (λ (y : Answer Reacted). refused n at ≡ y → (refused n at ≡ not_running) × (T (possible l s) → ⊥)) (possible l s) _ _
      (λ t q. absurd (true≢false (cc)))
      (λ t q. (q, T_not (possible l s) t))
      (steps-answer l (refused n at) h)

  -- a run never gets stuck: every possible letter of the program leads from a reachable state to a reachable state again
  pub reach-steps : Reach p s → (l : Letter) → Among l (letters p) → T (possible l s) → (r : Reacted) × Steps p s l (accepted r) × Reach p r.state
  reach-steps k l a h = (reaction p l s, steps-possible l h, next l a h k)

  pub steps-reach : Reach p s → (l : Letter) → Among l (letters p) → (r : Reacted) → Steps p s l (accepted r) → Reach p r.state
  steps-reach k l a r h =
      let q = steps-accepted l r h in
      subst (λ (x : Reacted). Reach p x.state) (sym q.1) (next l a q.0 k)

-- how many events one occurrence takes, by the same cases as `occurred`: itself, and those of its settling
unfoldable pub occurred_takings : Program → ℕ → Term → List ℕ → ℕ
occurred_takings p e t m =
    let n = suc (takings (length m) (taken e t) m) in
    cond (has e p.fugitive) (cond (armed e t) n 0) (cond (has e m) 0 (cond (armed e t) n 0))

-- how many one reaction takes, by the same cases as `moved`; a completion those of its settling
unfoldable pub moved_takings : Program → Letter → Left → List ℕ → ℕ
moved_takings p (completion a) gone m = 0
moved_takings p (occurrence e) gone m = 0
moved_takings p (completion a) (still t) m = takings (length m) (completed a t) m
moved_takings p (occurrence e) (still t) m = occurred_takings p e t m

abbrev pub reaction_takings : Program → Letter → State → ℕ
reaction_takings p l s = moved_takings p l s.left s.memory

moved-takings : (p : Program) (l : Letter) (r : Left) (m : List ℕ) → moved_takings p l r m ≤ suc (length m)
unfolding moved_takings occurred_takings
moved-takings p (completion a) gone m = omega arith
moved-takings p (occurrence e) gone m = omega arith
moved-takings p (completion a) (still t) m = omega (arith, takings-few (length m) (completed a t) m)
moved-takings p (occurrence e) (still t) m =
    by_cond P (has e p.fugitive) _ _ (λ f. by_cond P (armed e t) _ _ (λ a. some) (λ a. omega arith))
    (λ f. by_cond P (has e m) _ _ (λ h. omega arith) (λ h. by_cond P (armed e t) _ _ (λ a. some) (λ a. omega arith)))
  where
    P : ℕ → Type 0
    P n = n ≤ suc (length m)

    some : P (suc (takings (length m) (taken e t) m))
    some = omega (arith, takings-few (length m) (taken e t) m)

-- one more than were stored before it, at most
pub reaction-takings : (p : Program) (l : Letter) (s : State) → reaction_takings p l s ≤ suc (length s.memory)
reaction-takings p l s = moved-takings p l s.left s.memory
