-- One reaction on a state of the written set: what `react` and `pack` ask holds, and what they answer is the outcome. A state of the set has room for one
-- event more (`memory-room`), and what is stored after a reaction are events of the program (`stored-known`). Assumes nothing.
use Prim.Native.Nat.{ℕ, suc, ◌≤◌, ◌<◌}
use mathlib.Core.Path.{◌≡◌, refl, sym, ap, subst, ◌∙◌}
use mathlib.Core.Bool.{Bool, true, false, cond, ◌||◌}
use mathlib.Core.List.{List, [], ◌∷◌}
use native.Mathlib.Omega.{arith}
use lib.Dec.{T, eqb}
use borrow.Author.Tests.{eqb-true}
use lib.ListN.{length, get_or, length-take}
use Rattle.paper.specs.Lists.{has}
use Rattle.paper.specs.Rewriting.{Letter, completion, occurrence}
use Rattle.paper.specs.Reaction.{Program, State, possible, reaction}
use Rattle.paper.specs.Discovery.{Among, letters}
use Rattle.paper.specs.Calls.{Lived, eight, not_lived, lives_on}
use Rattle.laws.proofs.Letters.{Once, false-not}
use Rattle.laws.proofs.Reached.{among-event}
use Rattle.rewrite.specs.Stored.{stored}
use Rattle.rewrite.specs.Steps.{Stands}
use Rattle.react.specs.declared.State.{State as Kept}
use Rattle.react.specs.declared.Reacted.{Reacted}
use Rattle.react.specs.States.{Ascends, Modules, state_of, Ready, Fits, Comes}
use Rattle.coding.specs.Code.{code}
use Rattle.coding.proofs.Letters.{once-shorter}
use Rattle.coding.proofs.Closed.{step_in}
use Rattle.pack.specs.Packing.{Packs}
use Rattle.engine.specs.declared.Answer.{Answer}
use Rattle.engine.specs.Live.{outcome, Loaded, Kinds, Stated, reacted_to}
use Rattle.engine.proofs.Names.{among-module}

-- ---- answers

answer-is : (r : Answer) (live live' : List ℕ) (n p : ℕ) (os : List ℕ) → r.number ≡ n → r.place ≡ p → r.orders ≡ os → live ≡ live' → ◌≡◌ {A = Lived} (outcome r live) (record { number = n; place = p; orders = os; live = live' })
answer-is r live live' n p os a b c d =
    ap (λ (x : ℕ). record { number = x; place = r.place; orders = r.orders; live = live }) a
    ∙ (ap (λ (x : ℕ). record { number = n; place = x; orders = r.orders; live = live }) b
    ∙ (ap (λ (x : List ℕ). record { number = n; place = p; orders = x; live = live }) c
    ∙ ap (λ (x : List ℕ). record { number = n; place = p; orders = os; live = x }) d))

pub refused_as : (r : Answer) (live : List ℕ) (n p : ℕ) → (r.number ≡ n) × ((r.place ≡ p) × (r.orders ≡ eight [])) → outcome r live ≡ not_lived n p live
refused_as r live n p h = answer-is r live live n p (eight []) h.0 h.1.0 h.1.1 refl

pub lives-as : (o live b os : List ℕ) → o ≡ eight os → live ≡ b → outcome (record { number = 0; place = 0; orders = o }) live ≡ lives_on os b
lives-as o live b os e d = answer-is (record { number = 0; place = 0; orders = o }) live b 0 0 (eight os) refl refl e d

-- ---- the state before

-- a name of an ascending list
named-from : (k : ℕ) (es : List ℕ) → Ascends k es → (x : ℕ) → T (has x es) → x < 26
unfolding Ascends has
named-from k [] a x t = absurd t
named-from k (e ∷ es) a x t = by-head (eqb x e) refl t (λ u. named-from (suc e) es a.1.1 x u)
  where
    by-head : (b : Bool) → eqb x e ≡ b → T (b || has x es) → (T (has x es) → x < 26) → x < 26
    by-head true p u f = omega (arith, eqb-true x e p, a.1.0)
    by-head false p u f = f u

named-below : (es : List ℕ) → Modules es → (x : ℕ) → T (has x es) → x < 26
named-below es h x t = named-from 0 es h.ascend x t

module _ (q : Program) (P ms es : List ℕ) (d : Loaded q P ms es) (W : List ℕ) (was : Kept) (l : Letter) (h : Stated q P ms W was l) where
  pub letter-small : (a : ℕ) → l ≡ completion a → a < 256
  unfolding letters
  letter-small a e =
      let k = d.fit.letters a (among-module a q.modules q.events (subst (λ (x : Letter). Among x (letters q)) e h.among)) in omega arith

  its-event : (e : ℕ) → l ≡ occurrence e → T (has e q.events)
  unfolding letters
  its-event e k = among-event e q.modules q.events (subst (λ (x : Letter). Among x (letters q)) k h.among)

  pub event-small : (e : ℕ) → l ≡ occurrence e → e < 26
  event-small e k = events-small e (its-event e k)
    where
      events-small : (x : ℕ) → T (has x q.events) → x < 26
      events-small x t = named-below es d.events x (subst (λ (ys : List ℕ). T (has x ys)) d.its.events_are t)

  -- different events of the program, and one more: at most eight
  pub memory-room : length was.memory.events ≡ 8 → was.memory.count ≤ 8 → (e : ℕ) → l ≡ occurrence e → has e (stored was.memory) ≡ false → was.memory.count < 8
  unfolding Once has
  memory-room long few e k n =
      let w = h.written.memory in
      let z : length (stored was.memory) ≡ was.memory.count = omega (arith, length-take was.memory.count was.memory.events) in
      let c = once-shorter (e ∷ stored was.memory) q.events (false-not (has e (stored was.memory)) n, w.0) (λ x t. known x (eqb x e) refl t) in
      omega (arith, z, c, d.fit.few_events)
    where
      known : (x : ℕ) (b : Bool) → eqb x e ≡ b → T (b || has x (stored was.memory)) → T (has x q.events)
      known x true p t = subst (λ (y : ℕ). T (has y q.events)) (sym (eqb-true x e p)) (its-event e k)
      known x false p t = (h.written.memory.1 x t).0

  pub ready : (T : List ℕ) → Stands P W was.start → length T ≡ 96 → length was.memory.events ≡ 8 → was.memory.count ≤ 8 → Ready P ms W was T l
  ready T st t long few = record { table = d.table; modules = d.modules; stands = st; long = t; few = few; room = memory-room long few }

  module _ (ks : List Bool) (k : Kinds q ks) (f : Bool) (g : (e : ℕ) → l ≡ occurrence e → e < 26 → f ≡ get_or ks e false) where
    pub fits : Fits q ms l f
    fits = record { modules_are = d.its.modules_are; fugitive_is = λ e z. g e z (event-small e z) ∙ k e (event-small e z) }

    module _ (W' : List ℕ) (r : Reacted) (c : Comes P W' ms r (reaction q l (state_of P W ms was))) where
      stored-known : (e : ℕ) → T (has e (stored r.state.memory)) → T (has e es)
      stored-known e t =
          let w = step_in q d.fit (state_of P W ms was) l h.written h.among in
          subst (λ (ys : List ℕ). T (has e ys)) d.its.events_are
          (w.memory.1 e (subst (λ (x : State). T (has e x.memory)) c.state_is t)).0

      pub packs : Packs P ms es W' r.state
      packs = record {
        table = d.table;
        modules = d.modules;
        stands = c.stands;
        memory = record { few = d.events.few; count = c.few; among = stored-known };
        flags = c.flags;
      }

      pub goes : (b live live' : List ℕ) → b ≡ code q (state_of P W' ms r.state) → live' ≡ b → possible l (state_of P W ms was) ≡ true → outcome (record { number = 0; place = 0; orders = r.orders }) live' ≡ reacted_to q l (state_of P W ms was) live
      goes b live live' e z p =
          let x = reaction q l (state_of P W ms was) in
          lives-as r.orders live' (code q x.state) x.does c.orders_are (z ∙ (e ∙ ap (code q) c.state_is))
          ∙ sym (ap (λ (t : Bool). cond t (lives_on x.does (code q x.state)) (not_lived 22 0 live)) p)

  pub not-possible : (r : Answer) (live : List ℕ) → (r.number ≡ 22) × ((r.place ≡ 0) × (r.orders ≡ eight [])) → possible l (state_of P W ms was) ≡ false → outcome r live ≡ reacted_to q l (state_of P W ms was) live
  not-possible r live a p =
      let x = reaction q l (state_of P W ms was) in
      refused_as r live 22 0 a ∙ sym (ap (λ (t : Bool). cond t (lives_on x.does (code q x.state)) (not_lived 22 0 live)) p)
