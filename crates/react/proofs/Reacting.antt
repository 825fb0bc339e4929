-- From the parts of a reaction to the reaction of the rules: what ran before, what a letter leaves, what runs after, and the orders by these.
-- Assumes nothing.
use Prim.Native.Nat.{ℕ, ◌<◌}
use mathlib.Core.Bool.{Bool, true, false}
use mathlib.Core.List.{List, [], map}
use mathlib.Core.Path.{◌≡◌, refl, ap, ap₂, sym, ◌∙◌}
use native.Mathlib.Omega.{arith}
use borrow.Author.Tests.{eq-eqb}
use lib.ListN.{length, drop, replicate}
use Rattle.paper.specs.Lists.{with_if, has, keep}
use Rattle.paper.specs.Term.{Left, One, gone, still}
use Rattle.paper.specs.Running.{runs_l}
use Rattle.paper.specs.Rewriting.{Letter, completion, occurrence}
use Rattle.paper.specs.Settling.{Held}
use Rattle.paper.specs.Reaction.{Program, State, possible, moved, order, stays, orders, stopped_after, reaction}
use Rattle.paper.specs.Table.{flag}
use Rattle.paper.specs.Calls.{eight}
use Rattle.words.specs.Word.{terms, any_runs}
use Rattle.words.specs.Pieces.{top}
use Rattle.words.proofs.Marks.{clash}
use Rattle.react.specs.declared.State.{State as Kept}
use Rattle.rewrite.specs.declared.Settled.{Settled}
use Rattle.rewrite.specs.Steps.{state, Stands}
use Rattle.rewrite.specs.Stored.{stored, Rests}
use Rattle.rewrite.proofs.Standing.{state-still, state-gone}
use Rattle.react.specs.declared.Ordered.{Ordered}
use Rattle.react.specs.States.{Modules, stopped_of, state_of, runs_by, Running, ruled, Told, Comes}
use Rattle.react.proofs.Marking.{runs-left}
use Rattle.react.proofs.Flagged.{map_same, stopped-kept, stopped_none, flags-are, flags-none}

-- ## which letters can be reacted to

pub possible-completion : {P W : List ℕ} {s m : ℕ} {l : Letter} {v : Bool} → Stands P W s → (x : State) → l ≡ completion m → x.left ≡ state P W s → v ≡ any_runs m (terms P (drop s W)) → v ≡ possible l x
unfolding possible
possible-completion {P} {W} {s} {m} st x k e r = rw (k, e) (r ∙ runs-left m (terms P (drop s W)) st.single)

pub possible-occurrence : {e : ℕ} {l : Letter} (x : State) → l ≡ occurrence e → true ≡ possible l x
unfolding possible
possible-occurrence x k = rw k

-- ## what a letter leaves stands as a state, whatever the program

abbrev Says : Letter → Bool → Program → Type 0
Says l f q = (e : ℕ) → l ≡ occurrence e → f ≡ has e q.fugitive

-- a program for the letter: its event is fugitive, or not
single : Letter → Bool → Program
single (completion m) f = record { modules = []; events = []; fugitive = []; term = One }
single (occurrence e) f = record { modules = []; events = []; fugitive = with_if f e []; term = One }

single-says : (l : Letter) (f : Bool) → Says l f (single l f)
unfolding has single
single-says (completion m) f e k = clash (cc)
single-says (occurrence x) true e k = let z : e ≡ x = cc in rw (eq-eqb e x z)
single-says (occurrence x) false e k = refl

pub left-stands : {P W : List ℕ} (l : Letter) (f : Bool) (r : Settled) (h : Program → Held) → ((q : Program) → Says l f q → Rests P W r (h q)) → Stands P W r.start
left-stands l f r h k = (k (single l f) (single-says l f)).0

-- ## the state and the orders

state-path : {r r' : Left} {m m' st st' : List ℕ} → r ≡ r' → m ≡ m' → st ≡ st' → ◌≡◌ {A = State} (record { left = r; memory = m; stopped = st }) (record { left = r'; memory = m'; stopped = st' })
state-path a b c = λ i. record { left = a i; memory = b i; stopped = c i }

module _ (P W W' : List ℕ) (was : Kept) {ms : List ℕ} {before after : List Bool} (q : Program) (l : Letter) (n : Settled) (o : Ordered)
    (own : q.modules ≡ ms) (mods : Modules ms) (ran : Running before (state P W was.start)) (run : Running after (state P W' n.start))
    (rests : Rests P W' n (moved q l (state P W was.start) (stored was.memory))) (told : Told ms l before after was.stopped o) where
  abbrev old : Left
  old = state P W was.start

  abbrev new : Left
  new = state P W' n.start

  abbrev st : List ℕ
  st = stopped_of ms was.stopped

  ruled-same : {A : Type 0} (f : (own before after stopped : Bool) → A) (k : ℕ) → k < 26 → ruled f l (runs_by before) (runs_by after) st k ≡ ruled f l (λ x. runs_l x old) (λ x. runs_l x new) st k
  ruled-same f k h = rw (ran k h, run k h)

  left_is : new ≡ (moved q l old (stored was.memory)).left
  left_is = ap (λ (h : Held). h.left) rests.1.0

  orders-right : o.orders ≡ eight (reaction q l (state_of P W ms was)).does
  unfolding reaction orders
  orders-right =
      told.orders_are ∙ ap eight
      (map_same (ruled order l (runs_by before) (runs_by after) st) (ruled order l (λ x. runs_l x old) (λ x. runs_l x new) st) 0 ms mods.ascend (ruled-same order)
      ∙ ap₂ (λ (r : Left) (ks : List ℕ). map (ruled order l (λ x. runs_l x old) (λ x. runs_l x r) st) ks) left_is (sym own))

  kept-right : stopped_of ms o.stopped ≡ keep (ruled stays l (λ x. runs_l x old) (λ x. runs_l x new) st) ms
  kept-right =
      ap (stopped_of ms)
      (told.stopped_are ∙ ap eight
      (map_same (λ x. flag (ruled stays l (runs_by before) (runs_by after) st x)) (λ x. flag (ruled stays l (λ y. runs_l y old) (λ y. runs_l y new) st x)) 0 ms mods.ascend
      (λ k h. ap flag (ruled-same stays k h))))
      ∙ stopped-kept (ruled stays l (λ x. runs_l x old) (λ x. runs_l x new) st) ms mods.few

  pub comes-still : (n.start ≡ 96 → ⊥) → Comes P W' ms (record { state = record { start = n.start; memory = n.memory; stopped = o.stopped }; orders = o.orders }) (reaction q l (state_of P W ms was))
  unfolding reaction stopped_after
  comes-still h =
      let e : new ≡ still (top P W' n.start) = state-still rests.0 (omega (arith, rests.0.within)) in
      record {
        stands = rests.0;
        few = rests.1.1;
        flags = rw told.stopped_are (flags-are (ruled stays l (runs_by before) (runs_by after) st) ms mods.few);
        state_is = state-path left_is (ap (λ (x : Held). x.memory) rests.1.0)
            (kept-right
            ∙ (ap₂ (λ (r : Left) (ks : List ℕ). keep (ruled stays l (λ x. runs_l x old) (λ x. runs_l x r) st) ks) e (sym own)
            ∙ ap (stopped_after q l (state_of P W ms was)) (sym e ∙ left_is)));
        orders_are = orders-right;
      }

  pub comes-ended : n.start ≡ 96 → Comes P W' ms (record { state = record { start = n.start; memory = n.memory; stopped = replicate 8 0 }; orders = o.orders }) (reaction q l (state_of P W ms was))
  unfolding reaction stopped_after
  comes-ended h =
      let e : new ≡ gone = state-gone rests.0 (omega arith) in
      record {
        stands = rests.0;
        few = rests.1.1;
        flags = flags-none 8 (length ms);
        state_is = state-path left_is (ap (λ (x : Held). x.memory) rests.1.0) (stopped_none 8 ms ∙ ap (stopped_after q l (state_of P W ms was)) (sym e ∙ left_is));
        orders_are = orders-right;
      }
