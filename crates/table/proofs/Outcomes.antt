-- The code's cases are those of `table_start` and `table_step`: each test of the definition is the code's. Assumes nothing.
use Rattle.std.proofs.Common.{ℕ, ◌+◌, ◌*◌, ◌≤◌, ◌<◌, ◌≡◌, sym, ap, ◌∙◌, Bool, true, false, cond, List, map, refl, Option, Some, None, Result, Ok, Err}
use Rattle.std.specs.Option.{ok_or}
use Rattle.std.specs.Result.{IsErrAnd}
use mathlib.Core.Path.{ap₂}
use mathlib.Core.Option as math
use mathlib.Core.Option.{none, some}
use native.Mathlib.Nat.{one-mul}
use borrow.Author.Tests.{eq-eqb, ne_eqb, lt-ltb, le-ltb}
use lib.Dec.{eqb, ltb}
use Rattle.paper.specs.Lists.{chosen, below}
use Rattle.paper.specs.IsTable.{field, module_count, event_count, state_count, is_table, start_at, next_at, order_at, table_modules, table_events}
use Rattle.paper.specs.Calls.{Stepped, eight, not_stepped, steps_to, table_start, table_step, index_from, letter_bytes, entered}
use Rattle.counts.specs.declared.Counts.{Counts}
use Rattle.layout.specs.Places.{place}
use Rattle.counts.specs.Counts.{Read}
use Rattle.refusals.specs.declared.Reason.{Reason}
use Rattle.refusals.specs.declared.Refusal.{Refusal}
use Rattle.refusals.specs.Refusals.{number_of}
use Rattle.table.specs.declared.Answer.{Answer}
use Rattle.table.specs.Answers.{stepped, fields_from}
use Rattle.counts.proofs.Counted.{with-counts}

-- ---- a refusal

-- what `ok_or(k)?` answers
pub refused : {T : Type 0} (o : Option T) (k : Reason) (r : Result T Reason) (e : Reason) (x : Result Answer Refusal) → r ≡ ok_or o k → r ≡ Err e
    → IsErrAnd x (λ y. y ≡ record { reason = e; place = 0 }) → (o ≡ None) × (stepped x ≡ not_stepped (number_of k))
refused None k r e (Err y) p q h = let w : y ≡ record { reason = k; place = 0 } = cc in (refl, ap (λ z. stepped (Err z)) w)
refused None k r e (Ok a) p q h = absurd h
refused (Some v) k r e x p q h = cc

-- ---- start

pub start-no : (t : List ℕ) → is_table t ≡ false → not_stepped 19 ≡ table_start t
unfolding table_start
start-no t h = ap (λ (b : Bool). cond b (steps_to 0 (map (λ m. start_at t m) (below (module_count t)))) (not_stepped 19)) (sym h)

starts : (t : List ℕ) → steps_to 0 (fields_from t (24 + 5 * (module_count t + event_count t) + event_count t) 1 (module_count t))
    ≡ steps_to 0 (map (λ m. start_at t m) (below (module_count t)))
unfolding fields_from
starts t = simp one-mul

pub start_is : (t : List ℕ) (c : Counts) → Read t c → is_table t ≡ true
    → steps_to 0 (fields_from t (24 + 5 * (c.modules + c.events) + c.events) 1 c.modules) ≡ table_start t
unfolding table_start
start_is t c r h =
    with-counts (λ m n s. steps_to 0 (fields_from t (24 + 5 * (m + n) + n) 1 m)) t c r ∙ starts t
    ∙ ap (λ (b : Bool). cond b (steps_to 0 (map (λ m. start_at t m) (below (module_count t)))) (not_stepped 19)) (sym h)

-- ---- step

abbrev entry_for : List ℕ → (state letter : ℕ) → Stepped
entry_for t state letter =
    chosen (index_from 0 letter (letter_bytes (table_modules t) (table_events t))) (λ u. not_stepped 21) (λ l. entered t state l)

pub step_19 : (t : List ℕ) (state letter : ℕ) → is_table t ≡ false → not_stepped 19 ≡ table_step t state letter
unfolding table_step
step_19 t state letter h =
    ap (λ (b : Bool). cond b (cond (ltb state (state_count t)) (entry_for t state letter) (not_stepped 20)) (not_stepped 19)) (sym h)

module _ (t : List ℕ) (c : Counts) (state letter : ℕ) (r : Read t c) (h : is_table t ≡ true) where
  tested : (b : Bool) → ltb state c.states ≡ b → cond b (entry_for t state letter) (not_stepped 20) ≡ table_step t state letter
  unfolding table_step
  tested b e =
      ap₂ (λ (x y : Bool). cond x (cond y (entry_for t state letter) (not_stepped 20)) (not_stepped 19)) (sym h)
      (sym (ap (ltb state) (sym r.states) ∙ e))

  pub step_20 : c.states ≤ state → not_stepped 20 ≡ table_step t state letter
  step_20 l = tested false (le-ltb state c.states l)

  pub step_21 : state < c.states → none ≡ index_from 0 letter (letter_bytes (table_modules t) (table_events t)) → not_stepped 21 ≡ table_step t state letter
  step_21 l e = ap (λ (o : math.Option ℕ). chosen o (λ u. not_stepped 21) (λ i. entered t state i)) e ∙ tested true (lt-ltb state c.states l)

  pub step-on : (l : ℕ) → state < c.states → some l ≡ index_from 0 letter (letter_bytes (table_modules t) (table_events t))
      → entered t state l ≡ table_step t state letter
  step-on i l e = ap (λ (o : math.Option ℕ). chosen o (λ u. not_stepped 21) (λ i. entered t state i)) e ∙ tested true (lt-ltb state c.states l)

-- ---- an entry

module _ (t : List ℕ) (c : Counts) (state l bit : ℕ) (r : Read t c) (e : bit ≡ place c.modules c.events state l) where
  at_place : bit ≡ place (module_count t) (event_count t) state l
  at_place = e ∙ with-counts (λ m n s. place m n state l) t c r

  possible_is : (x : ℕ) → x ≡ field t bit 1 → x ≡ field t (place (module_count t) (event_count t) state l) 1
  possible_is x f = f ∙ ap (λ (n : ℕ). field t n 1) at_place

  abbrev there : Stepped
  there = steps_to (next_at t state l) (map (λ m. order_at t state l m) (below (module_count t)))

  pub step_22 : (x : ℕ) → x ≡ field t bit 1 → (x ≡ 1 → ⊥) → not_stepped 22 ≡ entered t state l
  unfolding entered
  step_22 x f differs =
      ap (λ (b : Bool). cond b there (not_stepped 22)) (sym (ne_eqb x 1 differs) ∙ ap (λ (n : ℕ). eqb n 1) (possible_is x f))

  pub step-to : (x y : ℕ) → x ≡ field t bit 1 → x ≡ 1 → y ≡ field t (bit + 1) 9 → steps_to y (fields_from t (bit + 10) 2 c.modules) ≡ entered t state l
  unfolding entered fields_from
  step-to x y f one g =
      ap₂ (λ (n m : ℕ). steps_to y (map (λ k. field t (n + 10 + 2 * k) 2) (below m))) at_place r.modules
      ∙ ap (λ (n : ℕ). steps_to n (map (λ m. order_at t state l m) (below (module_count t)))) (g ∙ ap (λ (n : ℕ). field t (n + 1) 9) at_place)
      ∙ ap (λ (b : Bool). cond b there (not_stepped 22)) (sym (eq-eqb x 1 one) ∙ ap (λ (n : ℕ). eqb n 1) (possible_is x f))

-- ---- an answer

pub goes-is : (state : ℕ) (o os : List ℕ) → o ≡ eight os → ◌≡◌ {A = Stepped} (record { number = 0; place = 0; state = state; orders = o }) (steps_to state os)
goes-is state o os e = ap (λ (x : List ℕ). record { number = 0; place = 0; state = state; orders = x }) e
