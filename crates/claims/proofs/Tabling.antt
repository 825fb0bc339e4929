-- The table's start and step: bytes are refused by No. 19 exactly where one of its conditions holds, and these are the bytes that are no table's writing
-- (`not_written`); and what a step answers, by its conditions (`start-ends`, `step-ends`, and `start-sound`, `step-sound` the other way). Assumes
-- nothing.
use Prim.Native.Nat.{ℕ, ◌+◌, ◌≤◌, ◌<◌}
use mathlib.Core.Path.{◌≡◌, refl, sym, ap, subst, ◌∙◌}
use mathlib.Core.Bool.{Bool, true, false, cond, true≢false}
use mathlib.Core.List.{List, map}
use mathlib.Core.Logic.{◌↔◌}
use mathlib.Core.Option.{Option, none, some}
use native.Mathlib.Omega.{arith}
use borrow.Author.Tests.{ltb-true, ltb-false, lt-ltb, le-ltb, eqb-false, eqb-true, not-false}
use lib.Dec.{eqb, ltb}
use lib.ListN.{length, get_or}
use Rattle.paper.specs.Lists.{chosen, below}
use Rattle.paper.specs.Grammar.{module_byte}
use Rattle.paper.specs.Table.{Table, flag, written}
use Rattle.paper.specs.IsTable.{layout, module_count, state_count, start_at, possible_at, next_at, order_at, wrong_layout, wrong_count, wrong_length, wrong_name, wrong_next, wrong_zeros, wrong_event, wrong_start, wrong_padding, is_table, table_modules, table_events}
use Rattle.paper.specs.Calls.{Stepped, not_stepped, steps_to, table_start, table_step, index_from, letter_bytes, entered}
use Rattle.fields.specs.Window.{Bytes}
use Rattle.layout.specs.InRange.{letter_count_of, entry_at, InRange}
use Rattle.layout.specs.Says.{Says, table_in}
use Rattle.layout.proofs.Conditions.{Right, right-table, table-right}
use Rattle.layout.proofs.Complete.{in-says, in_range}
use Rattle.layout.proofs.Sound.{written-table}
use Rattle.layout.proofs.Law.{table-written}
use Rattle.claims.specs.Exactly.{NotTable, by_layout, by_count, by_name, by_next, by_padding, by_length, by_zeros, by_event, by_start, of_module, TableStartRefuses, start_19, TableStepRefuses, step_19, step_20, step_21, step_22}
use Rattle.claims.proofs.Lettered.{has-at, letter-none, none-letter, letter_at, Found, module_at, event_at, ascending-one}

-- ---- No. 19

not_right : (t : List ℕ) → NotTable t → Right t → ⊥
not_right t (by_layout h) r = true≢false (sym h ∙ r.layout)
not_right t (by_count h) r = true≢false (sym h ∙ r.count)
not_right t (by_name h) r = true≢false (sym h ∙ r.name)
not_right t (by_next h) r = true≢false (sym h ∙ r.next)
not_right t (by_padding h) r = true≢false (sym h ∙ r.padding)
not_right t (by_length h) r = true≢false (sym h ∙ r.long)
not_right t (by_zeros h) r = true≢false (sym h ∙ r.zeros)
not_right t (by_event h) r = true≢false (sym h ∙ r.event)
not_right t (by_start h) r = true≢false (sym h ∙ r.start)

either : {A : Type 0} (b : Bool) → (b ≡ true → A) → (b ≡ false → A) → A
either true f g = f refl
either false f g = g refl

pub not_table : (t : List ℕ) → NotTable t → is_table t ≡ false
not_table t h = either (is_table t) (λ q. absurd (not_right t h (table-right t q))) (λ q. q)

pub is-not : (t : List ℕ) → is_table t ≡ false → NotTable t
is-not t h =
    either (wrong_layout t) by_layout
    (λ a.
    either (wrong_count t) by_count
    (λ b.
    either (wrong_name t) by_name
    (λ c.
    either (wrong_next t) by_next
    (λ d.
    either (wrong_padding t) by_padding
    (λ e.
    either (wrong_length t) by_length
    (λ f.
    either (wrong_zeros t) by_zeros
    (λ g.
    either (wrong_event t) by_event
    (λ i.
    either (wrong_start t) by_start
    (λ j.
    let r : Right t = record { layout = a; count = b; name = c; next = d; padding = e; long = f; zeros = g; event = i; start = j } in
    absurd (true≢false (sym (right-table t r) ∙ h)))))))))))

is-table : (t : List ℕ) → (NotTable t → ⊥) → is_table t ≡ true
is-table t f = either (is_table t) (λ q. q) (λ q. absurd (f (is-not t q)))

-- the bytes that are not the writing of any table in range
pub not_written : (t : List ℕ) → Bytes t → NotTable t ↔ ((a : Table) → InRange a → written a ≡ t → ⊥)
not_written t b = (
  λ n a r e. not_right t n (table-right t (subst (λ (x : List ℕ). is_table x ≡ true) e (written-table a r))),
  λ f. either (is_table t) (λ q. absurd (let w = table-written t b q in f (table_in t) w.0 w.1)) (is-not t),
)

-- ---- how a call ends

pub data TableEnds (x : Stepped) (R : ℕ → ℕ → Type 0) : Type 0 where
  refuses : (n : ℕ) → R n 0 → x ≡ not_stepped n → TableEnds x R
  goes : (state : ℕ) (orders : List ℕ) → x ≡ steps_to state orders → TableEnds x R

abbrev pub TableSound : Stepped → (ℕ → ℕ → Type 0) → Type 0
TableSound x R = (n p : ℕ) → R n p → (x ≡ not_stepped n) × ((0 ≡ p) × (1 ≤ n))

-- ---- start

module _ (t : List ℕ) where
  abbrev starting : List ℕ
  starting = map (λ m. start_at t m) (below (module_count t))

  by-start-test : (b : Bool) → is_table t ≡ b → table_start t ≡ cond b (steps_to 0 starting) (not_stepped 19)
  unfolding table_start
  by-start-test b q = ap (λ (b : Bool). cond b (steps_to 0 starting) (not_stepped 19)) q

  pub start-sound : TableSound (table_start t) (TableStartRefuses t)
  start-sound n p (start_19 h) = (by-start-test false (not_table t h), (refl, omega arith))

  pub start-ends : TableEnds (table_start t) (TableStartRefuses t)
  start-ends =
      either (is_table t) (λ q. goes 0 starting (by-start-test true q)) (λ q. refuses 19 (start_19 (is-not t q)) (by-start-test false q))

-- ---- a table's entries

module _ (t : List ℕ) (is : is_table t ≡ true) where
  range : InRange (table_in t)
  range = in_range t (table-right t is)

  laid : layout t ≡ 1
  unfolding wrong_layout
  laid = eqb-true (layout t) 1 (not-false (eqb (layout t) 1) (table-right t is).layout)

  says : Says t (table_in t)
  says = in-says t laid

  -- a possible bit is 0 or 1
  bit : (s l : ℕ) → s < state_count t → l < letter_count_of (table_in t) → eqb (possible_at t s l) 1 ≡ false → possible_at t s l ≡ 0
  bit s l hs hl e = by (entry_at (table_in t) s l).possible (says.possible s l (omega (arith, says.states)) hl)
    where
      by : (b : Bool) → possible_at t s l ≡ flag b → possible_at t s l ≡ 0
      by true q = absurd (eqb-false (possible_at t s l) 1 e q)
      by false q = q

  -- "events are always possible"
  event-possible : (s j : ℕ) → s < state_count t → j < length (table_events t) → possible_at t s (length (table_modules t) + j) ≡ 1
  unfolding table_in
  event-possible s j hs hj =
      let k : s < length (table_in t).rows = omega (arith, says.states) in
      says.possible s (length (table_modules t) + j) k (omega arith) ∙ ap flag (range.event s j k hj)

-- ---- step

module _ (t : List ℕ) (state letter : ℕ) where
  abbrev its : Option ℕ
  its = index_from 0 letter (letter_bytes (table_modules t) (table_events t))

  abbrev found : Option ℕ → Stepped
  found o = chosen o (λ u. not_stepped 21) (λ l. entered t state l)

  by_tests : (b c : Bool) (o : Option ℕ) → is_table t ≡ b → ltb state (state_count t) ≡ c → its ≡ o
      → table_step t state letter ≡ cond b (cond c (found o) (not_stepped 20)) (not_stepped 19)
  unfolding table_step
  by_tests b c o p q r =
      ap (λ (b : Bool). cond b (cond (ltb state (state_count t)) (found its) (not_stepped 20)) (not_stepped 19)) p
      ∙ ap (λ (c : Bool). cond b (cond c (found its) (not_stepped 20)) (not_stepped 19)) q
      ∙ ap (λ (o : Option ℕ). cond b (cond c (found o) (not_stepped 20)) (not_stepped 19)) r

  abbrev ordered : ℕ → List ℕ
  ordered l = map (λ m. order_at t state l m) (below (module_count t))

  by-entry : (l : ℕ) (b : Bool) → eqb (possible_at t state l) 1 ≡ b → entered t state l ≡ cond b (steps_to (next_at t state l) (ordered l)) (not_stepped 22)
  unfolding entered
  by-entry l b q = ap (λ (b : Bool). cond b (steps_to (next_at t state l) (ordered l)) (not_stepped 22)) q

  -- a module's letter has the module's own entry
  own-index : is_table t ≡ true → (m : ℕ) → m < length (table_modules t) → letter ≡ module_byte (get_or (table_modules t) m 0) → (o : Option ℕ) → its ≡ o → o ≡ some m
  unfolding table_in
  own-index is m h q none e = absurd (letter-none (table_modules t) (table_events t) letter (of_module (get_or (table_modules t) m 0) (has-at (table_modules t) m h) q) e)
  own-index is m h q (some l) e = by (letter_at (table_modules t) (table_events t) letter l e)
    where
      by : Found (table_modules t) (table_events t) letter l → some l ≡ some m
      by (module_at k z) = ap some (ascending-one (table_modules t) (range t is).modules l m k h (omega (arith, q, z)))
      by (event_at j i k z) = absurd (omega (arith, q, z, (range t is).events.small j k))

  is-in : is_table t ≡ true → NotTable t → ⊥
  is-in q h = true≢false (sym q ∙ not_table t h)

  pub step-sound : TableSound (table_step t state letter) (TableStepRefuses t state letter)
  step-sound n p (step_19 h) = (by_tests false _ _ (not_table t h) refl refl, (refl, omega arith))
  step-sound n p (step_20 f h) = (by_tests true false _ (is-table t f) (le-ltb state (state_count t) h) refl, (refl, omega arith))
  step-sound n p (step_21 f s h) =
      (by_tests true true none (is-table t f) (lt-ltb state (state_count t) s) (none-letter (table_modules t) (table_events t) letter h), (refl, omega arith))
  step-sound n p (step_22 f s m h q z) =
      let is = is-table t f in (
        by_tests true true (some m) is (lt-ltb state (state_count t) s) (own-index is m h q its refl) ∙ by-entry m false (ap (λ (k : ℕ). eqb k 1) z),
        (refl, omega arith),
      )

  abbrev Ended : Type 0
  Ended = TableEnds (table_step t state letter) (TableStepRefuses t state letter)

  -- No. 22, or the entry
  entry-ends : is_table t ≡ true → ltb state (state_count t) ≡ true → (l : ℕ) → its ≡ some l → (b : Bool) → eqb (possible_at t state l) 1 ≡ b → Ended
  unfolding table_in
  entry-ends is s l e true q = goes (next_at t state l) (ordered l) (by_tests true true (some l) is s e ∙ by-entry l true q)
  entry-ends is s l e false q = by (letter_at (table_modules t) (table_events t) letter l e)
    where
      small : state < state_count t
      small = ltb-true state (state_count t) s

      by : Found (table_modules t) (table_events t) letter l → Ended
      by (module_at k z) =
          refuses 22 (step_22 (is-in is) small l k z (bit t is state l small (omega arith) q)) (by_tests true true (some l) is s e ∙ by-entry l false q)
      by (event_at j i k z) =
          absurd (eqb-false (possible_at t state l) 1 q (ap (possible_at t state) i ∙ event-possible t is state j small k))

  -- No. 21, or a letter's entry
  letter-ends : is_table t ≡ true → ltb state (state_count t) ≡ true → (o : Option ℕ) → its ≡ o → Ended
  letter-ends is s none e =
      refuses 21 (step_21 (is-in is) (ltb-true state (state_count t) s) (λ h. letter-none (table_modules t) (table_events t) letter h e))
      (by_tests true true none is s e)
  letter-ends is s (some l) e = entry-ends is s l e (eqb (possible_at t state l) 1) refl

  pub step-ends : Ended
  step-ends =
      either (is_table t)
      (λ is.
      either (ltb state (state_count t)) (λ s. letter-ends is s its refl)
      (λ s. refuses 20 (step_20 (is-in is) (ltb-false state (state_count t) s)) (by_tests true false _ is s refl)))
      (λ is. refuses 19 (step_19 (is-not t is)) (by_tests false _ _ is refl refl))
