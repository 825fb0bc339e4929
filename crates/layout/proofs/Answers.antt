-- Start and step on the writing of a table in range answer what stands in the table: the bytes are a table (`written-table`), and each field that the
-- answer is made of is the table's part (`written-says`). Assumes nothing.
use Prim.Native.Nat.{ℕ, suc, ◌+◌, ◌<◌}
use mathlib.Core.Path.{◌≡◌, refl, sym, ap, ap₂, ◌∙◌}
use mathlib.Core.Bool.{Bool, true, false, cond}
use mathlib.Core.List.{List, [], ◌∷◌, map}
use mathlib.Core.Option.{Option, none, some}
use native.Mathlib.Decide.{dec_lt}
use native.Mathlib.Omega.{arith}
use borrow.Author.Tests.{le-ltb}
use lib.Dec.{eqb, ltb}
use lib.ListN.{length, length-append, length-map, get_or-map}
use Rattle.paper.specs.Lists.{chosen, below}
use Rattle.paper.specs.Grammar.{module_byte, event_byte}
use Rattle.paper.specs.Table.{Table, flag, written}
use Rattle.paper.specs.IsTable.{module_count, start_at, next_at, order_at, is_table, table_modules, table_events}
use Rattle.paper.specs.Calls.{Stepped, not_stepped, steps_to, table_start, table_step, index_from, letter_bytes, entered}
use Rattle.layout.specs.InRange.{letter_count_of, entry_at, InRange}
use Rattle.layout.specs.Says.{Says}
use Rattle.layout.specs.Answered.{start_from, taken_from, step_from}
use Rattle.layout.proofs.Lists.{below-is}
use Rattle.layout.proofs.Written.{flag_is, modules_are, events_are, written-says}
use Rattle.layout.proofs.Sound.{written-table}

-- a place that is found lies in the list
index_in : (i x : ℕ) (l : List ℕ) (k : ℕ) → index_from i x l ≡ some k → k < i + length l
unfolding index_from
index_in i x [] k e = absurd (never e)
  where
    never : none ≡ some k → ⊥
    never q = let z : ◌≡◌ {A = ℕ} 0 1 = cc in omega arith
index_in i x (y ∷ ys) k e = by (eqb x y) e (index_in (i + 1) x ys k)
  where
    by : (b : Bool) → cond b (some i) (index_from (i + 1) x ys) ≡ some k → (index_from (i + 1) x ys ≡ some k → k < i + 1 + length ys) → k < i + suc (length ys)
    by true q f = let z : i ≡ k = cc in omega arith
    by false q f = omega (arith, f q)

module _ (t : List ℕ) (a : Table) (h : InRange a) (r : Says t a) (is : is_table t ≡ true) where
  starts-are : map (λ m. start_at t m) (below (module_count t)) ≡ map flag a.running
  starts-are =
      let e = r.modules in
      below-is (λ m. start_at t m) (module_count t) (map flag a.running) 0 (length-map a.running flag ∙ h.running ∙ sym e)
      (λ i q. r.start i (omega arith) ∙ sym (get_or-map flag a.running i false))

  says-start : table_start t ≡ start_from a
  unfolding table_start
  says-start = ap₂ (λ (b : Bool) (os : List ℕ). cond b (steps_to 0 os) (not_stepped 19)) is starts-are

  says-entered : (s l : ℕ) → s < length a.rows → l < letter_count_of a → entered t s l ≡ taken_from (entry_at a s l)
  unfolding entered
  says-entered s l hs hl =
      let e = r.modules in
      let os : map (λ m. order_at t s l m) (below (module_count t)) ≡ (entry_at a s l).orders =
      below-is (λ m. order_at t s l m) (module_count t) (entry_at a s l).orders 0 ((h.entry s l hs hl).count ∙ sym e) (λ i q. r.order s l i hs hl (omega arith))
      in
      ap (λ (b : Bool). cond b (steps_to (next_at t s l) (map (λ m. order_at t s l m) (below (module_count t)))) (not_stepped 22))
      (ap (λ (k : ℕ). eqb k 1) (r.possible s l hs hl) ∙ flag_is (entry_at a s l).possible)
      ∙ ap₂ (λ (n : ℕ) (x : List ℕ). cond (entry_at a s l).possible (steps_to n x) (not_stepped 22)) (r.next s l hs hl) os

  letters-length : length (letter_bytes a.modules a.events) ≡ letter_count_of a
  unfolding letter_bytes
  letters-length =
      length-append (map module_byte a.modules) (map event_byte a.events)
      ∙ ap₂ (λ (x y : ℕ). x + y) (length-map a.modules module_byte) (length-map a.events event_byte)

  -- the entry of a letter that the table has
  found : (s : ℕ) → s < length a.rows → (o : Option ℕ) → ((k : ℕ) → o ≡ some k → k < letter_count_of a)
      → chosen o (λ u. not_stepped 21) (λ l. entered t s l) ≡ chosen o (λ u. not_stepped 21) (λ l. taken_from (entry_at a s l))
  found s hs none f = refl
  found s hs (some l) f = says-entered s l hs (f l refl)

  says-step : (state letter : ℕ) → table_step t state letter ≡ step_from a state letter
  unfolding table_step step_from
  says-step state letter =
      ap₂ (λ (b c : Bool). cond b (cond c (entries (letter_bytes (table_modules t) (table_events t))) (not_stepped 20)) (not_stepped 19)) is
      (ap (ltb state) r.states)
      ∙ ap₂ (λ (x y : List ℕ). cond (ltb state (length a.rows)) (entries (letter_bytes x y)) (not_stepped 20)) (modules_are t a h r) (events_are t a h r)
      ∙ by (dec_lt state (length a.rows))
    where
      entries : List ℕ → Stepped
      entries l = chosen (index_from 0 letter l) (λ u. not_stepped 21) (λ i. entered t state i)

      letters : List ℕ
      letters = letter_bytes a.modules a.events

      by : Dec (state < length a.rows)
          → cond (ltb state (length a.rows)) (entries letters) (not_stepped 20)
          ≡ cond (ltb state (length a.rows)) (chosen (index_from 0 letter letters) (λ u. not_stepped 21) (λ l. taken_from (entry_at a state l))) (not_stepped 20)
      by (yes q) =
          ap (λ (x : Stepped). cond (ltb state (length a.rows)) x (not_stepped 20))
          (found state q (index_from 0 letter letters) (λ k e. omega (arith, index_in 0 letter letters k e, letters-length)))
      by (no q) = simp (le-ltb state (length a.rows) (omega arith))

pub written_start : (a : Table) → InRange a → table_start (written a) ≡ start_from a
written_start a h = says-start (written a) a h (written-says a h) (written-table a h)

pub written_step : (a : Table) → InRange a → (state letter : ℕ) → table_step (written a) state letter ≡ step_from a state letter
written_step a h = says-step (written a) a h (written-says a h) (written-table a h)
