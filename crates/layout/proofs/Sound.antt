-- The writing of a table in range is a table: none of the conditions of No. 19 holds, since each field says the table's part, and behind the bits of the
-- table there are only zeros, to a whole byte. Assumes nothing.
use Prim.Native.Nat.{ℕ, zero, suc, ◌+◌, ◌-◌, ◌/◌, ◌<◌}
use mathlib.Core.Path.{◌≡◌, refl, sym, ap, ap₂, ◌∙◌}
use mathlib.Core.Bool.{Bool, true, false, not, ◌&&◌, ◌||◌}
use mathlib.Core.List.{List}
use native.Mathlib.Omega.{arith}
use borrow.Author.Tests.{eq-eqb, le-leb, lt-ltb}
use lib.Dec.{eqb, leb, ltb}
use lib.ListN.{length, get_or, drop, replicate, get_or-append}
use lib.Seq.{get_or-append-add, drop_at}
use Rattle.paper.specs.Lists.{every}
use Rattle.paper.specs.Table.{Table, flag, table_bits, written}
use Rattle.paper.specs.IsTable.{bits_of, number_from, module_count, event_count, state_count, letter_count, bit_count, name_at, start_at, possible_at, next_at, order_at, ascend, zeros, wrong_count, wrong_length, wrong_name, wrong_next, wrong_zeros, wrong_event, wrong_start, wrong_padding, is_table}
use Rattle.fields.proofs.Packed.{number-zeros}
use Rattle.layout.specs.Places.{place}
use Rattle.layout.specs.InRange.{letter_count_of, entry_at, Ascending, InRange}
use Rattle.layout.specs.Says.{Says}
use Rattle.layout.proofs.Tests.{or_left, or_right}
use Rattle.layout.proofs.Every.{every-all}
use Rattle.layout.proofs.Packs.{Filled, filled-length}
use Rattle.layout.proofs.Parts.{table-length}
use Rattle.layout.proofs.Conditions.{right-layout, right-table}
use Rattle.layout.proofs.Written.{written-filled, written-says}

-- ---- names

module _ (t ns : List ℕ) (from : ℕ) (h : Ascending ns) (r : (k : ℕ) → k < length ns → name_at t (from + k) ≡ get_or ns k 0) where
  above-test : (k : ℕ) → k < length ns → (eqb k 0 || ltb (name_at t (from + k - 1)) (name_at t (from + k))) ≡ true
  above-test zero q = refl
  above-test (suc k) q =
      let e : from + suc k - 1 ≡ from + k = omega arith in
      or_right (eqb (suc k) 0) (ltb (name_at t (from + suc k - 1)) (name_at t (from + suc k)))
      (ap₂ ltb (ap (name_at t) e ∙ r k (omega arith)) (r (suc k) q) ∙ lt-ltb (get_or ns k 0) (get_or ns (suc k) 0) (h.above k q))

  names-ascend : ascend t from (length ns) ≡ true
  unfolding ascend
  names-ascend =
      every-all (length ns) (λ k. leb (name_at t (from + k)) 25 && (eqb k 0 || ltb (name_at t (from + k - 1)) (name_at t (from + k))))
      (λ k q. ap₂ (λ (a b : Bool). a && b) (ap (λ (n : ℕ). leb n 25) (r k q) ∙ le-leb (get_or ns k 0) 25 (h.small k q)) (above-test k q))

-- ---- the conditions

module _ (t : List ℕ) (a : Table) (h : InRange a) (r : Says t a) where
  abbrev m : ℕ
  m = length a.modules

  right-count : wrong_count t ≡ false
  unfolding wrong_count
  right-count =
      let hm = h.few_modules in
      let hn = h.few_events in
      let hs = h.few_states in
      let em = r.modules in
      let en = r.events in
      let es = r.states in
      simp (le-leb (module_count t) 8 (omega arith), le-leb (event_count t) 8 (omega arith), le-leb (state_count t) 512 (omega arith))

  right-name : wrong_name t ≡ false
  unfolding wrong_name
  right-name =
      let ms : ascend t 0 (module_count t) ≡ true =
      ap (ascend t 0) r.modules
      ∙ names-ascend t a.modules 0 h.modules
      (λ k q. ap (name_at t) (none k) ∙ r.name k (omega arith) ∙ get_or-append a.modules a.events 0 k q)
      in
      let es : ascend t (module_count t) (event_count t) ≡ true =
      ap₂ (ascend t) r.modules r.events
      ∙ names-ascend t a.events m h.events (λ k q. r.name (m + k) (omega arith) ∙ get_or-append-add a.modules a.events k 0)
      in
      simp (ms, es)
    where
      none : (k : ℕ) → 0 + k ≡ k
      none k = omega arith

  -- what holds of each entry
  each-entry : (p : ℕ → ℕ → Bool) → ((s l : ℕ) → s < length a.rows → l < letter_count_of a → p s l ≡ true)
      → every (state_count t) (λ s. every (letter_count t) (p s)) ≡ true
  each-entry p f =
      let es = r.states in
      let em = r.modules in
      let en = r.events in
      every-all (state_count t) (λ s. every (letter_count t) (p s)) (λ s q. every-all (letter_count t) (p s) (λ l k. f s l (omega arith) (omega arith)))

  right-next : wrong_next t ≡ false
  unfolding wrong_next
  right-next =
      ap not
      (each-entry (λ s l. ltb (next_at t s l) (state_count t))
      (λ s l hs hl. ap₂ ltb (r.next s l hs hl) r.states ∙ lt-ltb (entry_at a s l).next (length a.rows) (h.entry s l hs hl).next))

  zeros-test : (s l : ℕ) → s < length a.rows → l < letter_count_of a → (b : Bool) → (entry_at a s l).possible ≡ b
      → (eqb (possible_at t s l) 1 || zeros t s l) ≡ true
  unfolding zeros
  zeros-test s l hs hl true e =
      or_left (eqb (possible_at t s l) 1) (zeros t s l) (eq-eqb (possible_at t s l) 1 (r.possible s l hs hl ∙ ap flag e))
  zeros-test s l hs hl false e =
      let em = r.modules in
      or_right (eqb (possible_at t s l) 1) (zeros t s l)
      (ap₂ (λ (x y : Bool). x && y)
      (eq-eqb (next_at t s l) 0 (r.next s l hs hl ∙ (h.entry s l hs hl).zero_next e))
      (every-all (module_count t) (λ k. eqb (order_at t s l k) 0)
      (λ k q. eq-eqb (order_at t s l k) 0 (r.order s l k hs hl (omega arith) ∙ (h.entry s l hs hl).zero_order e k (omega arith)))))

  right-zeros : wrong_zeros t ≡ false
  unfolding wrong_zeros
  right-zeros =
      ap not (each-entry (λ s l. eqb (possible_at t s l) 1 || zeros t s l) (λ s l hs hl. zeros-test s l hs hl (entry_at a s l).possible refl))

  right-event : wrong_event t ≡ false
  unfolding wrong_event
  right-event =
      let es = r.states in
      let en = r.events in
      ap not
      (every-all (state_count t) (λ s. every (event_count t) (λ e. eqb (possible_at t s (module_count t + e)) 1))
      (λ s q.
      every-all (event_count t) (λ e. eqb (possible_at t s (module_count t + e)) 1)
      (λ e k.
      let hs : s < length a.rows = omega arith in
      eq-eqb (possible_at t s (module_count t + e)) 1
      (ap (λ (n : ℕ). possible_at t s (n + e)) r.modules ∙ r.possible s (m + e) hs (omega arith) ∙ ap flag (h.event s e hs (omega arith))))))

  right-start : wrong_start t ≡ false
  unfolding wrong_start
  right-start =
      let em = r.modules in
      let some = h.some_states in
      ap not
      (every-all (module_count t) (λ k. eqb (start_at t k) (possible_at t 0 k))
      (λ k q.
      let hk : k < m = omega arith in
      eq-eqb (start_at t k) (possible_at t 0 k) (r.start k hk ∙ ap flag (h.start k hk) ∙ sym (r.possible 0 k some (omega arith)))))

  end_is : bit_count t ≡ length (table_bits a)
  end_is = ap₂ (λ (x y : ℕ). place x y (state_count t) 0) r.modules r.events ∙ ap (λ (k : ℕ). place m (length a.events) k 0) r.states ∙ sym (table-length a h)

  right-padding : Filled (table_bits a) t → wrong_padding t ≡ false
  unfolding wrong_padding
  right-padding f =
      let d : drop (bit_count t) (bits_of t) ≡ replicate f.pad 0 =
      ap₂ (λ (n : ℕ) (l : List ℕ). drop n l) end_is f.are ∙ drop_at (table_bits a) (replicate f.pad 0) (length (table_bits a)) refl
      in
      ap not (eq-eqb (number_from 0 (drop (bit_count t) (bits_of t))) 0 (ap (number_from 0) d ∙ number-zeros f.pad))

  right-length : Filled (table_bits a) t → wrong_length t ≡ false
  unfolding wrong_length
  right-length f =
      ap not
      (eq-eqb (length t) ((bit_count t + 7) / 8) (filled-length (table_bits a) t f ∙ ap (λ (n : ℕ). (n + 7) / 8) (sym end_is)))

  pub says-table : Filled (table_bits a) t → is_table t ≡ true
  says-table f =
      right-table t
      (record {
        layout = right-layout t r.laid;
        count = right-count;
        name = right-name;
        next = right-next;
        padding = right-padding f;
        long = right-length f;
        zeros = right-zeros;
        event = right-event;
        start = right-start;
      })

pub written-table : (a : Table) → InRange a → is_table (written a) ≡ true
written-table a h = says-table (written a) a h (written-says a h) (written-filled a)
