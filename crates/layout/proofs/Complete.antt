-- Bytes that are a table are the writing of the table that stands in them: it is in range, since none of the conditions of No. 19 holds (`in_range`), its
-- parts are what the fields say (`table-says`), and behind them there are only zeros (`table-written`). Assumes nothing.
use Prim.Native.Nat.{ℕ, zero, suc, ◌+◌, ◌-◌, ◌*◌, ◌/◌, ◌%◌, ◌^◌, ◌≤◌, ◌<◌}
use mathlib.Core.Path.{◌≡◌, refl, sym, ap, ap₂, ◌∙◌, subst}
use mathlib.Core.Bool.{Bool, true, false, ◌&&◌, ◌||◌}
use mathlib.Core.Logic.{◌⊎◌, inl, inr}
use mathlib.Core.List.{List, [], ◌∷◌, ◌++◌, map}
use native.Mathlib.Nat.{zero-div}
use native.Mathlib.Decide.{dec_lt}
use native.Mathlib.Omega.{arith}
use borrow.Author.Tests.{eqb-true, eqb-false, leb-true, ltb-true, not-false, eq-eqb}
use lib.Dec.{eqb, leb, ltb}
use lib.ListN.{length, get_or, take, drop, replicate, length-drop, take-append-drop, get_or-append}
use lib.Seq.{get_or-append-add}
use Rattle.paper.specs.Lists.{below, every}
use Rattle.paper.specs.Table.{Entry, flag, bits, table_bits, written}
use Rattle.paper.specs.IsTable.{bits_of, number_from, field, layout, module_count, event_count, state_count, letter_count, bit_count, name_at, start_at, possible_at, next_at, order_at, ascend, zeros, wrong_layout, wrong_count, wrong_length, wrong_name, wrong_next, wrong_zeros, wrong_event, wrong_start, wrong_padding, table_modules, table_events}
use Rattle.fields.specs.Window.{Bytes}
use Rattle.fields.proofs.Bits.{bits_of-length}
use Rattle.fields.proofs.Fields.{field_lt, bits_of-are, drop-are}
use Rattle.fields.proofs.Packed.{packed-is}
use Rattle.layout.specs.Places.{place}
use Rattle.layout.specs.InRange.{letter_count_of, no_entry, entry_at, Ascending, EntryInRange, InRange}
use Rattle.layout.specs.Says.{fugitive_at, Says, entry_in, table_in}
use Rattle.layout.proofs.Tests.{and_both, or_cases}
use Rattle.layout.proofs.Every.{every-at}
use Rattle.layout.proofs.Lists.{below_length, below_at}
use Rattle.layout.proofs.Stands.{bits-number}
use Rattle.layout.proofs.Parts.{table-length, laid-all}
use Rattle.layout.proofs.Spoken.{says-laid}
use Rattle.layout.proofs.Conditions.{Right}

-- ---- one bit as a test, and back

flag-test : (x : ℕ) → x < 2 → flag (eqb x 1) ≡ x
flag-test zero h = refl
flag-test (suc zero) h = refl
flag-test (suc (suc x)) h = absurd (two x h)
  where
    two : (x : ℕ) → suc (suc x) < 2 → ⊥
    two x h = omega arith

-- ---- what stands in the bytes, by index

module _ (t : List ℕ) where
  modules-length : length (table_modules t) ≡ module_count t
  unfolding table_modules
  modules-length = below_length (name_at t) (module_count t)

  events-length : length (table_events t) ≡ event_count t
  unfolding table_events
  events-length = below_length (λ i. name_at t (module_count t + i)) (event_count t)

  module_at : (i : ℕ) → i < module_count t → get_or (table_modules t) i 0 ≡ name_at t i
  unfolding table_modules
  module_at i h = below_at (name_at t) (module_count t) i 0 h

  event_at : (i : ℕ) → i < event_count t → get_or (table_events t) i 0 ≡ name_at t (module_count t + i)
  unfolding table_events
  event_at i h = below_at (λ i. name_at t (module_count t + i)) (event_count t) i 0 h

  rows-length : length (table_in t).rows ≡ state_count t
  unfolding table_in
  rows-length = below_length (λ s. map (entry_in t s) (below (letter_count t))) (state_count t)

  row_at : (s : ℕ) → s < state_count t → get_or (table_in t).rows s [] ≡ map (entry_in t s) (below (letter_count t))
  unfolding table_in
  row_at s h = below_at (λ s. map (entry_in t s) (below (letter_count t))) (state_count t) s [] h

  letters-are : letter_count_of (table_in t) ≡ letter_count t
  unfolding table_in
  letters-are = ap₂ (λ (x y : ℕ). x + y) modules-length events-length

  entry-at : (s l : ℕ) → s < state_count t → l < letter_count t → entry_at (table_in t) s l ≡ entry_in t s l
  entry-at s l hs hl = ap (λ (r : List Entry). get_or r l no_entry) (row_at s hs) ∙ below_at (entry_in t s) (letter_count t) l no_entry hl

  name-at : (i : ℕ) → i < letter_count t → name_at t i ≡ get_or (table_modules t ++ table_events t) i 0
  name-at i h = by (dec_lt i (module_count t))
    where
      by : Dec (i < module_count t) → name_at t i ≡ get_or (table_modules t ++ table_events t) i 0
      by (yes q) = sym (module_at i q) ∙ sym (get_or-append (table_modules t) (table_events t) 0 i (omega (arith, modules-length)))
      by (no q) =
          let k : ℕ = i - module_count t in
          let e : module_count t + k ≡ i = omega arith in
          let o : length (table_modules t) + k ≡ i = omega (arith, modules-length) in
          ap (name_at t) (sym e) ∙ sym (event_at k (omega arith)) ∙ sym (get_or-append-add (table_modules t) (table_events t) k 0)
          ∙ ap (λ (j : ℕ). get_or (table_modules t ++ table_events t) j 0) o

  bit_at : (n : ℕ) (f : ℕ → ℕ) (at : ℕ → ℕ) → ((k : ℕ) → f k ≡ field t (at k) 1) → (k : ℕ) → k < n → f k ≡ flag (get_or (map (λ i. eqb (f i) 1) (below n)) k false)
  bit_at n f at e k h =
      let b : f k < 2 = subst (λ (x : ℕ). x < 2) (sym (e k)) (field_lt t (at k) 1) in
      sym (flag-test (f k) b) ∙ ap flag (sym (below_at (λ i. eqb (f i) 1) n k false h))

-- ---- the fields say it

module _ (t : List ℕ) (laid : layout t ≡ 1) where
  entry-possible : (s l : ℕ) → possible_at t s l ≡ flag (entry_in t s l).possible
  unfolding entry_in
  entry-possible s l = sym (flag-test (possible_at t s l) (field_lt t (place (module_count t) (event_count t) s l) 1))

  entry_next : (s l : ℕ) → next_at t s l ≡ (entry_in t s l).next
  unfolding entry_in
  entry_next s l = refl

  entry-order : (s l k : ℕ) → k < module_count t → order_at t s l k ≡ get_or (entry_in t s l).orders k 0
  unfolding entry_in
  entry-order s l k h = sym (below_at (λ m. order_at t s l m) (module_count t) k 0 h)

  pub in-says : Says t (table_in t)
  unfolding table_in
  in-says =
      let lm = modules-length t in
      let le = events-length t in
      let lr = rows-length t in
      record {
        laid = laid;
        modules = sym lm;
        events = sym le;
        states = sym lr;
        name = λ i q. name-at t i (omega arith);
        fugitive = λ e q. bit_at t (event_count t) (fugitive_at t) (λ k. 24 + 5 * letter_count t + k) (λ k. refl) e (omega arith);
        start = λ m q. bit_at t (module_count t) (start_at t) (λ k. 24 + 5 * letter_count t + event_count t + k) (λ k. refl) m (omega arith);
        possible = λ s l hs hl. entry-possible s l ∙ ap (λ (e : Entry). flag e.possible) (sym (entry-at t s l (omega arith) (omega arith)));
        next = λ s l hs hl. entry_next s l ∙ ap (λ (e : Entry). e.next) (sym (entry-at t s l (omega arith) (omega arith)));
        order =
            λ s l k hs hl hk.
            entry-order s l k (omega arith) ∙ ap (λ (e : Entry). get_or e.orders k 0) (sym (entry-at t s l (omega arith) (omega arith)));
      }

-- ---- in range

module _ (t : List ℕ) (from n : ℕ) (h : ascend t from n ≡ true) where
  test_at : (k : ℕ) → k < n → (leb (name_at t (from + k)) 25 && (eqb k 0 || ltb (name_at t (from + k - 1)) (name_at t (from + k)))) ≡ true
  unfolding ascend
  test_at = every-at n (λ k. leb (name_at t (from + k)) 25 && (eqb k 0 || ltb (name_at t (from + k - 1)) (name_at t (from + k)))) h

  name-small : (k : ℕ) → k < n → name_at t (from + k) ≤ 25
  name-small k q =
      leb-true (name_at t (from + k)) 25
      (and_both (leb (name_at t (from + k)) 25) (eqb k 0 || ltb (name_at t (from + k - 1)) (name_at t (from + k))) (test_at k q)).0

  name-above : (k : ℕ) → suc k < n → name_at t (from + k) < name_at t (from + suc k)
  name-above k q = by (or_cases (eqb (suc k) 0) (ltb (name_at t (from + suc k - 1)) (name_at t (from + suc k))) second)
    where
      second : (eqb (suc k) 0 || ltb (name_at t (from + suc k - 1)) (name_at t (from + suc k))) ≡ true
      second =
          (and_both (leb (name_at t (from + suc k)) 25) (eqb (suc k) 0 || ltb (name_at t (from + suc k - 1)) (name_at t (from + suc k))) (test_at (suc k) q)).1

      by : (eqb (suc k) 0 ≡ true) ⊎ (ltb (name_at t (from + suc k - 1)) (name_at t (from + suc k)) ≡ true) → name_at t (from + k) < name_at t (from + suc k)
      by (inl e) = absurd (no (eqb-true (suc k) 0 e))
        where
          no : suc k ≡ 0 → ⊥
          no z = omega arith
      by (inr l) =
          let e : from + suc k - 1 ≡ from + k = omega arith in
          subst (λ (i : ℕ). name_at t i < name_at t (from + suc k)) e (ltb-true (name_at t (from + suc k - 1)) (name_at t (from + suc k)) l)

module _ (t : List ℕ) (r : Right t) where
  layout_is : layout t ≡ 1
  unfolding wrong_layout
  layout_is = eqb-true (layout t) 1 (not-false (eqb (layout t) 1) r.layout)

  counts : (module_count t ≤ 8) × ((event_count t ≤ 8) × (state_count t ≤ 512))
  unfolding wrong_count
  counts =
      let b = not-false (leb (module_count t) 8 && leb (event_count t) 8 && leb (state_count t) 512) r.count in
      let c = and_both (leb (module_count t) 8 && leb (event_count t) 8) (leb (state_count t) 512) b in
      let d = and_both (leb (module_count t) 8) (leb (event_count t) 8) c.0 in
      (leb-true (module_count t) 8 d.0, (leb-true (event_count t) 8 d.1, leb-true (state_count t) 512 c.1))

  ascend-both : (ascend t 0 (module_count t) ≡ true) × (ascend t (module_count t) (event_count t) ≡ true)
  unfolding wrong_name
  ascend-both =
      and_both (ascend t 0 (module_count t)) (ascend t (module_count t) (event_count t))
      (not-false (ascend t 0 (module_count t) && ascend t (module_count t) (event_count t)) r.name)

  next_is : (s l : ℕ) → s < state_count t → l < letter_count t → next_at t s l < state_count t
  unfolding wrong_next
  next_is s l hs hl =
      let q : (s l : ℕ) → Bool = λ s l. ltb (next_at t s l) (state_count t) in
      let e = not-false (every (state_count t) (λ s. every (letter_count t) (q s))) r.next in
      ltb-true (next_at t s l) (state_count t) (every-at (letter_count t) (q s) (every-at (state_count t) (λ s. every (letter_count t) (q s)) e s hs) l hl)

  zeros-are : (s l : ℕ) → s < state_count t → l < letter_count t → (possible_at t s l ≡ 1 → ⊥) → zeros t s l ≡ true
  unfolding wrong_zeros
  zeros-are s l hs hl h =
      let q : (s l : ℕ) → Bool = λ s l. eqb (possible_at t s l) 1 || zeros t s l in
      let e = not-false (every (state_count t) (λ s. every (letter_count t) (q s))) r.zeros in
      by (or_cases (eqb (possible_at t s l) 1) (zeros t s l) (every-at (letter_count t) (q s) (every-at (state_count t) (λ s. every (letter_count t) (q s)) e s hs) l hl))
    where
      by : (eqb (possible_at t s l) 1 ≡ true) ⊎ (zeros t s l ≡ true) → zeros t s l ≡ true
      by (inl e) = absurd (h (eqb-true (possible_at t s l) 1 e))
      by (inr e) = e

  event-is : (s e : ℕ) → s < state_count t → e < event_count t → possible_at t s (module_count t + e) ≡ 1
  unfolding wrong_event
  event-is s e hs he =
      let q : (s e : ℕ) → Bool = λ s e. eqb (possible_at t s (module_count t + e)) 1 in
      let b = not-false (every (state_count t) (λ s. every (event_count t) (q s))) r.event in
      eqb-true (possible_at t s (module_count t + e)) 1 (every-at (event_count t) (q s) (every-at (state_count t) (λ s. every (event_count t) (q s)) b s hs) e he)

  start_is : (m : ℕ) → m < module_count t → start_at t m ≡ possible_at t 0 m
  unfolding wrong_start
  start_is m h =
      let q : ℕ → Bool = λ m. eqb (start_at t m) (possible_at t 0 m) in
      eqb-true (start_at t m) (possible_at t 0 m) (every-at (module_count t) q (not-false (every (module_count t) q) r.start) m h)

  some_states : 1 ≤ state_count t
  unfolding state_count
  some_states = omega arith

  modules-ascend : Ascending (table_modules t)
  modules-ascend =
      let e = modules-length t in
      let a = ascend-both.0 in
      record {
        small = λ i q. subst (λ (n : ℕ). n ≤ 25) (ap (name_at t) (none i) ∙ sym (module_at t i (omega arith))) (name-small t 0 (module_count t) a i (omega arith));
        above =
            λ i q.
            subst₂ (ap (name_at t) (none i) ∙ sym (module_at t i (omega arith))) (ap (name_at t) (none (suc i)) ∙ sym (module_at t (suc i) (omega arith)))
            (name-above t 0 (module_count t) a i (omega arith));
      }
    where
      none : (k : ℕ) → 0 + k ≡ k
      none k = omega arith

      subst₂ : {x y u v : ℕ} → x ≡ u → y ≡ v → x < y → u < v
      subst₂ p q l = omega arith

  events-ascend : Ascending (table_events t)
  events-ascend =
      let e = events-length t in
      let a = ascend-both.1 in
      record {
        small = λ i q. subst (λ (n : ℕ). n ≤ 25) (sym (event_at t i (omega arith))) (name-small t (module_count t) (event_count t) a i (omega arith));
        above =
            λ i q. omega (arith, event_at t i (omega arith), event_at t (suc i) (omega arith), name-above t (module_count t) (event_count t) a i (omega arith));
      }

  entry-in-range : (s l : ℕ) → s < state_count t → l < letter_count t → EntryInRange (module_count t) (state_count t) (entry_in t s l)
  unfolding entry_in zeros
  entry-in-range s l hs hl =
      record {
        next = next_is s l hs hl;
        count = below_length (λ m. order_at t s l m) (module_count t);
        order =
            λ k q.
            subst (λ (n : ℕ). n < 4) (sym (below_at (λ m. order_at t s l m) (module_count t) k 0 q))
            (field_lt t (place (module_count t) (event_count t) s l + 10 + 2 * k) 2);
        zero_next = λ e. eqb-true (next_at t s l) 0 (both e).0;
        zero_order =
            λ e k q.
            below_at (λ m. order_at t s l m) (module_count t) k 0 q
            ∙ eqb-true (order_at t s l k) 0 (every-at (module_count t) (λ m. eqb (order_at t s l m) 0) (both e).1 k q);
      }
    where
      both : eqb (possible_at t s l) 1 ≡ false → (eqb (next_at t s l) 0 ≡ true) × (every (module_count t) (λ m. eqb (order_at t s l m) 0) ≡ true)
      both e =
          and_both (eqb (next_at t s l) 0) (every (module_count t) (λ m. eqb (order_at t s l m) 0)) (zeros-are s l hs hl (eqb-false (possible_at t s l) 1 e))

  possible-in : (s l : ℕ) → s < state_count t → l < letter_count t → (entry_at (table_in t) s l).possible ≡ eqb (possible_at t s l) 1
  unfolding entry_in
  possible-in s l hs hl = ap (λ (e : Entry). e.possible) (entry-at t s l hs hl)

  pub in_range : InRange (table_in t)
  unfolding table_in
  in_range =
      let lm = modules-length t in
      let le = events-length t in
      let lr = rows-length t in
      let ll = letters-are t in
      let c = counts in
      let some = some_states in
      record {
        few_modules = omega arith;
        few_events = omega arith;
        some_states = omega arith;
        few_states = omega arith;
        modules = modules-ascend;
        events = events-ascend;
        fugitive = below_length (λ e. eqb (fugitive_at t e) 1) (event_count t) ∙ sym le;
        running = below_length (λ m. eqb (start_at t m) 1) (module_count t) ∙ sym lm;
        row = λ s q. ap length (row_at t s (omega arith)) ∙ below_length (entry_in t s) (letter_count t) ∙ sym ll;
        entry =
            λ s l hs hl.
            subst (λ (e : Entry). EntryInRange (length (table_modules t)) (length (table_in t).rows) e) (sym (entry-at t s l (omega arith) (omega arith)))
            (subst (λ (n : ℕ). EntryInRange (length (table_modules t)) n (entry_in t s l)) (sym lr)
            (subst (λ (n : ℕ). EntryInRange n (state_count t) (entry_in t s l)) (sym lm) (entry-in-range s l (omega arith) (omega arith))));
        event =
            λ s e hs he.
            ap (λ (n : ℕ). (entry_at (table_in t) s (n + e)).possible) lm ∙ possible-in s (module_count t + e) (omega arith) (omega arith)
            ∙ eq-eqb (possible_at t s (module_count t + e)) 1 (event-is s e (omega arith) (omega arith));
        start =
            λ m q.
            below_at (λ k. eqb (start_at t k) 1) (module_count t) m false (omega arith) ∙ ap (λ (x : ℕ). eqb x 1) (start_is m (omega arith))
            ∙ sym (possible-in 0 m some (omega arith));
      }

-- ---- the writing of what stands there

bits-zero : (w : ℕ) → bits w 0 ≡ replicate w 0
unfolding bits
bits-zero zero = refl
bits-zero (suc w) = ap₂ (λ (b : ℕ) (l : List ℕ). (b % 2) ∷ l) (zero-div (2 ^ w)) (bits-zero w)

module _ (t : List ℕ) (r : Right t) where
  ends : length t ≡ (bit_count t + 7) / 8
  unfolding wrong_length
  ends = eqb-true (length t) ((bit_count t + 7) / 8) (not-false (eqb (length t) ((bit_count t + 7) / 8)) r.long)

  padding-is : number_from 0 (drop (bit_count t) (bits_of t)) ≡ 0
  unfolding wrong_padding
  padding-is = eqb-true (number_from 0 (drop (bit_count t) (bits_of t))) 0 (not-false (eqb (number_from 0 (drop (bit_count t) (bits_of t))) 0) r.padding)

  padding-zeros : drop (bit_count t) (bits_of t) ≡ replicate (8 * length t - bit_count t) 0
  padding-zeros =
      let l : List ℕ = drop (bit_count t) (bits_of t) in
      let w : ℕ = 8 * length t - bit_count t in
      let e : length l ≡ w = length-drop (bit_count t) (bits_of t) ∙ ap (λ (n : ℕ). n - bit_count t) (bits_of-length t) in
      sym (bits-number w l e (drop-are (bit_count t) (bits_of t) (bits_of-are t))) ∙ ap (bits w) padding-is ∙ bits-zero w

  bit-count : length (table_bits (table_in t)) ≡ bit_count t
  unfolding table_in
  bit-count =
      table-length (table_in t) (in_range t r) ∙ ap₂ (λ (x y : ℕ). place x y (length (table_in t).rows) 0) (modules-length t) (events-length t)
      ∙ ap (λ (k : ℕ). place (module_count t) (event_count t) k 0) (rows-length t)

  bits-are-all : bits_of t ≡ table_bits (table_in t) ++ replicate (8 * length t - bit_count t) 0
  bits-are-all =
      let e = ends in
      let front : take (length (table_bits (table_in t))) (bits_of t) ≡ table_bits (table_in t) =
      laid-all (table_in t) (in_range t r) (bits_of t) (says-laid t (table_in t) (in_range t r) (omega arith) (in-says t (layout_is t r)))
      in
      sym (take-append-drop (length (table_bits (table_in t))) (bits_of t))
      ∙ ap₂ (λ (x y : List ℕ). x ++ y) front (ap (λ (n : ℕ). drop n (bits_of t)) bit-count ∙ padding-zeros)

  pub right-written : Bytes t → written (table_in t) ≡ t
  unfolding written
  right-written b =
      let e = ends in
      packed-is t (table_bits (table_in t)) (8 * length t - bit_count t) b (omega arith) bits-are-all
