-- What is written reads back: each field of the writing of a table in range is the table's part (`written-says`), so the table that stands in it is that
-- table (`written_read`), and no two have one writing (`written_once`). Assumes nothing.
use Prim.Native.Nat.{ℕ, ◌+◌, ◌-◌, ◌/◌, ◌≤◌, ◌<◌}
use mathlib.Core.Path.{◌≡◌, refl, sym, ap, ◌∙◌, subst}
use mathlib.Core.Bool.{Bool, true, false}
use mathlib.Core.List.{List, [], ◌++◌, map, append-nil, append_assoc}
use native.Mathlib.Omega.{arith}
use lib.Dec.{eqb, lit<}
use lib.ListN.{length, get_or, take, replicate, get_or-append}
use lib.Seq.{get_or-append-add, take_at}
use Rattle.paper.specs.Lists.{gather, below}
use Rattle.paper.specs.Table.{Entry, Table, flag, bits, entry_bits, head_bits, table_bits, written}
use Rattle.paper.specs.IsTable.{bits_of, module_count, event_count, state_count, letter_count, name_at, start_at, possible_at, order_at, table_modules, table_events}
use Rattle.fields.specs.Window.{Bytes}
use Rattle.fields.proofs.Fields.{AreBits, bits_are}
use Rattle.layout.specs.Places.{place}
use Rattle.layout.specs.InRange.{letter_count_of, no_entry, entry_at, InRange}
use Rattle.layout.specs.Says.{fugitive_at, Says, entry_in, table_in}
use Rattle.layout.proofs.Places.{end-le}
use Rattle.layout.proofs.Lists.{below-is}
use Rattle.layout.proofs.Packs.{are-append, are-gather, Filled, packed-filled, filled-length}
use Rattle.layout.proofs.Parts.{bit, entry-parts, table-parts, names, table-length, all_laid}
use Rattle.layout.proofs.Spoken.{laid-says}

-- ---- the bits of a table are bits

number-are : (w v : ℕ) → AreBits (bits w v)
number-are w v = subst AreBits (append-nil (bits w v)) (bits_are w v [] (λ i. lit< tt))

entry-are : (e : Entry) → AreBits (entry_bits e)
entry-are e =
    subst AreBits (sym (entry-parts e))
    (bits_are 1 (flag e.possible) (bits 9 e.next ++ gather (bits 2) e.orders)
    (bits_are 9 e.next (gather (bits 2) e.orders) (are-gather (bits 2) (number-are 2) e.orders)))

head-are : (a : Table) (r : List ℕ) → AreBits r → AreBits (head_bits a ++ r)
unfolding head_bits
head-are a r h =
    let m : ℕ = length a.modules in
    let n : ℕ = length a.events in
    let s : ℕ = length a.rows - 1 in
    let e : head_bits a ++ r ≡ bits 4 1 ++ (bits 4 m ++ (bits 4 n ++ (bits 12 s ++ r))) = simp append_assoc in
    subst AreBits (sym e)
    (bits_are 4 1 (bits 4 m ++ (bits 4 n ++ (bits 12 s ++ r)))
    (bits_are 4 m (bits 4 n ++ (bits 12 s ++ r)) (bits_are 4 n (bits 12 s ++ r) (bits_are 12 s r h))))

table-are : (a : Table) → AreBits (table_bits a)
table-are a =
    let rs : List ℕ = gather (gather entry_bits) a.rows in
    let hr : AreBits rs = are-gather (gather entry_bits) (are-gather entry_bits entry-are) a.rows in
    let flags : (bs : List Bool) → AreBits (gather bit bs) = are-gather bit (λ b. number-are 1 (flag b)) in
    subst AreBits (sym (table-parts a))
    (head-are a (gather (bits 5) (names a) ++ (gather bit a.fugitive ++ (gather bit a.running ++ rs)))
    (are-append (gather (bits 5) (names a)) (gather bit a.fugitive ++ (gather bit a.running ++ rs)) (are-gather (bits 5) (number-are 5) (names a))
    (are-append (gather bit a.fugitive) (gather bit a.running ++ rs) (flags a.fugitive) (are-append (gather bit a.running) rs (flags a.running) hr))))

-- ---- the writing

pub written-filled : (a : Table) → Filled (table_bits a) (written a)
unfolding written
written-filled a = packed-filled (table_bits a) (table-are a)

pub written-bytes : (a : Table) → Bytes (written a)
written-bytes a = (written-filled a).bytes

pub written-says : (a : Table) → InRange a → Says (written a) a
written-says a h =
    let f = written-filled a in
    laid-says (written a) a h
    (all_laid a h (bits_of (written a)) (ap (take (length (table_bits a))) f.are ∙ take_at (table_bits a) (replicate f.pad 0) (length (table_bits a)) refl))

pub written-length : (a : Table) → InRange a → length (written a) ≡ (place (length a.modules) (length a.events) (length a.rows) 0 + 7) / 8
written-length a h = filled-length (table_bits a) (written a) (written-filled a) ∙ ap (λ (n : ℕ). (n + 7) / 8) (table-length a h)

-- "26,640": the largest has one byte less
pub written-short : (a : Table) → InRange a → length (written a) ≤ 26639
written-short a h =
    let m = h.few_modules in
    let n = h.few_events in
    omega (arith, written-length a h, end-le (length a.modules) (length a.events) (length a.rows) (omega arith) (omega arith) h.few_states)

-- ---- what bytes say is one table

pub flag_is : (b : Bool) → eqb (flag b) 1 ≡ b
flag_is true = refl
flag_is false = refl

module _ (t : List ℕ) (a : Table) (h : InRange a) (r : Says t a) where
  pub modules_are : table_modules t ≡ a.modules
  unfolding table_modules
  modules_are =
      let e = r.modules in
      below-is (name_at t) (module_count t) a.modules 0 (sym e)
      (λ i q. r.name i (omega arith) ∙ get_or-append a.modules a.events 0 i (omega arith))

  pub events_are : table_events t ≡ a.events
  unfolding table_events
  events_are =
      let e = r.events in
      below-is (λ i. name_at t (module_count t + i)) (event_count t) a.events 0 (sym e)
      (λ i q. ap (λ (k : ℕ). name_at t (k + i)) r.modules ∙ r.name (length a.modules + i) (omega arith) ∙ get_or-append-add a.modules a.events i 0)

  fugitive_are : map (λ e. eqb (fugitive_at t e) 1) (below (event_count t)) ≡ a.fugitive
  fugitive_are =
      let e = r.events in
      below-is (λ e. eqb (fugitive_at t e) 1) (event_count t) a.fugitive false (h.fugitive ∙ sym e)
      (λ i q. ap (λ (k : ℕ). eqb k 1) (r.fugitive i (omega arith)) ∙ flag_is (get_or a.fugitive i false))

  running_are : map (λ m. eqb (start_at t m) 1) (below (module_count t)) ≡ a.running
  running_are =
      let e = r.modules in
      below-is (λ m. eqb (start_at t m) 1) (module_count t) a.running false (h.running ∙ sym e)
      (λ i q. ap (λ (k : ℕ). eqb k 1) (r.start i (omega arith)) ∙ flag_is (get_or a.running i false))

  entry_is : (s l : ℕ) → s < length a.rows → l < letter_count_of a → entry_in t s l ≡ entry_at a s l
  unfolding entry_in
  entry_is s l hs hl =
      let e = r.modules in
      let p : eqb (possible_at t s l) 1 ≡ (entry_at a s l).possible = ap (λ (k : ℕ). eqb k 1) (r.possible s l hs hl) ∙ flag_is (entry_at a s l).possible in
      let o : map (λ m. order_at t s l m) (below (module_count t)) ≡ (entry_at a s l).orders =
      below-is (λ m. order_at t s l m) (module_count t) (entry_at a s l).orders 0 ((h.entry s l hs hl).count ∙ sym e) (λ i q. r.order s l i hs hl (omega arith))
      in
      λ i. record { possible = p i; next = r.next s l hs hl i; orders = o i }

  rows_are : map (λ s. map (entry_in t s) (below (letter_count t))) (below (state_count t)) ≡ a.rows
  rows_are =
      let e = r.states in
      let m = r.modules in
      let n = r.events in
      below-is (λ s. map (entry_in t s) (below (letter_count t))) (state_count t) a.rows [] (sym e)
      (λ s q.
      let hs : s < length a.rows = omega arith in
      let row = h.row s hs in
      below-is (entry_in t s) (letter_count t) (get_or a.rows s []) no_entry (omega arith) (λ l k. entry_is s l hs (omega arith)))

  pub says_is : table_in t ≡ a
  unfolding table_in
  says_is = λ i. record { modules = modules_are i; events = events_are i; fugitive = fugitive_are i; running = running_are i; rows = rows_are i }

pub written_read : (a : Table) → InRange a → table_in (written a) ≡ a
written_read a h = says_is (written a) a h (written-says a h)

-- "and of one only"
pub written_once : (a b : Table) → InRange a → InRange b → written a ≡ written b → a ≡ b
written_once a b h k e = sym (written_read a h) ∙ ap table_in e ∙ written_read b k
