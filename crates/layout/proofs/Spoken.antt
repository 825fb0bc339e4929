-- The parts of a table stand in the bits of bytes exactly when each field of the bytes is the table's: a part is read piece by piece, and a piece is
-- the bits of a number that fits. Assumes nothing.
use Prim.Native.Nat.{ℕ, ◌+◌, ◌-◌, ◌*◌, ◌^◌, ◌≤◌, ◌<◌}
use mathlib.Core.Path.{◌≡◌, refl, sym, ap, ap₂, ◌∙◌, subst}
use mathlib.Core.Bool.{Bool, true, false}
use mathlib.Core.List.{List, [], ◌++◌}
use native.Mathlib.Nat.{mul_comm, mul-le-mul_right}
use native.Mathlib.Decide.{dec_lt}
use native.Mathlib.Omega.{arith}
use lib.Dec.{lit<}
use lib.ListN.{length, get_or, length-append, get_or-append}
use lib.Seq.{get_or-append-add}
use Rattle.paper.specs.Lists.{gather}
use Rattle.paper.specs.Table.{Entry, Table, flag, bits, entry_bits, head_bits}
use Rattle.paper.specs.IsTable.{bits_of, field, layout, module_count, event_count, state_count, bit_count}
use Rattle.fields.proofs.Bits.{bits-length}
use Rattle.layout.specs.Places.{place}
use Rattle.layout.specs.InRange.{no_entry, entry_at, Ascending, EntryInRange, InRange}
use Rattle.layout.specs.Says.{Says}
use Rattle.layout.proofs.Places.{turn, row-place, entry-within}
use Rattle.layout.proofs.Stands.{Stands, stands-join, stands-first, stands-rest, pieces-join, piece-at, field-stands, stands-field}
use Rattle.layout.proofs.Parts.{bit, entry-parts, names, entry-long, row-long, Laid}

-- ---- one number, and numbers side by side

module _ (t : List ℕ) where
  number-stands : (at w v : ℕ) → at + w ≤ 8 * length t → field t at w ≡ v → Stands (bits_of t) at (bits w v)
  number-stands at w v h e = subst (λ (x : ℕ). Stands (bits_of t) at (bits w x)) e (stands-field t at w h)

  module _ {A : Type 0} (f : A → ℕ) (d : A) (w at : ℕ) (xs : List A) where
    numbers-read : ((k : ℕ) → k < length xs → f (get_or xs k d) < 2 ^ w) → Stands (bits_of t) at (gather (λ x. bits w (f x)) xs)
        → (k : ℕ) → k < length xs → field t (at + w * k) w ≡ f (get_or xs k d)
    numbers-read h p k q =
        ap (λ (n : ℕ). field t (at + n) w) (mul_comm w k)
        ∙ field-stands t (at + k * w) w (f (get_or xs k d)) (h k q)
        (piece-at (λ x. bits w (f x)) d w (bits_of t) xs at (λ i r. bits-length w (f (get_or xs i d))) p k q)

    numbers-stand : at + length xs * w ≤ 8 * length t → ((k : ℕ) → k < length xs → field t (at + w * k) w ≡ f (get_or xs k d))
        → Stands (bits_of t) at (gather (λ x. bits w (f x)) xs)
    numbers-stand h p =
        pieces-join (λ x. bits w (f x)) d w (bits_of t) xs at (λ i r. bits-length w (f (get_or xs i d)))
        (λ k q.
        let l : (k + 1) * w ≤ length xs * w = mul-le-mul_right w (omega arith) in
        number-stands (at + k * w) w (f (get_or xs k d)) (omega (arith, turn k w)) (ap (λ (n : ℕ). field t (at + n) w) (mul_comm k w) ∙ p k q))

flag_small : (b : Bool) → flag b < 2 ^ 1
flag_small true = lit< tt
flag_small false = lit< tt

-- ---- an entry

-- the fields of t from a place on are those of the entry e, with m orders
record EntryRead (t : List ℕ) (at m : ℕ) (e : Entry) : Type 0 where
  possible : field t at 1 ≡ flag e.possible
  next : field t (at + 1) 9 ≡ e.next
  order : (k : ℕ) → k < m → field t (at + 10 + 2 * k) 2 ≡ get_or e.orders k 0

module _ (t : List ℕ) (at m n : ℕ) (few : n ≤ 512) (e : Entry) (h : EntryInRange m n e) where
  entry_read : Stands (bits_of t) at (entry_bits e) → EntryRead t at m e
  entry_read p =
      let b : List ℕ = bits_of t in
      let os : List ℕ = gather (bits 2) e.orders in
      let p0 : Stands b at (bit e.possible ++ (bits 9 e.next ++ os)) = subst (Stands b at) (entry-parts e) p in
      let p1 : Stands b (at + 1) (bits 9 e.next ++ os) =
      stands-rest b at 1 (at + 1) (bit e.possible) (bits 9 e.next ++ os) (bits-length 1 (flag e.possible)) refl p0
      in
      let p2 : Stands b (at + 10) os = stands-rest b (at + 1) 9 (at + 10) (bits 9 e.next) os (bits-length 9 e.next) (omega arith) p1 in
      let c = h.count in
      let l = h.next in
      record {
        possible = field-stands t at 1 (flag e.possible) (flag_small e.possible) (stands-first b at (bit e.possible) (bits 9 e.next ++ os) p0);
        next = field-stands t (at + 1) 9 e.next (omega arith) (stands-first b (at + 1) (bits 9 e.next) os p1);
        order = λ k q. numbers-read t (λ x. x) 0 2 (at + 10) e.orders (λ i r. omega (arith, h.order i (omega arith))) p2 k (omega arith);
      }

  entry-stands : at + (10 + 2 * m) ≤ 8 * length t → EntryRead t at m e → Stands (bits_of t) at (entry_bits e)
  entry-stands w r =
      let b : List ℕ = bits_of t in
      let os : List ℕ = gather (bits 2) e.orders in
      let c = h.count in
      subst (Stands b at) (sym (entry-parts e))
      (stands-join b at 1 (at + 1) (bit e.possible) (bits 9 e.next ++ os) (bits-length 1 (flag e.possible)) refl
      (number-stands t at 1 (flag e.possible) (omega arith) r.possible)
      (stands-join b (at + 1) 9 (at + 10) (bits 9 e.next) os (bits-length 9 e.next) (omega arith)
      (number-stands t (at + 1) 9 e.next (omega arith) r.next)
      (numbers-stand t (λ x. x) 0 2 (at + 10) e.orders (omega arith) (λ k q. r.order k (omega arith)))))

-- ---- the head

module _ (t : List ℕ) (a : Table) (h : InRange a) where
  -- the counts of t are those of a
  record Counted : Type 0 where
    laid : layout t ≡ 1
    modules : module_count t ≡ length a.modules
    events : event_count t ≡ length a.events
    states : state_count t ≡ length a.rows

  head_read : Stands (bits_of t) 0 (head_bits a) → Counted
  unfolding head_bits layout module_count event_count state_count
  head_read p =
      let b : List ℕ = bits_of t in
      let m : ℕ = length a.modules in
      let n : ℕ = length a.events in
      let s : ℕ = length a.rows - 1 in
      let some = h.some_states in
      let few = h.few_states in
      let p0 : Stands b 0 (bits 4 1 ++ bits 4 m ++ bits 4 n) = stands-first b 0 (bits 4 1 ++ bits 4 m ++ bits 4 n) (bits 12 s) p in
      let p1 : Stands b 0 (bits 4 1 ++ bits 4 m) = stands-first b 0 (bits 4 1 ++ bits 4 m) (bits 4 n) p0 in
      let two : length (bits 4 1 ++ bits 4 m) ≡ 8 = simp (length-append, bits-length) in
      let three : length (bits 4 1 ++ bits 4 m ++ bits 4 n) ≡ 12 = simp (length-append, bits-length) in
      let fits : field t 12 12 ≡ s = field-stands t 12 12 s (omega arith) (stands-rest b 0 12 12 (bits 4 1 ++ bits 4 m ++ bits 4 n) (bits 12 s) three refl p) in
      record {
        laid = field-stands t 0 4 1 (lit< tt) (stands-first b 0 (bits 4 1) (bits 4 m) p1);
        modules = field-stands t 4 4 m (omega (arith, h.few_modules)) (stands-rest b 0 4 4 (bits 4 1) (bits 4 m) (bits-length 4 1) refl p1);
        events = field-stands t 8 4 n (omega (arith, h.few_events)) (stands-rest b 0 8 8 (bits 4 1 ++ bits 4 m) (bits 4 n) two refl p0);
        states = omega arith;
      }

  head-stands : 24 ≤ 8 * length t → Counted → Stands (bits_of t) 0 (head_bits a)
  unfolding head_bits layout module_count event_count state_count
  head-stands w c =
      let b : List ℕ = bits_of t in
      let m : ℕ = length a.modules in
      let n : ℕ = length a.events in
      let s : ℕ = length a.rows - 1 in
      let e = c.states in
      let two : length (bits 4 1 ++ bits 4 m) ≡ 8 = simp (length-append, bits-length) in
      let three : length (bits 4 1 ++ bits 4 m ++ bits 4 n) ≡ 12 = simp (length-append, bits-length) in
      stands-join b 0 12 12 (bits 4 1 ++ bits 4 m ++ bits 4 n) (bits 12 s) three refl
      (stands-join b 0 8 8 (bits 4 1 ++ bits 4 m) (bits 4 n) two refl
      (stands-join b 0 4 4 (bits 4 1) (bits 4 m) (bits-length 4 1) refl (number-stands t 0 4 1 (omega arith) c.laid)
      (number-stands t 4 4 m (omega arith) c.modules))
      (number-stands t 8 4 n (omega arith) c.events))
      (number-stands t 12 12 s (omega arith) (omega arith))

-- ---- the whole

names-small : (ms es : List ℕ) → Ascending ms → Ascending es → (i : ℕ) → i < length (ms ++ es) → get_or (ms ++ es) i 0 ≤ 25
names-small ms es hm he i q = by (dec_lt i (length ms))
  where
    by : Dec (i < length ms) → get_or (ms ++ es) i 0 ≤ 25
    by (yes l) = subst (λ (n : ℕ). n ≤ 25) (sym (get_or-append ms es 0 i l)) (hm.small i l)
    by (no l) =
        let k : ℕ = i - length ms in
        let o : length ms + k ≡ i = omega arith in
        let r : k < length es = omega (arith, length-append ms es) in
        subst (λ (n : ℕ). n ≤ 25) (sym (get_or-append-add ms es k 0) ∙ ap (λ (j : ℕ). get_or (ms ++ es) j 0) o) (he.small k r)

module _ (t : List ℕ) (a : Table) (h : InRange a) where
  abbrev m : ℕ
  m = length a.modules

  abbrev n : ℕ
  n = length a.events

  pub laid-says : Laid (bits_of t) a → Says t a
  laid-says p =
      let c : Counted t a h = head_read t a h p.head in
      let b : List ℕ = bits_of t in
      let hm : module_count t ≡ m = c.modules in
      let hn : event_count t ≡ n = c.events in
      let ln : length (names a) ≡ m + n = length-append a.modules a.events in
      let lf = h.fugitive in
      let lr = h.running in
      let entry : (s l : ℕ) → s < length a.rows → l < m + n → EntryRead t (place (module_count t) (event_count t) s l) m (entry_at a s l) =
      λ s l hs hl.
      subst (λ (at : ℕ). EntryRead t at m (entry_at a s l)) (row-place m n s l ∙ ap₂ (λ (x y : ℕ). place x y s l) (sym hm) (sym hn))
      (entry_read t (24 + 6 * (m + n) + s * ((m + n) * (10 + 2 * m)) + l * (10 + 2 * m)) m (length a.rows) h.few_states (entry_at a s l) (h.entry s l hs hl)
      (piece-at entry_bits no_entry (10 + 2 * m) b (get_or a.rows s []) (24 + 6 * (m + n) + s * ((m + n) * (10 + 2 * m))) (entry-long a h s hs)
      (piece-at (gather entry_bits) [] ((m + n) * (10 + 2 * m)) b a.rows (24 + 6 * (m + n)) (row-long a h) p.rows s hs)
      l (subst (λ (k : ℕ). l < k) (sym (h.row s hs)) hl)))
      in
      record {
        laid = c.laid;
        modules = hm;
        events = hn;
        states = c.states;
        name = λ i q. numbers-read t (λ x. x) 0 5 24 (names a) (λ k r. omega (arith, names-small a.modules a.events h.modules h.events k r)) p.names i (omega arith);
        fugitive =
            λ e q.
            let o : 24 + 5 * (module_count t + event_count t) + e ≡ 24 + 5 * (m + n) + 1 * e = omega arith in
            ap (λ (k : ℕ). field t k 1) o
            ∙ numbers-read t flag false 1 (24 + 5 * (m + n)) a.fugitive (λ k r. flag_small (get_or a.fugitive k false)) p.fugitive e (omega arith);
        start =
            λ k q.
            let o : 24 + 5 * (module_count t + event_count t) + event_count t + k ≡ 24 + 5 * (m + n) + n + 1 * k = omega arith in
            ap (λ (j : ℕ). field t j 1) o
            ∙ numbers-read t flag false 1 (24 + 5 * (m + n) + n) a.running (λ i r. flag_small (get_or a.running i false)) p.running k (omega arith);
        possible = λ s l hs hl. (entry s l hs hl).possible;
        next = λ s l hs hl. (entry s l hs hl).next;
        order = λ s l k hs hl hk. (entry s l hs hl).order k hk;
      }

  pub says-laid : bit_count t ≤ 8 * length t → Says t a → Laid (bits_of t) a
  says-laid w r =
      let b : List ℕ = bits_of t in
      let hm : module_count t ≡ m = r.modules in
      let hn : event_count t ≡ n = r.events in
      let hs : state_count t ≡ length a.rows = r.states in
      let ln : length (names a) ≡ m + n = length-append a.modules a.events in
      let lf = h.fugitive in
      let lr = h.running in
      let ends : place m n (length a.rows) 0 ≤ 8 * length t =
      subst (λ (k : ℕ). k ≤ 8 * length t) (ap₂ (λ (x y : ℕ). place x y (state_count t) 0) hm hn ∙ ap (λ (k : ℕ). place m n k 0) hs) w
      in
      record {
        head = head-stands t a h (omega arith) (record { laid = r.laid; modules = hm; events = hn; states = hs });
        names = numbers-stand t (λ x. x) 0 5 24 (names a) (omega arith) (λ k q. r.name k (omega arith));
        fugitive =
            numbers-stand t flag false 1 (24 + 5 * (m + n)) a.fugitive (omega arith)
            (λ e q.
            let o : 24 + 5 * (m + n) + 1 * e ≡ 24 + 5 * (module_count t + event_count t) + e = omega arith in
            ap (λ (k : ℕ). field t k 1) o ∙ r.fugitive e (omega arith));
        running =
            numbers-stand t flag false 1 (24 + 5 * (m + n) + n) a.running (omega arith)
            (λ k q.
            let o : 24 + 5 * (m + n) + n + 1 * k ≡ 24 + 5 * (module_count t + event_count t) + event_count t + k = omega arith in
            ap (λ (j : ℕ). field t j 1) o ∙ r.start k (omega arith));
        rows =
            pieces-join (gather entry_bits) [] ((m + n) * (10 + 2 * m)) b a.rows (24 + 6 * (m + n)) (row-long a h)
            (λ s q.
            pieces-join entry_bits no_entry (10 + 2 * m) b (get_or a.rows s []) (24 + 6 * (m + n) + s * ((m + n) * (10 + 2 * m))) (entry-long a h s q)
            (λ l k.
            let hl : l < m + n = subst (λ (x : ℕ). l < x) (h.row s q) k in
            let at : place (module_count t) (event_count t) s l ≡ 24 + 6 * (m + n) + s * ((m + n) * (10 + 2 * m)) + l * (10 + 2 * m) =
            ap₂ (λ (x y : ℕ). place x y s l) hm hn ∙ sym (row-place m n s l)
            in
            entry-stands t (24 + 6 * (m + n) + s * ((m + n) * (10 + 2 * m)) + l * (10 + 2 * m)) m (length a.rows) h.few_states (entry_at a s l) (h.entry s l q hl)
            (omega (arith, row-place m n s l, entry-within m n s l (length a.rows) q hl))
            (subst (λ (x : ℕ). EntryRead t x m (entry_at a s l)) at
            (record { possible = r.possible s l q hl; next = r.next s l q hl; order = λ i j. r.order s l i q hl j }))));
      }
