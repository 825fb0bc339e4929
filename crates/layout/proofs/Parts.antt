-- The bits of a table, part by part: head, names, fugitive bits, start bits, rows; how long each is, and where it stands. Each part but the head is
-- pieces of one length. Assumes nothing.
use Prim.Native.Nat.{ℕ, ◌+◌, ◌*◌, ◌<◌}
use mathlib.Core.Path.{◌≡◌, refl, sym, ap, ◌∙◌, subst}
use mathlib.Core.Bool.{Bool, true, false}
use mathlib.Core.List.{List, [], ◌∷◌, ◌++◌, map, append_assoc}
use native.Mathlib.Nat.{mul_assoc, mul_comm, add-zero}
use native.Mathlib.Omega.{arith}
use lib.ListN.{length, get_or, length-append}
use Rattle.paper.specs.Lists.{gather}
use Rattle.paper.specs.Table.{Entry, Table, flag, bits, entry_bits, head_bits, table_bits}
use Rattle.fields.proofs.Bits.{bits-length}
use Rattle.layout.specs.Places.{place}
use Rattle.layout.specs.InRange.{letter_count_of, no_entry, entry_at, InRange}
use Rattle.layout.proofs.Lists.{gather_append, gather-length}
use Rattle.layout.proofs.Stands.{Stands, stands-join, stands-first, stands-rest}

abbrev pub bit : Bool → List ℕ
bit b = bits 1 (flag b)

bit-first : (b : Bool) (r : List ℕ) → flag b ∷ r ≡ bit b ++ r
unfolding bits
bit-first true r = refl
bit-first false r = refl

flags-are : (bs : List Bool) → map flag bs ≡ gather bit bs
unfolding gather
flags-are [] = refl
flags-are (b ∷ bs) = ap (λ (l : List ℕ). flag b ∷ l) (flags-are bs) ∙ bit-first b (gather bit bs)

pub entry-parts : (e : Entry) → entry_bits e ≡ bit e.possible ++ (bits 9 e.next ++ gather (bits 2) e.orders)
unfolding entry_bits
entry-parts e = bit-first e.possible (bits 9 e.next ++ gather (bits 2) e.orders)

abbrev pub names : Table → List ℕ
names a = a.modules ++ a.events

abbrev pub row_bits : Table → List ℕ
row_bits a = gather (gather entry_bits) a.rows

pub table-parts : (a : Table)
    → table_bits a ≡ head_bits a ++ (gather (bits 5) (names a) ++ (gather bit a.fugitive ++ (gather bit a.running ++ row_bits a)))
unfolding table_bits
table-parts a = simp (flags-are, gather_append, append_assoc)

-- ---- how long they are

pub head-length : (a : Table) → length (head_bits a) ≡ 24
unfolding head_bits
head-length a = simp (length-append, bits-length)

pub numbers-length : {A : Type 0} (f : A → ℕ) (d : A) (w : ℕ) (xs : List A) → length (gather (λ x. bits w (f x)) xs) ≡ length xs * w
numbers-length f d w xs = gather-length (λ x. bits w (f x)) d w xs (λ k h. bits-length w (f (get_or xs k d)))

pub entry_length : (m : ℕ) (e : Entry) → length e.orders ≡ m → length (entry_bits e) ≡ 10 + 2 * m
entry_length m e h =
    let o : length (gather (bits 2) e.orders) ≡ length e.orders * 2 = numbers-length (λ n. n) 0 2 e.orders in
    ap length (entry-parts e) ∙ simp (length-append, bits-length) (omega arith)

module _ (a : Table) (h : InRange a) where
  abbrev width : ℕ
  width = 10 + 2 * length a.modules

  pub entry-long : (s : ℕ) → s < length a.rows → (l : ℕ) → l < length (get_or a.rows s []) → length (entry_bits (entry_at a s l)) ≡ width
  entry-long s hs l hl =
      let q : l < letter_count_of a = subst (λ (n : ℕ). l < n) (h.row s hs) hl in
      entry_length (length a.modules) (entry_at a s l) (h.entry s l hs q).count

  pub row-long : (s : ℕ) → s < length a.rows → length (gather entry_bits (get_or a.rows s [])) ≡ letter_count_of a * width
  row-long s hs =
      gather-length entry_bits no_entry width (get_or a.rows s []) (entry-long s hs) ∙ ap (λ (n : ℕ). n * width) (h.row s hs)

  rows-length : length (row_bits a) ≡ length a.rows * (letter_count_of a * width)
  rows-length = gather-length (gather entry_bits) [] (letter_count_of a * width) a.rows row-long

  pub table-length : length (table_bits a) ≡ place (length a.modules) (length a.events) (length a.rows) 0
  table-length =
      let ns : length (gather (bits 5) (names a)) ≡ length (names a) * 5 = numbers-length (λ n. n) 0 5 (names a) in
      let fs : length (gather bit a.fugitive) ≡ length a.fugitive * 1 = numbers-length flag false 1 a.fugitive in
      let rs : length (gather bit a.running) ≡ length a.running * 1 = numbers-length flag false 1 a.running in
      let n : length (names a) ≡ letter_count_of a = length-append a.modules a.events in
      let e = h.fugitive in
      let f = h.running in
      let c : length a.rows * (letter_count_of a * width) ≡ (length a.rows * letter_count_of a + 0) * width =
      sym (mul_assoc (length a.rows) (letter_count_of a) width) ∙ ap (λ (k : ℕ). k * width) (sym (add-zero (length a.rows * letter_count_of a)))
      in
      ap length (table-parts a) ∙ simp (length-append, head-length) (omega (arith, rows-length))

-- ---- where they stand

pub record Laid (l : List ℕ) (a : Table) : Type 0 where
  pub head : Stands l 0 (head_bits a)
  pub names : Stands l 24 (gather (bits 5) (a.modules ++ a.events))
  pub fugitive : Stands l (24 + 5 * letter_count_of a) (gather bit a.fugitive)
  pub running : Stands l (24 + 5 * letter_count_of a + length a.events) (gather bit a.running)
  pub rows : Stands l (24 + 6 * letter_count_of a) (gather (gather entry_bits) a.rows)

module _ (a : Table) (h : InRange a) (l : List ℕ) where
  names-long : length (gather (bits 5) (names a)) ≡ 5 * letter_count_of a
  names-long = numbers-length (λ n. n) 0 5 (names a) ∙ ap (λ (n : ℕ). n * 5) (length-append a.modules a.events) ∙ mul_comm (letter_count_of a) 5

  fugitive-long : length (gather bit a.fugitive) ≡ length a.events
  fugitive-long = numbers-length flag false 1 a.fugitive ∙ omega (arith, h.fugitive)

  running-long : length (gather bit a.running) ≡ length a.modules
  running-long = numbers-length flag false 1 a.running ∙ omega (arith, h.running)

  running-ends : 24 + 5 * letter_count_of a + length a.events + length a.modules ≡ 24 + 6 * letter_count_of a
  running-ends = omega arith

  pub laid-all : Laid l a → Stands l 0 (table_bits a)
  laid-all p =
      subst (Stands l 0) (sym (table-parts a))
      (stands-join l 0 24 24 (head_bits a) _ (head-length a) refl p.head
      (stands-join l 24 (5 * letter_count_of a) (24 + 5 * letter_count_of a) (gather (bits 5) (names a)) _ names-long refl p.names
      (stands-join l (24 + 5 * letter_count_of a) (length a.events) (24 + 5 * letter_count_of a + length a.events) (gather bit a.fugitive) _ fugitive-long refl p.fugitive
      (stands-join l (24 + 5 * letter_count_of a + length a.events) (length a.modules) (24 + 6 * letter_count_of a) (gather bit a.running) (row_bits a) running-long running-ends p.running p.rows))))

  pub all_laid : Stands l 0 (table_bits a) → Laid l a
  all_laid p =
      let fs : List ℕ = gather bit a.fugitive in
      let rs : List ℕ = gather bit a.running in
      let p0 : Stands l 0 (head_bits a ++ (gather (bits 5) (names a) ++ (fs ++ (rs ++ row_bits a)))) = subst (Stands l 0) (table-parts a) p in
      let p1 : Stands l 24 (gather (bits 5) (names a) ++ (fs ++ (rs ++ row_bits a))) =
      stands-rest l 0 24 24 (head_bits a) (gather (bits 5) (names a) ++ (fs ++ (rs ++ row_bits a))) (head-length a) refl p0
      in
      let p2 : Stands l (24 + 5 * letter_count_of a) (fs ++ (rs ++ row_bits a)) =
      stands-rest l 24 (5 * letter_count_of a) (24 + 5 * letter_count_of a) (gather (bits 5) (names a)) (fs ++ (rs ++ row_bits a)) names-long refl p1
      in
      let p3 : Stands l (24 + 5 * letter_count_of a + length a.events) (rs ++ row_bits a) =
      stands-rest l (24 + 5 * letter_count_of a) (length a.events) (24 + 5 * letter_count_of a + length a.events) fs (rs ++ row_bits a) fugitive-long refl p2
      in
      record {
        head = stands-first l 0 (head_bits a) (gather (bits 5) (names a) ++ (fs ++ (rs ++ row_bits a))) p0;
        names = stands-first l 24 (gather (bits 5) (names a)) (fs ++ (rs ++ row_bits a)) p1;
        fugitive = stands-first l (24 + 5 * letter_count_of a) fs (rs ++ row_bits a) p2;
        running = stands-first l (24 + 5 * letter_count_of a + length a.events) rs (row_bits a) p3;
        rows = stands-rest l (24 + 5 * letter_count_of a + length a.events) (length a.modules) (24 + 6 * letter_count_of a) rs (row_bits a) running-long running-ends p3;
      }
