-- What is written of a table's parts are the table's bits, where the parts tell the table. Assumes nothing.
use Prim.Native.Nat.{ℕ, suc, ◌+◌, ◌-◌, ◌*◌, ◌≤◌, ◌<◌}
use mathlib.Core.Path.{◌≡◌, refl, sym, ap, ap₂, ◌∙◌}
use mathlib.Core.Bool.{Bool, false}
use mathlib.Core.List.{List, [], ◌∷◌, ◌++◌, map, append_assoc}
use native.Mathlib.Omega.{arith}
use lib.ListN.{length, get_or, take, replicate, length-map}
use lib.Seq.{take_at}
use Rattle.paper.specs.Lists.{gather}
use Rattle.paper.specs.Table.{Entry, Table, flag, bits, entry_bits, head_bits, table_bits}
use Rattle.paper.specs.Calls.{eight}
use Rattle.layout.specs.InRange.{no_entry, entry_at, InRange}
use Rattle.layout.proofs.Lists.{gather_append}
use Rattle.layout.proofs.Parts.{bit, names, row_bits, table-parts}
use Rattle.emit.specs.Entries.{entry_number, Tells}
use Rattle.emit.specs.Fills.{kind_bits, head_of, entry_word}
use Rattle.emit.proofs.Words.{eight_is, entry-word}

gather-map : {A : Type 0} (g : ℕ → List ℕ) (f : A → ℕ) (xs : List A) → gather g (map f xs) ≡ gather (λ x. g (f x)) xs
unfolding gather
gather-map g f [] = refl
gather-map g f (x ∷ xs) = ap (λ (l : List ℕ). g (f x) ++ l) (gather-map g f xs)

kinds-are : (fs : List Bool) (es : List ℕ) → gather bit (map (λ e. get_or fs e false) es) ≡ gather (kind_bits fs) es
unfolding gather
kinds-are fs [] = refl
kinds-are fs (e ∷ es) = ap (λ (l : List ℕ). kind_bits fs e ++ l) (kinds-are fs es)

-- ---- the entries

row_words : (m : ℕ) (es : List Entry) → ((l : ℕ) → l < length es → entry_bits (get_or es l no_entry) ≡ entry_word m (entry_number (get_or es l no_entry)))
    → gather entry_bits es ≡ gather (entry_word m) (map entry_number es)
unfolding gather
row_words m [] h = refl
row_words m (e ∷ es) h = ap₂ (λ (x y : List ℕ). x ++ y) (h 0 (omega arith)) (row_words m es (λ l q. h (suc l) (omega arith)))

rows_words : (m : ℕ) (rs : List (List Entry))
    → ((s : ℕ) → s < length rs → gather entry_bits (get_or rs s []) ≡ gather (entry_word m) (map entry_number (get_or rs s [])))
    → gather (gather entry_bits) rs ≡ gather (entry_word m) (gather (map entry_number) rs)
unfolding gather
rows_words m [] h = refl
rows_words m (r ∷ rs) h =
    ap₂ (λ (x y : List ℕ). x ++ y) (h 0 (omega arith)) (rows_words m rs (λ s q. h (suc s) (omega arith)))
    ∙ sym (gather_append (entry_word m) (map entry_number r) (gather (map entry_number) rs))

pub rows_told : (t : Table) → InRange t → row_bits t ≡ gather (entry_word (length t.modules)) (gather (map entry_number) t.rows)
rows_told t h =
    let m : ℕ = length t.modules in
    rows_words m t.rows
    (λ s hs. row_words m (get_or t.rows s [])
    (λ l hl. let e = h.row s hs in entry-word m (length t.rows) (entry_at t s l) h.few_modules h.few_states (h.entry s l hs (omega arith))))

-- ---- the parts

running-told : (bs : List Bool) (rs : List ℕ) (m : ℕ) → length bs ≡ m → m ≤ 8 → rs ≡ eight (map flag bs) → gather bit bs ≡ gather (bits 1) (take m rs)
running-told bs rs m l h e =
    let k : length (map flag bs) ≡ m = length-map bs flag ∙ l in
    sym (gather-map (bits 1) flag bs)
    ∙ ap (gather (bits 1)) (sym (ap (take m) (e ∙ eight_is (map flag bs) (omega arith)) ∙ take_at (map flag bs) (replicate (8 - length (map flag bs)) 0) m k))

head-told : (t : Table) (m n s : ℕ) → length t.modules ≡ m → length t.events ≡ n → length t.rows ≡ s → head_bits t ≡ head_of m n s
unfolding head_bits
head-told t m n s a b c =
    ap₂ (λ (x y : ℕ). head_of x y (length t.rows)) a b ∙ ap (head_of m n) c

abbrev pub part_bits : (ms es : List ℕ) (fs : List Bool) (rs : List ℕ) (states : ℕ) (ns : List ℕ) → List ℕ
part_bits ms es fs rs states ns =
    head_of (length ms) (length es) states ++ gather (bits 5) ms ++ gather (bits 5) es ++ gather (kind_bits fs) es
    ++ gather (bits 1) (take (length ms) rs) ++ gather (entry_word (length ms)) (take (states * (length ms + length es)) ns)

pub told : (t : Table) (ms es : List ℕ) (fs : List Bool) (rs : List ℕ) (states : ℕ) (ns : List ℕ) → Tells t ms es fs rs states ns
    → table_bits t ≡ part_bits ms es fs rs states ns
told t ms es fs rs states ns h =
    let a = h.in_range in
    let lm : length t.modules ≡ length ms = ap length h.modules_are in
    let le : length t.events ≡ length es = ap length h.events_are in
    let hd : head_bits t ≡ head_of (length ms) (length es) states = head-told t (length ms) (length es) states lm le h.states_are in
    let nm : gather (bits 5) (names t) ≡ gather (bits 5) ms ++ gather (bits 5) es =
    gather_append (bits 5) t.modules t.events ∙ ap₂ (λ (x y : List ℕ). gather (bits 5) x ++ gather (bits 5) y) h.modules_are h.events_are
    in
    let kd : gather bit t.fugitive ≡ gather (kind_bits fs) es = ap (gather bit) h.fugitive_are ∙ kinds-are fs es in
    let few = a.few_modules in
    let rn : gather bit t.running ≡ gather (bits 1) (take (length ms) rs) =
    running-told t.running rs (length ms) (a.running ∙ lm) (omega arith) h.running_are
    in
    let rw' : row_bits t ≡ gather (entry_word (length ms)) (take (states * (length ms + length es)) ns) =
    rows_told t a ∙ ap₂ (λ (x : ℕ) (y : List ℕ). gather (entry_word x) y) lm (sym h.entries_are)
    in
    table-parts t
    ∙ ap₂ (λ (x y : List ℕ). x ++ (y ++ (gather bit t.fugitive ++ (gather bit t.running ++ row_bits t)))) hd nm
    ∙ ap₂ (λ (x y : List ℕ). head_of (length ms) (length es) states ++ (gather (bits 5) ms ++ gather (bits 5) es ++ (x ++ (y ++ row_bits t)))) kd rn
    ∙ ap (λ (x : List ℕ). head_of (length ms) (length es) states ++ (gather (bits 5) ms ++ gather (bits 5) es ++ (gather (kind_bits fs) es ++ (gather (bits 1) (take (length ms) rs) ++ x)))) rw'
    ∙ regroup (head_of (length ms) (length es) states) (gather (bits 5) ms) (gather (bits 5) es) (gather (kind_bits fs) es) (gather (bits 1) (take (length ms) rs)) (gather (entry_word (length ms)) (take (states * (length ms + length es)) ns))
  where
    regroup : (a b c d e f : List ℕ) → a ++ (b ++ c ++ (d ++ (e ++ f))) ≡ a ++ b ++ c ++ d ++ e ++ f
    regroup a b c d e f = simp append_assoc
