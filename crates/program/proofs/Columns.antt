-- The columns of rows: what stands in them, and what one row more does to them.
-- Each column has 192 numbers, so a place of the table lies in one of them alone (`in_second` and so on, over any four lists of that length); a row that is
-- set is set in each column (`map-set`), and the count stands in the last column's place 0, which no later row touches.
use Rattle.std.proofs.Common.{◌≡◌, ◌≢◌, ℕ, zero, suc, ◌+◌, ◌-◌, ◌≤◌, ◌<◌, List, ◌++◌, map, length, get_or, set, refl, ap, sym, ◌∙◌, arith, length-set, get_or-set_same, get_or-set_other}
use Rattle.std.proofs.lemmas.List.{set-append_left, set-append_right, get_or_append_left, get_or-append_right, map-set, get_or-map, length-map, set-set, set_comm}
use Rattle.laws.specs.Nodes.{kind, left, right, letter, count}
use Rattle.program.specs.declared.Node.{Node}
use Rattle.program.specs.declared.Node.TheVariants.{Module, One, Sequence, Par, Star, Act, Event, Treat, Either, Both}
use Rattle.program.specs.Rows.{kind_in, left_in, right_in, letter_in, columns, appended, row, row_of}

-- four columns, one after the other
abbrev pub four : (a b c d : List ℕ) → List ℕ
four a b c d = a ++ (b ++ (c ++ d))

-- a place in the second, third and fourth column
pub get_second : (a b c d : List ℕ) (i : ℕ) → length a ≡ 192 → length b ≡ 192 → i < 192 → get_or (four a b c d) (i + 192) 0 ≡ get_or b i 0
get_second a b c d i la lb h =
    get_or-append_right a (b ++ (c ++ d)) 192 (i + 192) 0 la (omega arith)
    ∙ (ap (λ k. get_or (b ++ (c ++ d)) k 0) (omega arith) ∙ get_or_append_left b (c ++ d) 0 i (omega arith))

pub get_third : (a b c d : List ℕ) (i : ℕ) → length a ≡ 192 → length b ≡ 192 → length c ≡ 192 → i < 192 → get_or (four a b c d) (i + 384) 0 ≡ get_or c i 0
get_third a b c d i la lb lc h =
    get_or-append_right a (b ++ (c ++ d)) 192 (i + 384) 0 la (omega arith)
    ∙ (get_or-append_right b (c ++ d) 192 (i + 384 - 192) 0 lb (omega arith)
    ∙ (ap (λ k. get_or (c ++ d) k 0) (omega arith) ∙ get_or_append_left c d 0 i (omega arith)))

pub get_fourth : (a b c d : List ℕ) (i : ℕ) → length a ≡ 192 → length b ≡ 192 → length c ≡ 192 → get_or (four a b c d) (i + 576) 0 ≡ get_or d i 0
get_fourth a b c d i la lb lc =
    get_or-append_right a (b ++ (c ++ d)) 192 (i + 576) 0 la (omega arith)
    ∙ (get_or-append_right b (c ++ d) 192 (i + 576 - 192) 0 lb (omega arith)
    ∙ (get_or-append_right c d 192 (i + 576 - 192 - 192) 0 lc (omega arith) ∙ ap (λ k. get_or d k 0) (omega arith)))

-- the same of writing
pub set_second : (a b c d : List ℕ) (i v : ℕ) → length a ≡ 192 → length b ≡ 192 → i < 192 → set (four a b c d) (i + 192) v ≡ four a (set b i v) c d
set_second a b c d i v la lb h =
    set-append_right a (b ++ (c ++ d)) 192 (i + 192) v la (omega arith)
    ∙ (ap (λ k. a ++ set (b ++ (c ++ d)) k v) (omega arith) ∙ ap (λ x. a ++ x) (set-append_left b (c ++ d) i v (omega arith)))

pub set_third : (a b c d : List ℕ) (i v : ℕ) → length a ≡ 192 → length b ≡ 192 → length c ≡ 192 → i < 192 → set (four a b c d) (i + 384) v ≡ four a b (set c i v) d
set_third a b c d i v la lb lc h =
    set-append_right a (b ++ (c ++ d)) 192 (i + 384) v la (omega arith)
    ∙ ap (λ x. a ++ x)
    (set-append_right b (c ++ d) 192 (i + 384 - 192) v lb (omega arith)
    ∙ (ap (λ k. b ++ set (c ++ d) k v) (omega arith) ∙ ap (λ x. b ++ x) (set-append_left c d i v (omega arith))))

pub set_fourth : (a b c d : List ℕ) (i v : ℕ) → length a ≡ 192 → length b ≡ 192 → length c ≡ 192 → set (four a b c d) (i + 576) v ≡ four a b c (set d i v)
set_fourth a b c d i v la lb lc =
    set-append_right a (b ++ (c ++ d)) 192 (i + 576) v la (omega arith)
    ∙ ap (λ x. a ++ x)
    (set-append_right b (c ++ d) 192 (i + 576 - 192) v lb (omega arith)
    ∙ ap (λ x. b ++ x)
    (set-append_right c d 192 (i + 576 - 192 - 192) v lc (omega arith) ∙ ap (λ k. c ++ set d k v) (omega arith)))

-- the columns of so many rows
pub length-columns : (f : Node → ℕ) (rows : List Node) → length rows ≡ 192 → length (map f rows) ≡ 192
length-columns f rows long = length-map rows f ∙ long

-- the number of nodes stands where the last column begins
pub count-columns : (rows : List Node) (n : ℕ) → length rows ≡ 192 → count (columns rows n) ≡ n
unfolding columns
count-columns rows n long =
    let lk = length-columns kind_in rows long in
    let ll = length-columns left_in rows long in
    let lr = length-columns right_in rows long in
    let la = length-columns letter_in rows long in
    get_fourth (map kind_in rows) (map left_in rows) (map right_in rows) (set (map letter_in rows) 0 n) 0 lk ll lr
    ∙ get_or-set_same (map letter_in rows) 0 n 0 (omega arith)

pub count-view : (rows : List Node) (n : ℕ) (P : List ℕ) → length rows ≡ 192 → columns rows n ≡ P → n ≡ count P
count-view rows n P long e = sym (count-columns rows n long) ∙ ap count e

-- five writes, one in each column and the count again
five : (a b c d : List ℕ) (m k l r x v : ℕ) → length a ≡ 192 → length b ≡ 192 → length c ≡ 192 → m < 192
    → set (set (set (set (set (four a b c d) m k) (m + 192) l) (m + 384) r) (m + 576) x) 576 v ≡ four (set a m k) (set b m l) (set c m r) (set (set d m x) 0 v)
five a b c d m k l r x v la lb lc h =
    let A = set a m k in
    let B = set b m l in
    let C = set c m r in
    let lA : length A ≡ 192 = length-set a m k ∙ la in
    let lB : length B ≡ 192 = length-set b m l ∙ lb in
    let lC : length C ≡ 192 = length-set c m r ∙ lc in
    ap (λ P. set (set (set (set P (m + 192) l) (m + 384) r) (m + 576) x) 576 v) (set-append_left a (b ++ (c ++ d)) m k (omega arith))
    ∙ (ap (λ P. set (set (set P (m + 384) r) (m + 576) x) 576 v) (set_second A b c d m l lA lb h)
    ∙ (ap (λ P. set (set P (m + 576) x) 576 v) (set_third A B c d m r lA lB lc h)
    ∙ (ap (λ P. set P 576 v) (set_fourth A B C d m x lA lB lC) ∙ set_fourth A B C (set d m x) 0 v lA lB lC)))

-- the count is written last, and a row behind node 0 does not touch it
recount : (d : List ℕ) (n x : ℕ) → 1 ≤ n → set (set (set d 0 n) n x) 0 (n + 1) ≡ set (set d n x) 0 (n + 1)
recount d n x some =
    let ne : 0 ≢ n = λ e. absurd (omega (arith, e)) in
    ap (λ t. set t 0 (n + 1)) (set_comm d 0 n n x ne) ∙ set-set (set d n x) 0 n (n + 1)

-- a row more: its columns behind the others, and one node more
pub columns-set : (rows : List Node) (n : ℕ) (node : Node) → length rows ≡ 192 → 1 ≤ n → n < 192
    → columns (set rows n node) (n + 1) ≡ appended (columns rows n) (kind_in node) (left_in node) (right_in node) (letter_in node)
unfolding columns appended
columns-set rows n node long some few =
    let k = map kind_in rows in
    let l = map left_in rows in
    let r = map right_in rows in
    let a = map letter_in rows in
    let joined : four (map kind_in (set rows n node)) (map left_in (set rows n node)) (map right_in (set rows n node)) (set (map letter_in (set rows n node)) 0 (n + 1))
    ≡ four (set k n (kind_in node)) (set l n (left_in node)) (set r n (right_in node)) (set (set a n (letter_in node)) 0 (n + 1))
    = simp map-set in
    let written = five k l r (set a 0 n) n (kind_in node) (left_in node) (right_in node) (letter_in node) (n + 1) (length-columns kind_in rows long) (length-columns left_in rows long) (length-columns right_in rows long) few in
    let counted = count-columns rows n long in
    joined
    ∙ (sym (ap (λ t. four (set k n (kind_in node)) (set l n (left_in node)) (set r n (right_in node)) t) (recount a n (letter_in node) some))
    ∙ (sym written
    ∙ sym (ap (λ m. set (set (set (set (set (columns rows n) m (kind_in node)) (m + 192) (left_in node)) (m + 384) (right_in node)) (m + 576) (letter_in node)) 576 (m + 1)) counted)))

row-back : (n : Node) → row (kind_in n) (left_in n) (right_in n) (letter_in n) ≡ n
unfolding row
row-back (Module a) = refl
row-back One = refl
row-back (Sequence x y) = refl
row-back (Par x y) = refl
row-back (Star x) = refl
row-back (Act x i) = refl
row-back (Event e) = refl
row-back (Treat e t) = refl
row-back (Either i j) = refl
row-back (Both i j) = refl

-- a row by its columns
rows-alike : (k l r a : ℕ) (node : Node) → k ≡ kind_in node → l ≡ left_in node → r ≡ right_in node → a ≡ letter_in node → row k l r a ≡ node
rows-alike k l r a node ek el er ea = rw (ek, el, er, ea) (row-back node)

first_row : (k l r a : ℕ) → k ≡ 1 → row k l r a ≡ One
unfolding row
first_row k l r a e = rw e refl

-- what stands in the columns at a node, and in the last one behind node 0
pub columns-at : (rows : List Node) (n j : ℕ) → length rows ≡ 192 → j < 192
    → (kind (columns rows n) j ≡ kind_in (get_or rows j (Module 0))) × (left (columns rows n) j ≡ left_in (get_or rows j (Module 0))) × (right (columns rows n) j ≡ right_in (get_or rows j (Module 0)))
unfolding columns
columns-at rows n j long below =
    let k = map kind_in rows in
    let l = map left_in rows in
    let r = map right_in rows in
    let a = set (map letter_in rows) 0 n in
    let lk = length-columns kind_in rows long in
    let ll = length-columns left_in rows long in
    let lr = length-columns right_in rows long in
    let h : j < length rows = omega arith in (
      get_or_append_left k (l ++ (r ++ a)) 0 j (omega arith) ∙ get_or-map kind_in rows j (Module 0) 0 h,
      get_second k l r a j lk ll below ∙ get_or-map left_in rows j (Module 0) 0 h,
      get_third k l r a j lk ll lr below ∙ get_or-map right_in rows j (Module 0) 0 h,
    )

pub letter-at : (rows : List Node) (n j : ℕ) → length rows ≡ 192 → 1 ≤ j → j < 192 → letter (columns rows n) j ≡ letter_in (get_or rows j (Module 0))
unfolding columns
letter-at rows n j long behind below =
    let ne : j ≢ 0 = λ e. absurd (omega (arith, e)) in
    get_fourth (map kind_in rows) (map left_in rows) (map right_in rows) (set (map letter_in rows) 0 n) j (length-columns kind_in rows long) (length-columns left_in rows long) (length-columns right_in rows long)
    ∙ (get_or-set_other (map letter_in rows) 0 j n 0 ne ∙ get_or-map letter_in rows j (Module 0) 0 (omega arith))

-- the row that the columns say is the row: node 0, whose letter is the count, has no letter
pub row-columns : (rows : List Node) (n j : ℕ) → length rows ≡ 192 → get_or rows 0 (Module 0) ≡ One → j < 192 → get_or rows j (Module 0) ≡ row_of (columns rows n) j
row-columns rows n zero long first below =
    let t = columns-at rows n 0 long below in
    first ∙ sym (first_row (kind (columns rows n) 0) (left (columns rows n) 0) (right (columns rows n) 0) (letter (columns rows n) 0) (t.0 ∙ ap kind_in first))
row-columns rows n (suc j) long first below =
    let t = columns-at rows n (suc j) long below in
    let a = letter-at rows n (suc j) long (omega arith) below in
    sym (rows-alike _ _ _ _ (get_or rows (suc j) (Module 0)) t.0 t.1 t.2 a)
