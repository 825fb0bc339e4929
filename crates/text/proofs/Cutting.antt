-- A line of a file, cut at its end and at its first space, is the first of the paper's `lines`, and its key and value are the paper's.
-- `lines` builds each line from the back; by induction on the bytes before the first line end, that line comes first and then the lines after
-- it (`lines-ended`), and likewise for the first space (`key-cut`, `value-cut`). Assumes nothing.
use Prim.Native.Nat.{ℕ, suc, ◌+◌, ◌≤◌, ◌<◌}
use mathlib.Core.Path.{◌≡◌, refl, ap, sym, subst, ◌∙◌}
use mathlib.Core.Bool.{Bool, true, false, ◌||◌}
use mathlib.Core.List.{List, [], ◌∷◌, ◌++◌}
use mathlib.Core.Option.{Option, none, some}
use native.Mathlib.Omega.{arith}
use lib.Dec.{eqb, ltb}
use lib.ListN.{length, get_or, drop}
use borrow.Author.Tests.{eqb-false, ne_eqb, ltb-true, ltb-false}
use Rattle.paper.specs.Lists.{has}
use Rattle.paper.specs.Bytes.{line_end, space}
use Rattle.paper.specs.File.{Answer, refused, unless, and_then, where_if, Line, line, in_front, lines, key, value, Key, key_of, value_of, Value, Read, keyed, broken, read_line, read_lines}
use Rattle.paper.proofs.Choices.{clash}
use Rattle.text.specs.Spans.{part, value_at}
use Rattle.text.specs.Steps.{Finds, keyed_at, spanned, then_from, Parted, Cuts}
use Rattle.text.specs.declared.Cut.TheVariants.{Broken}
use Rattle.text.proofs.Parts.{part_none, part-cons, drop-part, drop-whole, length_part, part-split}

or-false : (a b : Bool) → (a || b) ≡ false → (a ≡ false) × (b ≡ false)
or-false false b h = (refl, h)
or-false true b h = clash (cc)

eqb_swap : (a b : ℕ) → eqb a b ≡ false → eqb b a ≡ false
eqb_swap a b h = ne_eqb b a (λ e. eqb-false a b h (sym e))

has-head : (n x : ℕ) (xs : List ℕ) → has n (x ∷ xs) ≡ false → eqb x n ≡ false
unfolding has
has-head n x xs h = eqb_swap n x (or-false (eqb n x) (has n xs) h).0

has-tail : (n x : ℕ) (xs : List ℕ) → has n (x ∷ xs) ≡ false → has n xs ≡ false
unfolding has
has-tail n x xs h = (or-false (eqb n x) (has n xs) h).1

-- one byte more that is not it
pub has_more : (n x : ℕ) (xs : List ℕ) → has n xs ≡ false → (x ≡ n → ⊥) → has n (xs ++ (x ∷ [])) ≡ false
unfolding has
has_more n x [] h k = rw (ne_eqb n x (λ e. k (sym e)))
has_more n x (y ∷ xs) h k =
    let t : eqb n y ≡ false = (or-false (eqb n y) (has n xs) h).0 in
    let u : has n (xs ++ (x ∷ [])) ≡ false = has_more n x xs (or-false (eqb n y) (has n xs) h).1 k in
    rw (t, u)

lines-ended : (at : ℕ) (xs ys : List ℕ) → has line_end xs ≡ false → lines at (xs ++ (line_end ∷ ys)) ≡ line at xs true ∷ lines (at + length xs + 1) ys
unfolding lines
lines-ended at [] ys h =
    let e : at + 1 ≡ at + 0 + 1 = omega arith in
    ap (λ (n : ℕ). line at [] true ∷ lines n ys) e
lines-ended at (b ∷ xs) ys h =
    let e : at + 1 + length xs + 1 ≡ at + suc (length xs) + 1 = omega arith in
    ap (λ (t : Bool). in_front t at b (lines (at + 1) (xs ++ (line_end ∷ ys)))) (has-head line_end b xs h)
    ∙ (ap (in_front false at b) (lines-ended (at + 1) xs ys (has-tail line_end b xs h))
    ∙ ap (λ (n : ℕ). line at (b ∷ xs) true ∷ lines n ys) e)

lines-open : (at b : ℕ) (xs : List ℕ) → has line_end (b ∷ xs) ≡ false → lines at (b ∷ xs) ≡ line at (b ∷ xs) false ∷ []
unfolding lines
lines-open at b [] h = ap (λ (t : Bool). in_front t at b []) (has-head line_end b [] h)
lines-open at b (c ∷ xs) h =
    ap (λ (t : Bool). in_front t at b (lines (at + 1) (c ∷ xs))) (has-head line_end b (c ∷ xs) h)
    ∙ ap (in_front false at b) (lines-open (at + 1) c xs (has-tail line_end b (c ∷ xs) h))

key-cut : (xs ys : List ℕ) → has space xs ≡ false → key (xs ++ (space ∷ ys)) ≡ xs
unfolding key
key-cut [] ys h = refl
key-cut (b ∷ xs) ys h = rw (has-head space b xs h, key-cut xs ys (has-tail space b xs h))

value-cut : (xs ys : List ℕ) → has space xs ≡ false → value (xs ++ (space ∷ ys)) ≡ ys
unfolding value
value-cut [] ys h = refl
value-cut (b ∷ xs) ys h = rw (has-head space b xs h, value-cut xs ys (has-tail space b xs h))

has-cut : (xs ys : List ℕ) → has space (xs ++ (space ∷ ys)) ≡ true
unfolding has
has-cut [] ys = refl
has-cut (b ∷ xs) ys = or-true (eqb space b) (has-cut xs ys)
  where
    or-true : (a : Bool) {b : Bool} → b ≡ true → (a || b) ≡ true
    or-true true h = refl
    or-true false h = h

-- ---- No. 3

broken-open : (at : ℕ) (xs : List ℕ) (ls : List Line) (r : Read) → read_lines r (line at xs false ∷ ls) ≡ refused 3 at
unfolding read_lines read_line broken
broken-open at xs ls r = refl

broken-spaceless : (at : ℕ) (xs : List ℕ) (ls : List Line) (r : Read) → has space xs ≡ false → read_lines r (line at xs true ∷ ls) ≡ refused 3 at
unfolding read_lines read_line broken
broken-spaceless at xs ls r h = rw h

broken-empty : (at : ℕ) (xs : List ℕ) (ls : List Line) (r : Read) → has space xs ≡ false → read_lines r (line at (xs ++ (space ∷ [])) true ∷ ls) ≡ refused 3 at
unfolding read_lines read_line broken
broken-empty at xs ls r h = rw (has-cut xs [], value-cut xs [] h)

-- a line that is not broken goes on to its key
keyed-at : (r : Read) (l : Line) (v : Value) (k : Option Key) → value_of l ≡ v → keyed r l k ≡ keyed_at r v k
keyed-at r l v none e = ap (λ (w : Value). keyed_at r w none) e
keyed-at r l v (some k) e = ap (λ (w : Value). keyed_at r w (some k)) e

unbroken : (at y : ℕ) (xs ys : List ℕ) → has space xs ≡ false → broken (line at (xs ++ (space ∷ (y ∷ ys))) true) ≡ false
unfolding broken
unbroken at y xs ys h = rw (has-cut xs (y ∷ ys), value-cut xs (y ∷ ys) h)

whole-line : (at y : ℕ) (xs ys : List ℕ) (ls : List Line) (r : Read) → has space xs ≡ false → read_lines r (line at (xs ++ (space ∷ (y ∷ ys))) true ∷ ls) ≡ and_then (keyed_at r (record { line_at = at; at = at + length xs + 1; is = y ∷ ys }) (key_of xs)) (λ s. read_lines s ls)
unfolding read_lines read_line
whole-line at y xs ys ls r h =
    ap (λ (b : Bool). and_then (unless (where_if b at) 3 (keyed r l (key_of (key text)))) (λ s. read_lines s ls)) (unbroken at y xs ys h)
    ∙ ap (λ (a : Answer Read). and_then a (λ s. read_lines s ls))
    (ap (λ (k : List ℕ). keyed r l (key_of k)) (key-cut xs (y ∷ ys) h) ∙ keyed-at r l v (key_of xs) valued)
  where
    text : List ℕ
    text = xs ++ (space ∷ (y ∷ ys))

    l : Line
    l = line at text true

    v : Value
    v = record { line_at = at; at = at + length xs + 1; is = y ∷ ys }

    valued : value_of l ≡ v
    valued =
        ap (λ (k : List ℕ). record { line_at = at; at = at + length k + 1; is = value text }) (key-cut xs (y ∷ ys) h)
        ∙ ap (λ (w : List ℕ). record { line_at = at; at = at + length xs + 1; is = w }) (value-cut xs (y ∷ ys) h)

-- ---- the same by places

module _ (bs : List ℕ) (at end : ℕ) (e : Finds bs at (length bs) line_end end) where
  -- the lines from a line's start on: the line up to its end, and then the lines after it
  pub lines_next : end < length bs → lines at (drop at bs) ≡ line at (part bs at end) true ∷ lines (end + 1) (drop (end + 1) bs)
  lines_next h =
      let n : at + length (part bs at end) + 1 ≡ end + 1 = omega (arith, e.low, length_part bs at end e.high) in
      ap (lines at)
      (drop-part bs at end e.low h ∙ ap (λ (b : ℕ). part bs at end ++ (b ∷ drop (end + 1) bs)) (e.found h))
      ∙ (lines-ended at (part bs at end) (drop (end + 1) bs) e.before
      ∙ ap (λ (m : ℕ). line at (part bs at end) true ∷ lines m (drop (end + 1) bs)) n)

  -- or the last line, without its end
  pub lines-last : at < length bs → end ≡ length bs → lines at (drop at bs) ≡ line at (part bs at end) false ∷ []
  lines-last h q =
      let c : part bs at end ≡ get_or bs at 0 ∷ part bs (at + 1) end = part-cons bs at end (omega arith) (omega arith) in
      ap (lines at) (drop-whole bs at ∙ (ap (part bs at) (sym q) ∙ c))
      ∙ (lines-open at (get_or bs at 0) (part bs (at + 1) end) (subst (λ (xs : List ℕ). has line_end xs ≡ false) c e.before)
      ∙ ap (λ (xs : List ℕ). line at xs false ∷ []) (sym c))

  pub cuts-open : at < length bs → end ≡ length bs → Cuts bs at Broken
  cuts-open h q r = ap (read_lines r) (lines-last h q) ∙ broken-open at (part bs at end) [] r

  module _ (mid : ℕ) (s : Finds bs at end space mid) (h : end < length bs) where
    cut_at : mid < end → part bs at end ≡ part bs at mid ++ (space ∷ part bs (mid + 1) end)
    cut_at k =
        part-split bs at mid end s.low k e.high
        ∙ ap (λ (b : ℕ). part bs at mid ++ (b ∷ part bs (mid + 1) end)) (s.found k)

    cuts-spaceless : mid ≡ end → Cuts bs at Broken
    cuts-spaceless q r =
        ap (read_lines r) (lines_next h)
        ∙ broken-spaceless at (part bs at end) _ r (subst (λ (n : ℕ). has space (part bs at n) ≡ false) q s.before)

    cuts-empty : mid + 1 ≡ end → Cuts bs at Broken
    cuts-empty q r =
        let c : part bs at end ≡ part bs at mid ++ (space ∷ []) =
        cut_at (omega arith)
        ∙ ap (λ (xs : List ℕ). part bs at mid ++ (space ∷ xs)) (ap (part bs (mid + 1)) (sym q) ∙ part_none bs (mid + 1))
        in
        ap (read_lines r) (lines_next h ∙ ap (λ (xs : List ℕ). line at xs true ∷ lines (end + 1) (drop (end + 1) bs)) c)
        ∙ broken-empty at (part bs at mid) _ r s.before

    -- no space before the end, or nothing between the two
    pub cuts-short : end ≤ mid + 1 → Cuts bs at Broken
    cuts-short k = by-space (ltb mid end) refl
      where
        by-space : (t : Bool) → ltb mid end ≡ t → Cuts bs at Broken
        by-space true q = cuts-empty (omega (arith, ltb-true mid end q))
        by-space false q = cuts-spaceless (omega (arith, ltb-false mid end q, s.high))

    pub cuts-parts : mid + 1 < end → Parted bs at mid end
    cuts-parts k = record { keyed = s.low; valued = k; ended = h; reads = reads }
      where
        y : ℕ
        y = get_or bs (mid + 1) 0

        ys : List ℕ
        ys = part bs (mid + 1 + 1) end

        v : part bs (mid + 1) end ≡ y ∷ ys
        v = part-cons bs (mid + 1) end k e.high

        after : List Line
        after = lines (end + 1) (drop (end + 1) bs)

        from : Read → Value → Answer Read
        from r w = then_from bs (end + 1) (keyed_at r w (key_of (part bs at mid)))

        reads : (r : Read) → read_lines r (lines at (drop at bs)) ≡ from r (value_at bs (spanned at mid end))
        reads r =
            let n : at + length (part bs at mid) + 1 ≡ mid + 1 = omega (arith, s.low, length_part bs at mid (omega (arith, s.high, e.high))) in
            ap (read_lines r)
            (lines_next h
            ∙ ap (λ (xs : List ℕ). line at xs true ∷ after)
            (cut_at (omega arith) ∙ ap (λ (xs : List ℕ). part bs at mid ++ (space ∷ xs)) v))
            ∙ (whole-line at y (part bs at mid) ys after r s.before
            ∙ (ap (λ (m : ℕ). from r (record { line_at = at; at = m; is = y ∷ ys })) n
            ∙ ap (λ (xs : List ℕ). from r (record { line_at = at; at = mid + 1; is = xs })) (sym v)))
