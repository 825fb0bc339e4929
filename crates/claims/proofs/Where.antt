-- Where a line that was read stands in the file. Every line of the paper's `lines` lies in the file behind the file's front or behind a line's end
-- (`lines-lie`), and what `read_lines` keeps of a line is its key and its value, so each value that was read stands on a line of its key
-- (`read-stands`). Assumes nothing.
use Prim.Native.Nat.{ℕ, suc, ◌+◌}
use mathlib.Core.Path.{◌≡◌, refl, sym, ap, subst, ◌∙◌}
use mathlib.Core.Bool.{Bool, true, false, cond, not, ◌||◌}
use mathlib.Core.List.{List, [], ◌∷◌, ◌++◌}
use mathlib.Core.Option.{Option, none, some}
use native.Mathlib.Omega.{arith}
use lib.Dec.{T, eqb}
use lib.ListN.{length, length-append}
use borrow.Author.Tests.{eqb-true, eqb-false, ne_eqb}
use Rattle.paper.specs.Lists.{bytes, is_nil, has, eq_l}
use Rattle.paper.specs.Bytes.{line_end, space}
use Rattle.paper.specs.File.{Answer, refused, accepted, unless, and_then, where_if, Line, line, in_front, lines, key, value, Key, standard_key, fugitive_key, program_key, key_of, Value, Read, nothing_read, value_of, known, wrong_letter, letters_of, joins, keyed, broken, read_line, read_lines}
use Rattle.paper.proofs.Choices.{clash}
use Rattle.paper.proofs.Equal.{eq_l-sound}
use Rattle.claims.specs.Reasons.{first, behind, LineAt}

-- each of the list
unfoldable pub Each : {A : Type 0} → (A → Type 0) → List A → Type 0
Each P [] = Unit {0}
Each P (x ∷ xs) = P x × Each P xs

pub each_map : {A : Type 0} (P Q : A → Type 0) → ((x : A) → P x → Q x) → (xs : List A) → Each P xs → Each Q xs
unfolding Each
each_map P Q f [] h = tt
each_map P Q f (x ∷ xs) h = (f x h.0, each_map P Q f xs h.1)

pub each_append : {A : Type 0} (P : A → Type 0) (xs ys : List A) → Each P xs → Each P ys → Each P (xs ++ ys)
unfolding Each
each_append P [] ys h k = k
each_append P (x ∷ xs) ys h k = (h.0, each_append P xs ys h.1 k)

-- ---- the lines of a file

-- the first line of bs, which begin at the place `at`
record First (at : ℕ) (bs : List ℕ) (l : Line) : Type 0 where
  begins : l.begins ≡ at
  one_line : has line_end l.text ≡ false
  lies : l.ended ≡ true → (after : List ℕ) × (bs ≡ l.text ++ (line_end ∷ after))

-- a later one, behind a line's end
record Later (at : ℕ) (bs : List ℕ) (l : Line) : Type 0 where
  front : List ℕ
  begins : l.begins ≡ at + suc (length front)
  one_line : has line_end l.text ≡ false
  lies : l.ended ≡ true → (after : List ℕ) × (bs ≡ (front ++ (line_end ∷ [])) ++ (l.text ++ (line_end ∷ after)))

unfoldable Lie : (at : ℕ) → List ℕ → List Line → Type 0
Lie at bs [] = Unit {0}
Lie at bs (l ∷ ls) = First at bs l × Each (Later at bs) ls

later-on : (at b : ℕ) (bs : List ℕ) (l : Line) → Later (at + 1) bs l → Later at (b ∷ bs) l
later-on at b bs l h = record {
  front = b ∷ h.front;
  begins = let e = h.begins in omega arith;
  one_line = h.one_line;
  lies = λ z. let x = h.lies z in (x.0, ap (λ (ys : List ℕ). b ∷ ys) x.1);
}

first-later : (at b : ℕ) (bs : List ℕ) (l : Line) → b ≡ line_end → First (at + 1) bs l → Later at (b ∷ bs) l
first-later at b bs l q h = record {
  front = [];
  begins = h.begins;
  one_line = h.one_line;
  lies = λ z. let x = h.lies z in (x.0, rw q (ap (λ (ys : List ℕ). line_end ∷ ys) x.1));
}

first-longer : (at b : ℕ) (bs : List ℕ) (l : Line) → (b ≡ line_end → ⊥) → First (at + 1) bs l → First at (b ∷ bs) (line at (b ∷ l.text) l.ended)
unfolding has
first-longer at b bs l d h = record {
  begins = refl;
  one_line = rw (ne_eqb line_end b (λ e. d (sym e))) h.one_line;
  lies = λ z. let x = h.lies z in (x.0, ap (λ (ys : List ℕ). b ∷ ys) x.1);
}

lines-lie : (at : ℕ) (bs : List ℕ) → Lie at bs (lines at bs)
unfolding lines Lie Each
lines-lie at [] = tt
lines-lie at (b ∷ bs) = by (eqb b line_end) refl (lines (at + 1) bs) (lines-lie (at + 1) bs)
  where
    all-later : b ≡ line_end → (ls : List Line) → Lie (at + 1) bs ls → Each (Later at (b ∷ bs)) ls
    all-later q [] h = tt
    all-later q (l ∷ ls) h = (first-later at b bs l q h.0, each_map (Later (at + 1) bs) (Later at (b ∷ bs)) (later-on at b bs) ls h.1)

    by : (t : Bool) → eqb b line_end ≡ t → (ls : List Line) → Lie (at + 1) bs ls → Lie at (b ∷ bs) (in_front t at b ls)
    by true e ls h =
        let q = eqb-true b line_end e in
        (record { begins = refl; one_line = unfold has in refl; lies = λ z. (bs, rw q) }, all-later q ls h)
    by false e [] h =
        (record { begins = refl; one_line = unfold has in rw (ne_eqb line_end b (λ q. eqb-false b line_end e (sym q))); lies = λ z. clash (cc) }, tt)
    by false e (l ∷ ls) h =
        (first-longer at b bs l (eqb-false b line_end e) h.0, each_map (Later (at + 1) bs) (Later at (b ∷ bs)) (later-on at b bs) ls h.1)

-- so each line that has its end stands in the file
abbrev Stands : List ℕ → Line → Type 0
Stands file l = l.ended ≡ true → LineAt file l.begins l.text

first-stands : (file : List ℕ) (l : Line) → First 0 file l → Stands file l
first-stands file l h z =
    let x = h.lies z in
    record { before = []; after = x.0; is = x.1; place = sym h.begins; starts = first; one_line = h.one_line }

later-stands : (file : List ℕ) (l : Line) → Later 0 file l → Stands file l
later-stands file l h z =
    let x = h.lies z in
    let b = h.begins in
    record {
      before = h.front ++ (line_end ∷ []);
      after = x.0;
      is = x.1;
      place = omega (arith, length-append h.front (line_end ∷ []));
      starts = behind h.front;
      one_line = h.one_line;
    }

lines-stand : (file : List ℕ) (ls : List Line) → Lie 0 file ls → Each (Stands file) ls
unfolding Lie Each
lines-stand file [] h = tt
lines-stand file (l ∷ ls) h = (first-stands file l h.0, each_map (Later 0 file) (Stands file) (later-stands file) ls h.1)

-- ---- key and value of a line

-- "A line is a key, one space, a value; the key is what stands before the first space."
key-value : (text : List ℕ) → has space text ≡ true → text ≡ key text ++ (space ∷ value text)
unfolding key value has
key-value [] h = clash (cc)
key-value (b ∷ bs) h = by (eqb b space) refl (λ k. key-value bs k)
  where
    by : (t : Bool) → eqb b space ≡ t → (has space bs ≡ true → bs ≡ key bs ++ (space ∷ value bs)) → b ∷ bs ≡ cond t [] (b ∷ key bs) ++ (space ∷ cond t bs (value bs))
    by true e f = rw (eqb-true b space e)
    by false e f = ap (λ (ys : List ℕ). b ∷ ys) (f (rw (ne_eqb space b (λ q. eqb-false b space e (sym q))) at h))

abbrev pub key_text : Key → List ℕ
key_text standard_key = bytes "standard"
key_text fugitive_key = bytes "fugitive"
key_text program_key = bytes "program"

holds : (b : Bool) → b ≡ true → T b
holds true e = tt
holds false e = clash (cc)

key-text : (xs : List ℕ) (k : Key) → key_of xs ≡ some k → xs ≡ key_text k
unfolding key_of
key-text xs k h = by (eq_l xs (bytes "standard")) (eq_l xs (bytes "fugitive")) (eq_l xs (bytes "program")) refl refl refl h
  where
    is : (ys : List ℕ) → eq_l xs ys ≡ true → xs ≡ ys
    is ys e = eq_l-sound xs ys (holds (eq_l xs ys) e)

    by : (a b c : Bool) → eq_l xs (bytes "standard") ≡ a → eq_l xs (bytes "fugitive") ≡ b → eq_l xs (bytes "program") ≡ c
        → cond a (some standard_key) (cond b (some fugitive_key) (cond c (some program_key) none)) ≡ some k → xs ≡ key_text k
    by true b c e f g z = let y : standard_key ≡ k = cc in subst (λ (x : Key). xs ≡ key_text x) y (is (bytes "standard") e)
    by false true c e f g z = let y : fugitive_key ≡ k = cc in subst (λ (x : Key). xs ≡ key_text x) y (is (bytes "fugitive") f)
    by false false true e f g z = let y : program_key ≡ k = cc in subst (λ (x : Key). xs ≡ key_text x) y (is (bytes "program") g)
    by false false false e f g z = clash (cc)

-- the value v stands on a line with the key k
pub record OnLine (file : List ℕ) (k : Key) (v : Value) : Type 0 where
  pub line_is : LineAt file v.line_at (key_text k ++ (space ∷ v.is))
  pub value_at : v.at ≡ v.line_at + length (key_text k) + 1

unbroken : (l : Line) → broken l ≡ false → (l.ended ≡ true) × (has space l.text ≡ true)
unfolding broken
unbroken l h = by l.ended (has space l.text) (is_nil (value l.text)) h
  where
    by : (a b c : Bool) → (not a || not b || c) ≡ false → (a ≡ true) × (b ≡ true)
    by true true c z = (refl, refl)
    by true false c z = clash (cc)
    by false b c z = clash (cc)

line-values : (file : List ℕ) (l : Line) → Stands file l → broken l ≡ false → (k : Key) → key_of (key l.text) ≡ some k → OnLine file k (value_of l)
line-values file l s h k e =
    let u = unbroken l h in
    let y = key-text (key l.text) k e in
    record {
      line_is =
          subst (LineAt file l.begins) (key-value l.text u.1 ∙ ap (λ (xs : List ℕ). xs ++ (space ∷ value l.text)) y) (s u.0);
      value_at = ap (λ (xs : List ℕ). l.begins + length xs + 1) y;
    }

-- ---- what was read

-- the `fugitive` and the `program` value stand on their lines
record Held (file : List ℕ) (r : Read) : Type 0 where
  fugitive_on : (v : Value) → r.fugitive ≡ some v → OnLine file fugitive_key v
  program_on : (v : Value) → r.program ≡ some v → OnLine file program_key v

unless-accepted : (o : Option ℕ) (n : ℕ) (a : Answer Read) (s : Read) → unless o n a ≡ accepted s → (o ≡ none) × (a ≡ accepted s)
unless-accepted none n a s h = (refl, h)
unless-accepted (some p) n a s h = clash (cc)

where-none : (b : Bool) (p : ℕ) → where_if b p ≡ none → b ≡ false
where-none true p h = clash (cc)
where-none false p h = refl

held_same : (file : List ℕ) (r s : Read) → accepted r ≡ accepted s → Held file r → Held file s
held_same file r s h g = let e : r ≡ s = cc in subst (Held file) e g

joins-held : (file : List ℕ) (r : Read) (k : Key) (v : Value) (s : Read) → OnLine file k v → Held file r → joins r k v ≡ accepted s → Held file s
joins-held file r program_key v s o g h =
    held_same file _ s h
    (record { fugitive_on = g.fugitive_on; program_on = λ w e. let y : v ≡ w = cc in subst (OnLine file program_key) y o })
joins-held file r standard_key v s o g h =
    held_same file _ s (unless-accepted (wrong_letter (letters_of r.listed) v.at v.is) 6 _ s h).1
    (record { fugitive_on = g.fugitive_on; program_on = g.program_on })
joins-held file r fugitive_key v s o g h =
    held_same file _ s (unless-accepted (wrong_letter (letters_of r.listed) v.at v.is) 6 _ s h).1
    (record { fugitive_on = λ w e. let y : v ≡ w = cc in subst (OnLine file fugitive_key) y o; program_on = g.program_on })

keyed-held : (file : List ℕ) (r : Read) (l : Line) (o : Option Key) (s : Read) → ((k : Key) → o ≡ some k → OnLine file k (value_of l)) → Held file r → keyed r l o ≡ accepted s → Held file s
keyed-held file r l none s f g h = clash (cc)
keyed-held file r l (some k) s f g h =
    joins-held file r k (value_of l) s (f k refl) g (unless-accepted (where_if (known r k) l.begins) 5 (joins r k (value_of l)) s h).1

line-held : (file : List ℕ) (r : Read) (l : Line) (s : Read) → Stands file l → Held file r → read_line r l ≡ accepted s → Held file s
unfolding read_line
line-held file r l s d g h =
    let u = unless-accepted (where_if (broken l) l.begins) 3 (keyed r l (key_of (key l.text))) s h in
    keyed-held file r l (key_of (key l.text)) s (line-values file l d (where-none (broken l) l.begins u.0)) g u.1

and-then-accepted : (a : Answer Read) (f : Read → Answer Read) (s : Read) → and_then a f ≡ accepted s → (r : Read) × (a ≡ accepted r) × (f r ≡ accepted s)
and-then-accepted (refused n p) f s h = clash (cc)
and-then-accepted (accepted r) f s h = (r, refl, h)

lines-held : (file : List ℕ) (ls : List Line) (r s : Read) → Each (Stands file) ls → Held file r → read_lines r ls ≡ accepted s → Held file s
unfolding read_lines Each
lines-held file [] r s d g h = held_same file r s h g
lines-held file (l ∷ ls) r s d g h =
    let q = and-then-accepted (read_line r l) (λ t. read_lines t ls) s h in
    lines-held file ls q.0 s d.1 (line-held file r l q.0 d.0 g q.1) q.2

module _ (file : List ℕ) (r : Read) (h : read_lines nothing_read (lines 0 file) ≡ accepted r) where
  all_held : Held file r
  all_held =
      lines-held file (lines 0 file) nothing_read r (lines-stand file (lines 0 file) (lines-lie 0 file))
      (record { fugitive_on = λ v e. clash (cc); program_on = λ v e. clash (cc) }) h

  pub fugitive-stands : (v : Value) → r.fugitive ≡ some v → OnLine file fugitive_key v
  fugitive-stands = all_held.fugitive_on

  pub program-stands : (v : Value) → r.program ≡ some v → OnLine file program_key v
  program-stands = all_held.program_on
