-- The lines of a file: what lines without a fault gave (`read_of`) is what `read_lines` has after them, and a line is refused exactly as `LineRefuses`
-- says. Assumes nothing.
--     line_refused, refused-line    a line's refusal is its fault, and its fault its refusal
--     line_gives            a line without a fault joins what was read
use Prim.Native.Nat.{ℕ, ◌+◌, ◌-◌}
use mathlib.Core.Path.{◌≡◌, refl, sym, ap, subst, ◌∙◌}
use mathlib.Core.Bool.{Bool, true, false, cond, not, ◌&&◌, ◌||◌, true≢false}
use mathlib.Core.List.{List, [], ◌∷◌, ◌++◌, append_assoc, append-nil}
use mathlib.Core.Logic.{◌⊎◌, inl, inr, ⊎_elim}
use mathlib.Core.Option.{Option, none, some}
use lib.Dec.{T}
use Rattle.paper.specs.Lists.{bytes, is_nil, has, eq_l}
use Rattle.paper.specs.Bytes.{space, is_event}
use Rattle.paper.specs.File.{Answer, refused, accepted, unless, where_if, Line, key, value, Key, standard_key, fugitive_key, program_key, key_of, Value, Listed, Read, value_of, is_there, known, wrong_letter, letters_of, joins, keyed, broken, read_line}
use Rattle.paper.proofs.Choices.{clash}
use Rattle.paper.proofs.Equal.{eq_l-sound, eq_l-refl}
use Rattle.paper.proofs.Stays.{T_true}
use Rattle.laws.proofs.Letters.{by_cond, false-not}
use Rattle.coding.proofs.Found.{holds}
use Rattle.claims.specs.Faults.{key_text, HasKey, Keyed, this_line, further, value_with, listed_by, listed_within, read_of, Broken, without_end, without_space, nothing_after, Faulty, not_A_to_Z, listed_before, WrongLetter, this_byte, later_byte, Lists, standard_lists, fugitive_lists, LineRefuses, number_3, number_4, number_5, number_6}

-- the same number and place
pub carry : {A : Type 0} (R : ℕ → ℕ → Type 0) (m q n p : ℕ) → ◌≡◌ {A = Answer A} (refused m q) (refused n p) → R m q → R n p
carry R m q n p e h =
    let x : m ≡ n = cc in
    let y : q ≡ p = cc in
    subst (λ (k : ℕ). R k p) x (subst (R m) y h)

-- ---- keys

pub key-of : (k : Key) → key_of (key_text k) ≡ some k
unfolding key_of eq_l bytes
key-of standard_key = refl
key-of fugitive_key = refl
key-of program_key = refl

of-key : (x : List ℕ) (k : Key) → key_of x ≡ some k → x ≡ key_text k
unfolding key_of
of-key x k =
    by_cond (λ o. o ≡ some k → x ≡ key_text k) (eq_l x (key_text standard_key)) _ _
    (λ t e. eq_l-sound x (key_text standard_key) (holds _ t) ∙ ap key_text (let z : standard_key ≡ k = cc in z))
    (λ f.
    by_cond (λ o. o ≡ some k → x ≡ key_text k) (eq_l x (key_text fugitive_key)) _ _
    (λ t e. eq_l-sound x (key_text fugitive_key) (holds _ t) ∙ ap key_text (let z : fugitive_key ≡ k = cc in z))
    (λ g.
    by_cond (λ o. o ≡ some k → x ≡ key_text k) (eq_l x (key_text program_key)) _ _
    (λ t e. eq_l-sound x (key_text program_key) (holds _ t) ∙ ap key_text (let z : program_key ≡ k = cc in z))
    (λ h e. clash (cc))))

-- the line's key, or none
pub has_key : (k : Key) (l : Line) → key_of (key l.text) ≡ some k → HasKey k l
has_key k l e = of-key (key l.text) k e

pub key_has : (k : Key) (l : Line) → HasKey k l → key_of (key l.text) ≡ some k
key_has k l h = ap key_of h ∙ key-of k

-- ---- No. 5's condition: the key was read before

with-keyed : (k : Key) (ls : List Line) → is_there (value_with k ls) ≡ true → Keyed k ls
unfolding value_with
with-keyed k [] e = absurd (true≢false (sym e))
with-keyed k (l ∷ ls) e =
    by_cond (λ (o : Option Value). is_there o ≡ true → Keyed k (l ∷ ls)) (eq_l (key l.text) (key_text k)) _ _
    (λ t q. this_line (eq_l-sound (key l.text) (key_text k) (holds _ t)))
    (λ f q. further (with-keyed k ls q))
    e

keyed-with : (k : Key) (ls : List Line) → Keyed k ls → is_there (value_with k ls) ≡ true
unfolding value_with
keyed-with k ls (this_line {l = l} {ls = more} h) =
    ap (λ (b : Bool). is_there (cond b (some (value_of l)) (value_with k more))) (ap (λ (x : List ℕ). eq_l x (key_text k)) h ∙ T_true _ (eq_l-refl (key_text k)))
keyed-with k ls (further {l = l} {ls = more} h) =
    by_cond (λ (o : Option Value). is_there o ≡ true) (eq_l (key l.text) (key_text k)) (some (value_of l)) (value_with k more) (λ t. refl) (λ f. keyed-with k more h)

known_is : (k : Key) (ls : List Line) → known (read_of ls) k ≡ is_there (value_with k ls)
unfolding read_of
known_is standard_key ls = refl
known_is fugitive_key ls = refl
known_is program_key ls = refl

pub known-keyed : (k : Key) (ls : List Line) → known (read_of ls) k ≡ true → Keyed k ls
known-keyed k ls e = with-keyed k ls (sym (known_is k ls) ∙ e)

pub keyed-known : (k : Key) (ls : List Line) → Keyed k ls → known (read_of ls) k ≡ true
keyed-known k ls h = known_is k ls ∙ keyed-with k ls h

-- ---- No. 3's condition

pub not_T : (b : Bool) → (T b → ⊥) → b ≡ false
not_T true h = absurd (h tt)
not_T false h = refl

nil_is : (xs : List ℕ) → is_nil xs ≡ true → xs ≡ []
nil_is [] e = refl
nil_is (x ∷ xs) e = absurd (true≢false (sym e))

broken-cases : (l : Line) (a b c : Bool) → l.ended ≡ a → has space l.text ≡ b → is_nil (value l.text) ≡ c → (not a || not b || c) ≡ true → Broken l
broken-cases l false b c p q r e = without_end p
broken-cases l true false c p q r e = without_space (false-not _ q)
broken-cases l true true true p q r e = nothing_after (nil_is (value l.text) r)
broken-cases l true true false p q r e = absurd (true≢false (sym e))

pub is-broken : (l : Line) → broken l ≡ true → Broken l
unfolding broken
is-broken l e = broken-cases l _ _ _ refl refl refl e

or-any : (a b c : Bool) → (a ≡ false) ⊎ ((b ≡ false) ⊎ (c ≡ true)) → (not a || not b || c) ≡ true
or-any false b c h = refl
or-any true false c h = refl
or-any true true true h = refl
or-any true true false h = sym (⊎_elim (λ e. e) (λ k. ⊎_elim (λ e. e) (λ e. sym e) k) h)

pub broken-is : (l : Line) → Broken l → broken l ≡ true
unfolding broken
broken-is l (without_end h) = or-any l.ended (has space l.text) (is_nil (value l.text)) (inl h)
broken-is l (without_space h) = or-any l.ended (has space l.text) (is_nil (value l.text)) (inr (inl (not_T _ h)))
broken-is l (nothing_after h) = or-any l.ended (has space l.text) (is_nil (value l.text)) (inr (inr (ap is_nil h)))

-- ---- No. 6's condition

faulty-not : (before : List ℕ) (b : ℕ) → Faulty before b → (is_event b && not (has (b - 65) before)) ≡ false
faulty-not before b (not_A_to_Z h) = ap (λ (x : Bool). x && not (has (b - 65) before)) (not_T (is_event b) h)
faulty-not before b (listed_before h) = go (is_event b) (has (b - 65) before) h
  where
    go : (x y : Bool) → T y → (x && not y) ≡ false
    go true true t = refl
    go false true t = refl
    go x false t = absurd t

not-faulty : (before : List ℕ) (b : ℕ) → (is_event b && not (has (b - 65) before)) ≡ false → Faulty before b
not-faulty before b e = go (is_event b) (has (b - 65) before) refl refl e
  where
    go : (x y : Bool) → is_event b ≡ x → has (b - 65) before ≡ y → (x && not y) ≡ false → Faulty before b
    go false y p q h = not_A_to_Z (false-not _ p)
    go true true p q h = listed_before (holds _ q)
    go true false p q h = absurd (true≢false h)

letter-wrong : (before : List ℕ) (at : ℕ) (v : List ℕ) (p : ℕ) → wrong_letter before at v ≡ some p → WrongLetter before at v p
unfolding wrong_letter
letter-wrong before at [] p e = clash (cc)
letter-wrong before at (b ∷ bs) p e =
    by_cond (λ o. o ≡ some p → WrongLetter before at (b ∷ bs) p) (is_event b && not (has (b - 65) before)) _ _
    (λ t q. later_byte (λ f. true≢false (sym t ∙ faulty-not before b f)) (letter-wrong ((b - 65) ∷ before) (at + 1) bs p q))
    (λ f q. subst (WrongLetter before at (b ∷ bs)) (let z : at ≡ p = cc in z) (this_byte (not-faulty before b f)))
    e

wrong-letter : (before : List ℕ) (at : ℕ) (v : List ℕ) (p : ℕ) → WrongLetter before at v p → wrong_letter before at v ≡ some p
unfolding wrong_letter
wrong-letter before at v p (this_byte {b = b} {bs = bs} h) =
    ap (λ (x : Bool). cond x (wrong_letter ((b - 65) ∷ before) (at + 1) bs) (some at)) (faulty-not before b h)
wrong-letter before at v p (later_byte {b = b} {bs = bs} f h) =
    by_cond (λ o. o ≡ some p) (is_event b && not (has (b - 65) before)) _ _
    (λ t. wrong-letter ((b - 65) ∷ before) (at + 1) bs p h)
    (λ g. absurd (f (not-faulty before b g)))

-- ---- what the lines gave, with one line more

or_else : Option Value → Option Value → Option Value
or_else none o = o
or_else (some v) o = some v

its-value : Key → Line → Option Value
its-value k l = cond (eq_l (key l.text) (key_text k)) (some (value_of l)) none

with-more : (k : Key) (ls : List Line) (l : Line) → value_with k (ls ++ (l ∷ [])) ≡ or_else (value_with k ls) (its-value k l)
unfolding value_with or_else its-value
with-more k [] l = refl
with-more k (m ∷ ls) l = go (eq_l (key m.text) (key_text k)) (with-more k ls l)
  where
    go : (b : Bool) → value_with k (ls ++ (l ∷ [])) ≡ or_else (value_with k ls) (its-value k l)
        → cond b (some (value_of m)) (value_with k (ls ++ (l ∷ []))) ≡ or_else (cond b (some (value_of m)) (value_with k ls)) (its-value k l)
    go true h = refl
    go false h = h

-- another key's value stays
with-other : (k j : Key) (ls : List Line) (l : Line) → HasKey k l → eq_l (key_text k) (key_text j) ≡ false → value_with j (ls ++ (l ∷ [])) ≡ value_with j ls
unfolding its-value or_else
with-other k j ls l h f =
    with-more j ls l
    ∙ ap (or_else (value_with j ls)) (ap (λ (b : Bool). cond b (some (value_of l)) none) (ap (λ (x : List ℕ). eq_l x (key_text j)) h ∙ f))
    ∙ stays (value_with j ls)
  where
    stays : (o : Option Value) → or_else o none ≡ o
    stays none = refl
    stays (some v) = refl

-- a new key has its value
with-new : (k : Key) (ls : List Line) (l : Line) → HasKey k l → is_there (value_with k ls) ≡ false → value_with k (ls ++ (l ∷ [])) ≡ some (value_of l)
unfolding its-value or_else
with-new k ls l h f =
    with-more k ls l
    ∙ ap (or_else (value_with k ls))
    (ap (λ (b : Bool). cond b (some (value_of l)) none) (ap (λ (x : List ℕ). eq_l x (key_text k)) h ∙ T_true _ (eq_l-refl (key_text k))))
    ∙ first (value_with k ls) f
  where
    first : (o : Option Value) → is_there o ≡ false → or_else o (some (value_of l)) ≡ some (value_of l)
    first none e = refl
    first (some v) e = absurd (true≢false e)

listed_more : (k : Key) (ls : List Line) (l : Line) → HasKey k l → listed_within (ls ++ (l ∷ [])) ≡ listed_within ls ++ listed_by (some k) (value_of l)
unfolding listed_within
listed_more k [] l h = append-nil _ ∙ ap (λ (o : Option Key). listed_by o (value_of l)) (key_has k l h)
listed_more k (m ∷ ls) l h =
    ap (λ (xs : List Listed). listed_by (key_of (key m.text)) (value_of m) ++ xs) (listed_more k ls l h)
    ∙ sym (append_assoc (listed_by (key_of (key m.text)) (value_of m)) (listed_within ls) (listed_by (some k) (value_of l)))

-- ---- one line

module _ (before : List Line) (l : Line) where
  -- No. 6's place, where there is one
  abbrev place-6 : Option ℕ
  place-6 = wrong_letter (letters_of (listed_within before)) (value_of l).at (value_of l).is

  -- ---- a fault is the line's refusal

  unbroken : (Broken l → ⊥) → read_line (read_of before) l ≡ keyed (read_of before) l (key_of (key l.text))
  unfolding read_line
  unbroken f = go (broken l) refl
    where
      go : (b : Bool) → broken l ≡ b
          → unless (where_if b l.begins) 3 (keyed (read_of before) l (key_of (key l.text))) ≡ keyed (read_of before) l (key_of (key l.text))
      go true q = absurd (f (is-broken l q))
      go false q = refl

  keyed-by : (Broken l → ⊥) → (k : Key) → HasKey k l
      → read_line (read_of before) l ≡ unless (where_if (known (read_of before) k) l.begins) 5 (joins (read_of before) k (value_of l))
  keyed-by f k h = unbroken f ∙ ap (keyed (read_of before) l) (key_has k l h)

  no_key : ((k : Key) → HasKey k l → ⊥) → (o : Option Key) → key_of (key l.text) ≡ o → o ≡ none
  no_key g none q = refl
  no_key g (some k) q = absurd (g k (has_key k l q))

  not_known : (k : Key) → (Keyed k before → ⊥) → known (read_of before) k ≡ false
  not_known k f = go (known (read_of before) k) refl
    where
      go : (b : Bool) → known (read_of before) k ≡ b → b ≡ false
      go true q = absurd (f (known-keyed k before q))
      go false q = refl

  letters-wrong : (k : Key) → Lists k → (p : ℕ) → place-6 ≡ some p → joins (read_of before) k (value_of l) ≡ refused 6 p
  unfolding read_of
  letters-wrong k standard_lists p e = rw e
  letters-wrong k fugitive_lists p e = rw e

  pub refused-line : (n p : ℕ) → LineRefuses before l n p → read_line (read_of before) l ≡ refused n p
  unfolding read_line
  refused-line n p (number_3 b) =
      ap (λ (x : Bool). unless (where_if x l.begins) 3 (keyed (read_of before) l (key_of (key l.text)))) (broken-is l b)
  refused-line n p (number_4 f g) = unbroken f ∙ ap (keyed (read_of before) l) (no_key g (key_of (key l.text)) refl)
  refused-line n p (number_5 f k h y) =
      keyed-by f k h ∙ ap (λ (x : Bool). unless (where_if x l.begins) 5 (joins (read_of before) k (value_of l))) (keyed-known k before y)
  refused-line n p (number_6 f k h y i w) =
      keyed-by f k h ∙ ap (λ (x : Bool). unless (where_if x l.begins) 5 (joins (read_of before) k (value_of l))) (not_known k y)
      ∙ letters-wrong k i p (wrong-letter (letters_of (listed_within before)) (value_of l).at (value_of l).is p w)

  -- ---- and the other way

  fine-not : broken l ≡ false → Broken l → ⊥
  fine-not q b = true≢false (sym (broken-is l b) ∙ q)

  new-not : (k : Key) → known (read_of before) k ≡ false → Keyed k before → ⊥
  new-not k q h = true≢false (sym (keyed-known k before h) ∙ q)

  letters-refused : (k : Key) → broken l ≡ false → HasKey k l → known (read_of before) k ≡ false → Lists k → (x : Read) (o : Option ℕ)
      → place-6 ≡ o → (n p : ℕ) → unless o 6 (accepted x) ≡ refused n p → LineRefuses before l n p
  letters-refused k b h z i x none q n p e = clash (cc)
  letters-refused k b h z i x (some at) q n p e =
      carry (LineRefuses before l) 6 at n p e
      (number_6 (fine-not b) k h (new-not k z) i (letter-wrong (letters_of (listed_within before)) (value_of l).at (value_of l).is at q))

  joins-refused : (k : Key) → broken l ≡ false → HasKey k l → known (read_of before) k ≡ false → (n p : ℕ) → joins (read_of before) k (value_of l) ≡ refused n p → LineRefuses before l n p
  unfolding read_of
  joins-refused standard_key b h z n p e = letters-refused standard_key b h z standard_lists _ _ refl n p e
  joins-refused fugitive_key b h z n p e = letters-refused fugitive_key b h z fugitive_lists _ _ refl n p e
  joins-refused program_key b h z n p e = clash (cc)

  keyed-refused : broken l ≡ false → (o : Option Key) → key_of (key l.text) ≡ o → (n p : ℕ) → keyed (read_of before) l o ≡ refused n p → LineRefuses before l n p
  keyed-refused b none q n p e =
      carry (LineRefuses before l) 4 l.begins n p e (number_4 (fine-not b) (λ k h. clash (let z = key_has k l h in cc)))
  keyed-refused b (some k) q n p e = go (known (read_of before) k) refl e
    where
      go : (c : Bool) → known (read_of before) k ≡ c → unless (where_if c l.begins) 5 (joins (read_of before) k (value_of l)) ≡ refused n p → LineRefuses before l n p
      go true z h = carry (LineRefuses before l) 5 l.begins n p h (number_5 (fine-not b) k (has_key k l q) (known-keyed k before z))
      go false z h = joins-refused k b (has_key k l q) z n p h

  -- a refusal of the line is its first fault
  pub line_refused : (n p : ℕ) → read_line (read_of before) l ≡ refused n p → LineRefuses before l n p
  unfolding read_line
  line_refused n p e = go (broken l) refl e
    where
      go : (b : Bool) → broken l ≡ b → unless (where_if b l.begins) 3 (keyed (read_of before) l (key_of (key l.text))) ≡ refused n p → LineRefuses before l n p
      go true q h = carry (LineRefuses before l) 3 l.begins n p h (number_3 (is-broken l q))
      go false q h = keyed-refused q (key_of (key l.text)) refl n p h

  -- ---- a line without a fault

  letters-give : (x s : Read) (o : Option ℕ) → unless o 6 (accepted x) ≡ accepted s → x ≡ s
  letters-give x s none e = cc
  letters-give x s (some p) e = clash (cc)

  joins-give : (k : Key) → HasKey k l → known (read_of before) k ≡ false → (s : Read) → joins (read_of before) k (value_of l) ≡ accepted s → read_of (before ++ (l ∷ [])) ≡ s
  unfolding read_of eq_l bytes
  joins-give standard_key h z s e =
      (λ i. record {
        standard = with-new standard_key before l h z i;
        fugitive = with-other standard_key fugitive_key before l h refl i;
        program = with-other standard_key program_key before l h refl i;
        listed = listed_more standard_key before l h i;
      })
      ∙ letters-give _ s place-6 e
  joins-give fugitive_key h z s e =
      (λ i. record {
        standard = with-other fugitive_key standard_key before l h refl i;
        fugitive = with-new fugitive_key before l h z i;
        program = with-other fugitive_key program_key before l h refl i;
        listed = listed_more fugitive_key before l h i;
      })
      ∙ letters-give _ s place-6 e
  joins-give program_key h z s e =
      (λ i. record {
        standard = with-other program_key standard_key before l h refl i;
        fugitive = with-other program_key fugitive_key before l h refl i;
        program = with-new program_key before l h z i;
        listed = (listed_more program_key before l h ∙ append-nil (listed_within before)) i;
      })
      ∙ letters-give _ s none e

  pub line_gives : (s : Read) → read_line (read_of before) l ≡ accepted s → read_of (before ++ (l ∷ [])) ≡ s
  unfolding read_line
  line_gives s e = go (broken l) (key_of (key l.text)) refl e
    where
      new : (k : Key) (c : Bool) → known (read_of before) k ≡ c → HasKey k l → unless (where_if c l.begins) 5 (joins (read_of before) k (value_of l)) ≡ accepted s → read_of (before ++ (l ∷ [])) ≡ s
      new k true z h q = clash (cc)
      new k false z h q = joins-give k h z s q

      go : (b : Bool) (o : Option Key) → key_of (key l.text) ≡ o → unless (where_if b l.begins) 3 (keyed (read_of before) l o) ≡ accepted s → read_of (before ++ (l ∷ [])) ≡ s
      go true o q h = clash (cc)
      go false none q h = clash (cc)
      go false (some k) q h = new k (known (read_of before) k) refl (has_key k l q) h
