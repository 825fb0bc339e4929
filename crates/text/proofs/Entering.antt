-- A line with its key and value joins the lines read before it as the paper's `joins` has it.
-- The new line stands behind all that were read, so the order of the two list lines is the order of reading (`listed-standard`, `listed-fugitive`).
-- Assumes nothing.
use Prim.Native.Nat.{ℕ, ◌+◌, ◌≤◌}
use mathlib.Core.Path.{◌≡◌, refl, ap, sym, subst, ◌∙◌}
use mathlib.Core.Bool.{Bool, true, false, cond}
use mathlib.Core.List.{List, [], ◌∷◌, ◌++◌, append-nil}
use mathlib.Core.Option.{Option, none, some}
use native.Mathlib.Omega.{arith}
use lib.Dec.{ltb}
use lib.ListN.{length}
use borrow.Author.Tests.{lt-ltb, le-ltb}
use Rattle.paper.specs.File.{refused, accepted, unless, where_if, Value, Listed, Read, is_there, known, joins, letters_of, wrong_letter, Key, standard_key, fugitive_key, program_key}
use Rattle.paper.proofs.Choices.{clash}
use Rattle.text.specs.declared.Span.{Span}
use Rattle.text.specs.declared.Lines.{Lines}
use Rattle.text.specs.declared.Listing.TheVariants.{Wrong, Fine}
use Rattle.text.specs.Spans.{part, value_at, value_in, listed_at, listed_within, two_in_order, read_of, Lies}
use Rattle.text.specs.Steps.{keyed_at, Marks, Lists, Kept, Fresh, Entered}

-- a span is there or not
by-there : {P : Type 0} (t : Bool) → (t ≡ true → P) → (t ≡ false → P) → P
by-there true h k = h refl
by-there false h k = k refl

-- ---- where lines lie

lies-later : (m n : ℕ) (s : Span) → m ≤ n → Lies m s → Lies n s
lies-later m n s h l = record {
  here = λ t. ((l.here t).0, (l.here t).1, omega (arith, l.here t));
  away = l.away;
}

lies-line : (n : ℕ) (s : Span) → Lies n s → s.line ≤ n
lies-line n s l =
    by-there s.there (λ t. omega (arith, l.here t)) (λ t. omega (arith, l.away t))

lies-new : (bs : List ℕ) (v : Span) → Fresh bs v → Lies (v.end + 1) v
lies-new bs v f = record {
  here = λ t. (f.begins, f.valued, omega arith);
  away = λ t. (let e : true ≡ false = sym f.there ∙ t in clash (cc));
}

-- ---- the letters in the order of the file

order-right : {A : Type 0} (t : Bool) (ys : List A) → two_in_order t [] ys ≡ ys
order-right true ys = refl
order-right false ys = append-nil ys

order-left : {A : Type 0} (t : Bool) (xs : List A) → two_in_order t xs [] ≡ xs
order-left true xs = append-nil xs
order-left false xs = refl

listed-there : (bs : List ℕ) (s : Span) → s.there ≡ true → listed_within bs s ≡ listed_at bs s
listed-there bs s h = ap (λ (t : Bool). cond t (listed_at bs s) []) h

listed-none : (bs : List ℕ) (s : Span) → s.there ≡ false → listed_within bs s ≡ []
listed-none bs s h = ap (λ (t : Bool). cond t (listed_at bs s) []) h

pub value_there : (bs : List ℕ) (s : Span) → s.there ≡ true → value_in bs s ≡ some (value_at bs s)
value_there bs s h = ap (λ (t : Bool). cond t (some (value_at bs s)) none) h

pub letters-append : (xs ys : List Listed) → letters_of (xs ++ ys) ≡ letters_of xs ++ letters_of ys
letters-append [] ys = refl
letters-append (x ∷ xs) ys = ap (λ (ns : List ℕ). x.letter ∷ ns) (letters-append xs ys)

abbrev pub with_standard : Lines → Span → Lines
with_standard ls v = record { standard = v; fugitive = ls.fugitive; program = ls.program }

abbrev pub with_fugitive : Lines → Span → Lines
with_fugitive ls v = record { standard = ls.standard; fugitive = v; program = ls.program }

abbrev pub with_program : Lines → Span → Lines
with_program ls v = record { standard = ls.standard; fugitive = ls.fugitive; program = v }

abbrev span_of : Lines → Key → Span
span_of ls standard_key = ls.standard
span_of ls fugitive_key = ls.fugitive
span_of ls program_key = ls.program

pub there-is : {A : Type 0} (t : Bool) (a : A) → is_there (cond t (some a) none) ≡ t
there-is true a = refl
there-is false a = refl

known_is : (bs : List ℕ) (ls : Lines) (k : Key) → known (read_of bs ls) k ≡ (span_of ls k).there
unfolding read_of
known_is bs ls standard_key = there-is ls.standard.there (value_at bs ls.standard)
known_is bs ls fugitive_key = there-is ls.fugitive.there (value_at bs ls.fugitive)
known_is bs ls program_key = there-is ls.program.there (value_at bs ls.program)

module _ (bs : List ℕ) (v : Span) (ls : Lines) where
  keyed-known : (k : Key) (t : Bool) → (span_of ls k).there ≡ t → keyed_at (read_of bs ls) (value_at bs v) (some k) ≡ unless (where_if t v.line) 5 (joins (read_of bs ls) k (value_at bs v))
  keyed-known k t h =
      ap (λ (s : Bool). unless (where_if s v.line) 5 (joins (read_of bs ls) k (value_at bs v))) (known_is bs ls k ∙ h)

  -- No. 5
  pub enters-twice : (k : Key) → (span_of ls k).there ≡ true → keyed_at (read_of bs ls) (value_at bs v) (some k) ≡ refused 5 v.line
  enters-twice k h = keyed-known k true h

  -- No. 6
  module _ (seen seen' : List Bool) (m : Marks seen (letters_of (read_of bs ls).listed)) (p : ℕ) (l : Lists bs v.at v.end seen seen' (Wrong p)) where
    pub standard-wrong : ls.standard.there ≡ false → keyed_at (read_of bs ls) (value_at bs v) (some standard_key) ≡ refused 6 p
    standard-wrong h = keyed-known standard_key false h ∙ rw (l.finds (letters_of (read_of bs ls).listed) m)

    pub fugitive-wrong : ls.fugitive.there ≡ false → keyed_at (read_of bs ls) (value_at bs v) (some fugitive_key) ≡ refused 6 p
    fugitive-wrong h = keyed-known fugitive_key false h ∙ rw (l.finds (letters_of (read_of bs ls).listed) m)

-- ---- the line joins what was read

-- the letters of a line that stands in front of others
front-first : (bs : List ℕ) (s : Span) (n : ℕ) (ys : List Listed) → Lies n s → two_in_order (ltb s.line n) (listed_within bs s) ys ≡ listed_within bs s ++ ys
front-first bs s n ys l =
    by-there s.there (λ t. ap (λ (b : Bool). two_in_order b (listed_within bs s) ys) (lt-ltb s.line n (omega (arith, l.here t))))
    (λ t.
    ap (λ (xs : List Listed). two_in_order (ltb s.line n) xs ys) (listed-none bs s t)
    ∙ (order-right (ltb s.line n) ys ∙ ap (λ (xs : List Listed). xs ++ ys) (sym (listed-none bs s t))))

module _ (bs : List ℕ) (v : Span) (ls : Lines) (seen : List Bool) (f : Fresh bs v) (g : Kept bs v.line ls seen) where
  listed-standard : ls.standard.there ≡ false → (read_of bs (with_standard ls v)).listed ≡ (read_of bs ls).listed ++ listed_at bs v
  unfolding read_of
  listed-standard h =
      ap (λ (t : Bool). two_in_order t (listed_within bs v) (listed_within bs ls.fugitive)) (le-ltb v.line ls.fugitive.line (lies-line v.line ls.fugitive g.lie.fugitive))
      ∙ (ap (λ (xs : List Listed). listed_within bs ls.fugitive ++ xs) (listed-there bs v f.there)
      ∙ ap (λ (xs : List Listed). xs ++ listed_at bs v)
      (sym
      (ap (λ (xs : List Listed). two_in_order (ltb ls.standard.line ls.fugitive.line) xs (listed_within bs ls.fugitive)) (listed-none bs ls.standard h)
      ∙ order-right (ltb ls.standard.line ls.fugitive.line) (listed_within bs ls.fugitive))))

  listed-fugitive : ls.fugitive.there ≡ false → (read_of bs (with_fugitive ls v)).listed ≡ (read_of bs ls).listed ++ listed_at bs v
  unfolding read_of
  listed-fugitive h =
      front-first bs ls.standard v.line (listed_within bs v) g.lie.standard
      ∙ (ap (λ (xs : List Listed). listed_within bs ls.standard ++ xs) (listed-there bs v f.there)
      ∙ ap (λ (xs : List Listed). xs ++ listed_at bs v)
      (sym
      (ap (two_in_order (ltb ls.standard.line ls.fugitive.line) (listed_within bs ls.standard)) (listed-none bs ls.fugitive h)
      ∙ order-left (ltb ls.standard.line ls.fugitive.line) (listed_within bs ls.standard))))

  later : (s : Span) → Lies v.line s → Lies (v.end + 1) s
  later s l = lies-later v.line (v.end + 1) s (omega (arith, f.begins, f.valued)) l

  within : v.end + 1 ≤ length bs
  within = omega (arith, f.ended)

  module _ (seen' : List Bool) (l : Lists bs v.at v.end seen seen' Fine) where
    marks-list : (ls' : Lines) → (read_of bs ls').listed ≡ (read_of bs ls).listed ++ listed_at bs v → Marks seen' (letters_of (read_of bs ls').listed)
    marks-list ls' e =
        subst (Marks seen') (sym (ap letters_of e ∙ letters-append (read_of bs ls).listed (listed_at bs v)))
        (l.marks (letters_of (read_of bs ls).listed) g.marks)

    no-wrong : wrong_letter (letters_of (read_of bs ls).listed) v.at (part bs v.at v.end) ≡ none
    no-wrong = l.finds (letters_of (read_of bs ls).listed) g.marks

    pub enters-standard : ls.standard.there ≡ false → Entered bs (some standard_key) v ls (with_standard ls v) (v.end + 1) seen'
    unfolding read_of
    enters-standard h = record {
      next_is = refl;
      kept = record {
        within = within;
        lie = record {
          standard = lies-new bs v f;
          fugitive = later ls.fugitive g.lie.fugitive;
          program = later ls.program g.lie.program;
        };
        marks = marks-list (with_standard ls v) (listed-standard h);
      };
      reads =
          keyed-known bs v ls standard_key false h
          ∙ (ap (λ (o : Option ℕ). unless o 6 (accepted (joined (some (value_at bs v)) ((read_of bs ls).listed ++ listed_at bs v)))) no-wrong
          ∙ (ap (λ (o : Option Value). accepted (joined o ((read_of bs ls).listed ++ listed_at bs v))) (sym (value_there bs v f.there))
          ∙ ap (λ (xs : List Listed). accepted (joined (value_in bs v) xs)) (sym (listed-standard h))));
    }
      where
        joined : Option Value → List Listed → Read
        joined o xs = record { standard = o; fugitive = value_in bs ls.fugitive; program = value_in bs ls.program; listed = xs }

    pub enters-fugitive : ls.fugitive.there ≡ false → Entered bs (some fugitive_key) v ls (with_fugitive ls v) (v.end + 1) seen'
    unfolding read_of
    enters-fugitive h = record {
      next_is = refl;
      kept = record {
        within = within;
        lie = record {
          standard = later ls.standard g.lie.standard;
          fugitive = lies-new bs v f;
          program = later ls.program g.lie.program;
        };
        marks = marks-list (with_fugitive ls v) (listed-fugitive h);
      };
      reads =
          keyed-known bs v ls fugitive_key false h
          ∙ (ap (λ (o : Option ℕ). unless o 6 (accepted (joined (some (value_at bs v)) ((read_of bs ls).listed ++ listed_at bs v)))) no-wrong
          ∙ (ap (λ (o : Option Value). accepted (joined o ((read_of bs ls).listed ++ listed_at bs v))) (sym (value_there bs v f.there))
          ∙ ap (λ (xs : List Listed). accepted (joined (value_in bs v) xs)) (sym (listed-fugitive h))));
    }
      where
        joined : Option Value → List Listed → Read
        joined o xs = record { standard = value_in bs ls.standard; fugitive = o; program = value_in bs ls.program; listed = xs }

  pub enters-program : ls.program.there ≡ false → Entered bs (some program_key) v ls (with_program ls v) (v.end + 1) seen
  unfolding read_of
  enters-program h = record {
    next_is = refl;
    kept = record {
      within = within;
      lie = record {
        standard = later ls.standard g.lie.standard;
        fugitive = later ls.fugitive g.lie.fugitive;
        program = lies-new bs v f;
      };
      marks = g.marks;
    };
    reads =
        keyed-known bs v ls program_key false h
        ∙ ap (λ (o : Option Value). accepted (joined o)) (sym (value_there bs v f.there));
  }
    where
      joined : Option Value → Read
      joined o = record { standard = value_in bs ls.standard; fugitive = value_in bs ls.fugitive; program = o; listed = (read_of bs ls).listed }
