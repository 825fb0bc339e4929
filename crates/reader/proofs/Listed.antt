-- The event lists of a file as the checks take them: each list is a part of the file (an empty one where there is no such line), its letters are those of
-- its bytes, and the flags tell them (`lists-are`). Assumes nothing.
use Prim.Native.Nat.{ℕ, zero, suc, ◌+◌, ◌-◌, ◌<◌, ◌≤◌}
use mathlib.Core.Path.{◌≡◌, refl, sym, ap, ap₂, ◌∙◌}
use mathlib.Core.Bool.{Bool, true, false, cond, ◌&&◌, ◌||◌}
use mathlib.Core.List.{List, [], ◌∷◌, ◌++◌}
use mathlib.Core.Option.{none, some}
use native.Mathlib.Omega.{arith}
use lib.Dec.{eqb, ltb}
use lib.ListN.{length, get_or, take}
use lib.Seq.{slice, slice_empty, length-slice, get_or-drop, get_or-take}
use borrow.Author.Tests.{eqb-true, eqb-false, eq-eqb, ne_eqb}
use Rattle.paper.specs.Lists.{has, below, from}
use Rattle.paper.specs.Bytes.{is_event}
use Rattle.paper.specs.Grammar.{event_byte}
use Rattle.paper.specs.File.{Listed, listed_from, letters_of}
use Rattle.paper.specs.Refusals.{ascending, fugitive_text}
use Rattle.laws.proofs.Letters.{has-keep}
use Rattle.letters.specs.Letters.{Tells, TellsFrom, Events}
use Rattle.letters.proofs.Flags.{letter-low}
use Rattle.joins.proofs.Uses.{has-append}
use Rattle.text.specs.declared.Span.{Span}
use Rattle.text.specs.declared.Lines.{Lines}
use Rattle.text.specs.Spans.{part, value_at, listed_within, two_in_order, read_of, Lies}
use Rattle.text.proofs.Entering.{letters-append}
use Rattle.text.proofs.Listed.{standard-event, fugitive-event}
use Rattle.reader.specs.Stages.{Taken, Listing}
use Rattle.reader.proofs.Slices.{slice-part}

-- ---- letters of a list

or_comm : (a b : Bool) → (a || b) ≡ (b || a)
or_comm true true = refl
or_comm true false = refl
or_comm false true = refl
or_comm false false = refl

-- a letter is found by its byte
letter-byte : (l b : ℕ) → is_event b ≡ true → eqb l (b - 65) ≡ eqb (65 + l) b
letter-byte l b h = by-test (eqb l (b - 65)) refl
  where
    by-test : (t : Bool) → eqb l (b - 65) ≡ t → t ≡ eqb (65 + l) b
    by-test true e = sym (eq-eqb (65 + l) b (omega (arith, letter-low 65 b h, eqb-true l (b - 65) e)))
    by-test false e = sym (ne_eqb (65 + l) b (λ q. eqb-false l (b - 65) e (omega (arith, letter-low 65 b h))))

has_listed : (l at : ℕ) (v : List ℕ) → Events v → has l (letters_of (listed_from at v)) ≡ has (65 + l) v
unfolding has listed_from
has_listed l at [] h = refl
has_listed l at (b ∷ v) h =
    ap (λ (t : Bool). t || has l (letters_of (listed_from (at + 1) v))) (letter-byte l b (h 0 (omega arith)))
    ∙ ap (λ (t : Bool). eqb (65 + l) b || t) (has_listed l (at + 1) v (λ k q. h (suc k) (omega arith)))

has-from : (l k n : ℕ) → k ≤ l → l < k + n → has l (from k n) ≡ true
unfolding has from
has-from l k zero h q = absurd (omega arith)
has-from l k (suc n) h q = by-test (eqb l k) refl (λ z. has-from l (suc k) n z (omega arith))
  where
    by-test : (t : Bool) → eqb l k ≡ t → (suc k ≤ l → has l (from (suc k) n) ≡ true) → (t || has l (from (suc k) n)) ≡ true
    by-test true e more = refl
    by-test false e more = more (above (eqb-false l k e))
      where
        above : (l ≡ k → ⊥) → suc k ≤ l
        above z = omega arith

-- the names of a list, ascending, are those of its bytes
has-ascending : (l : ℕ) (v : List ℕ) → l < 26 → has l (ascending event_byte v) ≡ has (65 + l) v
unfolding below
has-ascending l v h =
    has-keep (λ n. has (event_byte n) v) l (below 26) ∙ ap (λ (t : Bool). t && has (event_byte l) v) (has-from l 0 26 (omega arith) (omega arith))

-- ---- a list as a part of the file

pub end-in : (n : ℕ) (s : Span) → Lies n s → s.end ≤ n
end-in n s l = by-there s.there refl
  where
    by-there : (t : Bool) → s.there ≡ t → s.end ≤ n
    by-there true e = let x = l.here e in omega arith
    by-there false e = let x = l.away e in omega arith

module _ (bs : List ℕ) (s : Span) (l : Lies (length bs) s) where
  listed_in : listed_within bs s ≡ listed_from s.at (slice s.at s.end bs)
  unfolding listed_from
  listed_in = by-there s.there refl
    where
      by-there : (t : Bool) → s.there ≡ t → cond t (listed_from s.at (part bs s.at s.end)) [] ≡ listed_from s.at (slice s.at s.end bs)
      by-there true e = ap (listed_from s.at) (sym (slice-part s.at s.end bs))
      by-there false e =
          let x = l.away e in
          let z : slice s.at s.end bs ≡ [] = ap (λ (n : ℕ). slice n s.end bs) (x.1 ∙ sym x.2) ∙ slice_empty s.end bs in
          sym (ap (listed_from s.at) z)

  events-in : (s.there ≡ true → (k : ℕ) → s.at ≤ k → k < s.end → is_event (get_or bs k 0) ≡ true) → Events (slice s.at s.end bs)
  events-in h k b = by-there s.there refl
    where
      long : length (slice s.at s.end bs) ≡ s.end - s.at
      long = length-slice s.at s.end bs (end-in (length bs) s l)

      by-there : (t : Bool) → s.there ≡ t → is_event (get_or (slice s.at s.end bs) k 0) ≡ true
      by-there true e =
          ap is_event (get_or-drop s.at (take s.end bs) k 0 ∙ get_or-take s.end bs (s.at + k) 0 (omega (arith, long)))
          ∙ h e (s.at + k) (omega arith) (omega (arith, long))
      by-there false e = let x = l.away e in absurd (omega (arith, long))

module _ (bs : List ℕ) (ls : Lines) (h : Taken bs ls) where
  standards : Events (slice ls.standard.at ls.standard.end bs)
  standards = events-in bs ls.standard h.lie.standard (standard-event bs ls h)

  fugitives : Events (slice ls.fugitive.at ls.fugitive.end bs)
  fugitives = events-in bs ls.fugitive h.lie.fugitive (fugitive-event bs ls h)

  pub fugitive-tells : (passing : List Bool) → TellsFrom 65 passing (slice ls.fugitive.at ls.fugitive.end bs) → Tells passing (ascending event_byte (fugitive_text (read_of bs ls).fugitive))
  unfolding read_of has
  fugitive-tells passing b l q = by-there ls.fugitive.there refl
    where
      by-there : (t : Bool) → ls.fugitive.there ≡ t → get_or passing l false ≡ has l (ascending event_byte (fugitive_text (cond t (some (value_at bs ls.fugitive)) none)))
      by-there true e =
          b l q
          ∙ (ap (has (65 + l)) (slice-part ls.fugitive.at ls.fugitive.end bs)
          ∙ sym (has-ascending l (part bs ls.fugitive.at ls.fugitive.end) q))
      by-there false e =
          let x = h.lie.fugitive.away e in
          b l q
          ∙ (ap (has (65 + l)) (ap (λ (n : ℕ). slice n ls.fugitive.end bs) (x.1 ∙ sym x.2) ∙ slice_empty ls.fugitive.end bs)
          ∙ sym (has-ascending l [] q))

  module _ (stored passing listed : List Bool) (a : TellsFrom 65 stored (slice ls.standard.at ls.standard.end bs)) (b : TellsFrom 65 passing (slice ls.fugitive.at ls.fugitive.end bs)) (c : (l : ℕ) → l < 26 → get_or listed l false ≡ (get_or stored l false || get_or passing l false)) where
    -- the letters of both lists, whichever comes first
    both-tell : (l : ℕ) → l < 26 → get_or listed l false ≡ (has l (letters_of (listed_from ls.standard.at (slice ls.standard.at ls.standard.end bs))) || has l (letters_of (listed_from ls.fugitive.at (slice ls.fugitive.at ls.fugitive.end bs))))
    both-tell l q =
        c l q
        ∙ ap₂ (λ (x y : Bool). x || y)
        (a l q ∙ sym (has_listed l ls.standard.at (slice ls.standard.at ls.standard.end bs) standards))
        (b l q ∙ sym (has_listed l ls.fugitive.at (slice ls.fugitive.at ls.fugitive.end bs) fugitives))

    has_both : (l : ℕ) (xs ys : List Listed) → has l (letters_of (xs ++ ys)) ≡ (has l (letters_of xs) || has l (letters_of ys))
    has_both l xs ys = ap (has l) (letters-append xs ys) ∙ has-append l (letters_of xs) (letters_of ys)

    in_order : (t : Bool) → ltb ls.standard.line ls.fugitive.line ≡ t → (read_of bs ls).listed ≡ two_in_order t (listed_from ls.standard.at (slice ls.standard.at ls.standard.end bs)) (listed_from ls.fugitive.at (slice ls.fugitive.at ls.fugitive.end bs))
    unfolding read_of
    in_order t e =
        ap (λ (x : Bool). two_in_order x (listed_within bs ls.standard) (listed_within bs ls.fugitive)) e
        ∙ ap₂ (λ (xs ys : List Listed). two_in_order t xs ys) (listed_in bs ls.standard h.lie.standard) (listed_in bs ls.fugitive h.lie.fugitive)

    pub standard-first : ltb ls.standard.line ls.fugitive.line ≡ true → Listing bs ls (record { from = ls.standard.at; to = ls.standard.end; from2 = ls.fugitive.at; to2 = ls.fugitive.end; listed = listed; fugitive = passing })
    standard-first e = record {
      lists = record {
        are-listed = in_order true e;
        tells_listed = λ l q. both-tell l q ∙ sym (ap (λ (xs : List Listed). has l (letters_of xs)) (in_order true e) ∙ has_both l (listed_from ls.standard.at (slice ls.standard.at ls.standard.end bs)) (listed_from ls.fugitive.at (slice ls.fugitive.at ls.fugitive.end bs)));
        tells_fugitive = fugitive-tells passing b;
      };
      first = (end-in (length bs) ls.standard h.lie.standard, standards);
      second = (end-in (length bs) ls.fugitive h.lie.fugitive, fugitives);
    }

    pub fugitive-first : ltb ls.standard.line ls.fugitive.line ≡ false → Listing bs ls (record { from = ls.fugitive.at; to = ls.fugitive.end; from2 = ls.standard.at; to2 = ls.standard.end; listed = listed; fugitive = passing })
    fugitive-first e = record {
      lists = record {
        are-listed = in_order false e;
        tells_listed = λ l q. both-tell l q ∙ (or_comm (has l (letters_of (listed_from ls.standard.at (slice ls.standard.at ls.standard.end bs)))) (has l (letters_of (listed_from ls.fugitive.at (slice ls.fugitive.at ls.fugitive.end bs)))) ∙ sym (ap (λ (xs : List Listed). has l (letters_of xs)) (in_order false e) ∙ has_both l (listed_from ls.fugitive.at (slice ls.fugitive.at ls.fugitive.end bs)) (listed_from ls.standard.at (slice ls.standard.at ls.standard.end bs))));
        tells_fugitive = fugitive-tells passing b;
      };
      first = (end-in (length bs) ls.fugitive h.lie.fugitive, fugitives);
      second = (end-in (length bs) ls.standard h.lie.standard, standards);
    }
