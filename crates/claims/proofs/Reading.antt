-- A file is refused exactly as `ReadingRefuses` says, and accepted exactly as `Accepts` says: what the reading answers (`paper`, `Refusals`: reading) is one
-- of the two, with one number and place, or one program. Assumes nothing.
--     reading-refused, refused-reading      a refusal is the first condition that holds, and the first condition that holds is the refusal
--     reading-accepted, accepted-reading    the same of a program
use Prim.Native.Nat.{ℕ, ◌+◌, ◌≤◌}
use mathlib.Core.Path.{◌≡◌, refl, sym, ap, subst, ◌∙◌}
use mathlib.Core.Bool.{Bool, true, false, true≢false}
use mathlib.Core.List.{List, [], ◌∷◌, ◌++◌, append_assoc, append-nil}
use mathlib.Core.Option.{Option, none, some}
use borrow.Author.Tests.{ltb-true, ltb-false, lt-ltb, le-ltb}
use lib.Dec.{ltb}
use lib.ListN.{length}
use Rattle.paper.specs.Parse.{Parsed, program, stops, Says, parse}
use Rattle.paper.specs.File.{Answer, refused, accepted, unless, and_then, where_if, Line, lines, program_key, Value, Read, nothing_read, is_there, read_line, read_lines}
use Rattle.paper.specs.Reaction.{Program}
use Rattle.paper.specs.Refusals.{Edition, most_bytes, program_of, programmed, with_program, reading}
use Rattle.paper.proofs.Choices.{clash}
use Rattle.laws.proofs.Ordered.{checks, programmed-first, first-refuses, first-accepts}
use Rattle.laws.proofs.Parsing.{parse-right, parse-program, right-one}
use Rattle.claims.specs.Faults.{Keyed, value_with, listed_within, read_of, LineFine, LinesRefuse, this, later, LinesFine, ProgramIs, ReadingRefuses, number_2, number_3_to_6, number_7, number_8, number_9_to_16, Accepts}
use Rattle.claims.proofs.Keys.{carry, known-keyed, keyed-known, line_refused, refused-line, line_gives}

-- ---- the lines

line-fine : (before : List Line) (l : Line) (s : Read) → read_line (read_of before) l ≡ accepted s → LineFine before l
line-fine before l s q n p r = clash (let z = refused-line before l n p r in cc)

lines-refused : (before ls : List Line) (n p : ℕ) → read_lines (read_of before) ls ≡ refused n p → LinesRefuse before ls n p
unfolding read_lines
lines-refused before [] n p e = clash (cc)
lines-refused before (l ∷ ls) n p e = go (read_line (read_of before) l) refl e (lines-refused (before ++ (l ∷ [])) ls n p)
  where
    go : (a : Answer Read) → read_line (read_of before) l ≡ a → and_then a (λ s. read_lines s ls) ≡ refused n p
        → (read_lines (read_of (before ++ (l ∷ []))) ls ≡ refused n p → LinesRefuse (before ++ (l ∷ [])) ls n p) → LinesRefuse before (l ∷ ls) n p
    go (refused m o) q h ih = this (line_refused before l n p (q ∙ h))
    go (accepted s) q h ih = later (line-fine before l s q) (ih (ap (λ (r : Read). read_lines r ls) (line_gives before l s q) ∙ h))

refused-lines : (before ls : List Line) (n p : ℕ) → LinesRefuse before ls n p → read_lines (read_of before) ls ≡ refused n p
unfolding read_lines
refused-lines before ls n p (this {more = more} {l = l} h) = ap (λ (a : Answer Read). and_then a (λ s. read_lines s more)) (refused-line before l n p h)
refused-lines before ls n p (later {more = more} {l = l} f h) =
    go (read_line (read_of before) l) refl (refused-lines (before ++ (l ∷ [])) more n p h)
  where
    go : (a : Answer Read) → read_line (read_of before) l ≡ a → read_lines (read_of (before ++ (l ∷ []))) more ≡ refused n p
        → and_then (read_line (read_of before) l) (λ s. read_lines s more) ≡ refused n p
    go (refused m o) q k = absurd (f m o (line_refused before l m o q))
    go (accepted s) q k =
        ap (λ (a : Answer Read). and_then a (λ s. read_lines s more)) q ∙ ap (λ (r : Read). read_lines r more) (sym (line_gives before l s q)) ∙ k

lines-give : (before ls : List Line) (r : Read) → read_lines (read_of before) ls ≡ accepted r → read_of (before ++ ls) ≡ r
unfolding read_lines
lines-give before [] r e = ap read_of (append-nil before) ∙ cc
lines-give before (l ∷ ls) r e = go (read_line (read_of before) l) refl e (lines-give (before ++ (l ∷ [])) ls r)
  where
    go : (a : Answer Read) → read_line (read_of before) l ≡ a → and_then a (λ s. read_lines s ls) ≡ accepted r
        → (read_lines (read_of (before ++ (l ∷ []))) ls ≡ accepted r → read_of ((before ++ (l ∷ [])) ++ ls) ≡ r) → read_of (before ++ (l ∷ ls)) ≡ r
    go (refused m o) q h ih = clash (cc)
    go (accepted s) q h ih =
        ap read_of (sym (append_assoc before (l ∷ []) ls)) ∙ ih (ap (λ (r : Read). read_lines r ls) (line_gives before l s q) ∙ h)

none_read : read_of [] ≡ nothing_read
unfolding read_of value_with listed_within
none_read = refl

module _ (ls : List Line) where
  from-none : read_lines (read_of []) ls ≡ read_lines nothing_read ls
  from-none = ap (λ (r : Read). read_lines r ls) none_read

  lines-fine : (r : Read) → read_lines nothing_read ls ≡ accepted r → LinesFine ls
  lines-fine r e n p h = clash (let z = refused-lines [] ls n p h in let y = from-none in cc)

  fine-lines : LinesFine ls → read_lines nothing_read ls ≡ accepted (read_of ls)
  fine-lines f = go (read_lines nothing_read ls) refl
    where
      go : (a : Answer Read) → read_lines nothing_read ls ≡ a → a ≡ accepted (read_of ls)
      go (refused n p) q = absurd (f n p (lines-refused [] ls n p (from-none ∙ q)))
      go (accepted r) q = ap accepted (sym (lines-give [] ls r (from-none ∙ q)))

-- ---- the file

module _ (e : Edition) (file : List ℕ) where
  abbrev its : List Line
  its = lines 0 file

  abbrev rest : Read → Answer Program
  rest r = with_program parse e (length file) r r.program

  by_length : (b : Bool) → ltb most_bytes (length file) ≡ b → reading parse e file ≡ unless (where_if b 0) 2 (and_then (read_lines nothing_read its) rest)
  unfolding reading
  by_length b q = ap (λ (b : Bool). unless (where_if b 0) 2 (and_then (read_lines nothing_read its) rest)) q

  by_lines : length file ≤ most_bytes → (a : Answer Read) → read_lines nothing_read its ≡ a → reading parse e file ≡ and_then a rest
  by_lines h a q = by_length false (le-ltb most_bytes (length file) h) ∙ ap (λ (a : Answer Read). and_then a rest) q

  by-program : length file ≤ most_bytes → LinesFine its → (o : Option Value) → (read_of its).program ≡ o → reading parse e file ≡ with_program parse e (length file) (read_of its) o
  by-program h f o q = by_lines h (accepted (read_of its)) (fine-lines its f) ∙ ap (with_program parse e (length file) (read_of its)) q

  by-text : length file ≤ most_bytes → (v : Value) → ProgramIs file v → (x : Parsed) → parse v.is ≡ x → reading parse e file ≡ programmed e (read_of its) v x
  unfolding with_program
  by-text h v i x q = by-program h i.0 (some v) i.1 ∙ ap (programmed e (read_of its) v) q

  -- ---- what follows of an answer

  no_program : (read_of its).program ≡ none → Keyed program_key its → ⊥
  no_program q k = true≢false (sym (keyed-known program_key its k) ∙ ap is_there q)

  -- what an answer says
  abbrev Means : Answer Program → Type 0
  Means (refused n p) = ReadingRefuses e file n p
  Means (accepted q) = Accepts e file q

  text-means : length file ≤ most_bytes → (v : Value) → ProgramIs file v → (x : Parsed) → parse v.is ≡ x → (a : Answer Program) → programmed e (read_of its) v x ≡ a → Means a
  unfolding programmed
  text-means h v i (stops k) q (refused n p) m =
      carry (ReadingRefuses e file) 8 (v.at + k) n p m (number_8 h i (subst (Says v.is) q (parse-right v.is)))
  text-means h v i (stops k) q (accepted x) m = clash (cc)
  text-means h v i (program s) q (refused n p) m =
      number_9_to_16 h i s (parse-program v.is s q)
      ((first-refuses (program_of (read_of its) v.is s) n p (checks e (read_of its) v.at v.is s)).0 (sym (programmed-first e (read_of its) v s) ∙ m))
  text-means h v i (program s) q (accepted x) m =
      let c = (first-accepts (program_of (read_of its) v.is s) x (checks e (read_of its) v.at v.is s)).0 (sym (programmed-first e (read_of its) v s) ∙ m) in
      record { short = h; line = v; tree = s; its = i; text = parse-program v.is s q; clear = c.0; program = sym c.1 }

  program-means : length file ≤ most_bytes → LinesFine its → (o : Option Value) → (read_of its).program ≡ o → (a : Answer Program) → with_program parse e (length file) (read_of its) o ≡ a → Means a
  unfolding with_program
  program-means h f none q (refused n p) m = carry (ReadingRefuses e file) 7 (length file) n p m (number_7 h f (no_program q))
  program-means h f none q (accepted x) m = clash (cc)
  program-means h f (some v) q a m = text-means h v (f, q) (parse v.is) refl a m

  lines-mean : length file ≤ most_bytes → (b : Answer Read) → read_lines nothing_read its ≡ b → (a : Answer Program) → and_then b rest ≡ a → Means a
  lines-mean h (refused m o) q (refused n p) e = number_3_to_6 h (lines-refused [] its n p (from-none its ∙ q ∙ same m o n p e))
    where
      same : (m o n p : ℕ) → ◌≡◌ {A = Answer Program} (refused m o) (refused n p) → ◌≡◌ {A = Answer Read} (refused m o) (refused n p)
      same m o n p e = carry (λ k j. ◌≡◌ {A = Answer Read} (refused m o) (refused k j)) m o n p e refl
  lines-mean h (refused m o) q (accepted x) e = clash (cc)
  lines-mean h (accepted r) q a e =
      let i = lines-give [] its r (from-none its ∙ q) in
      program-means h (lines-fine its r q) (read_of its).program refl a (ap rest i ∙ e)

  reading-means : (b : Bool) → ltb most_bytes (length file) ≡ b → (a : Answer Program) → reading parse e file ≡ a → Means a
  reading-means true q (refused n p) m = carry (ReadingRefuses e file) 2 0 n p (sym (by_length true q) ∙ m) (number_2 (ltb-true most_bytes (length file) q))
  reading-means true q (accepted x) m = clash (let z = by_length true q in cc)
  reading-means false q a m = lines-mean (ltb-false most_bytes (length file) q) (read_lines nothing_read its) refl a (sym (by_length false q) ∙ m)

  pub reading-refused : (n p : ℕ) → reading parse e file ≡ refused n p → ReadingRefuses e file n p
  reading-refused n p m = reading-means (ltb most_bytes (length file)) refl (refused n p) m

  pub reading-accepted : (q : Program) → reading parse e file ≡ accepted q → Accepts e file q
  reading-accepted q m = reading-means (ltb most_bytes (length file)) refl (accepted q) m

  -- ---- and the other way

  program-none : (Keyed program_key its → ⊥) → (o : Option Value) → (read_of its).program ≡ o → o ≡ none
  program-none f none q = refl
  program-none f (some v) q = absurd (f (known-keyed program_key its (ap is_there q)))

  pub refused-reading : (n p : ℕ) → ReadingRefuses e file n p → reading parse e file ≡ refused n p
  unfolding with_program programmed
  refused-reading n p (number_2 h) = by_length true (lt-ltb most_bytes (length file) h)
  refused-reading n p (number_3_to_6 h l) = by_lines h (refused n p) (sym (from-none its) ∙ refused-lines [] its n p l)
  refused-reading n p (number_7 h f g) = by-program h f none (program-none g (read_of its).program refl)
  refused-reading n p (number_8 {v = v} {k = k} h i s) = by-text h v i (stops k) (sym (right-one v.is (stops k) s))
  refused-reading n p (number_9_to_16 {v = v} h i s t c) =
      by-text h v i (program s) (sym (right-one v.is (program s) t)) ∙ programmed-first e (read_of its) v s
      ∙ (first-refuses (program_of (read_of its) v.is s) n p (checks e (read_of its) v.at v.is s)).1 c

  pub accepted-reading : (q : Program) → Accepts e file q → reading parse e file ≡ accepted q
  accepted-reading q a =
      by-text a.short a.line a.its (program a.tree) (sym (right-one a.line.is (program a.tree) a.text))
      ∙ programmed-first e (read_of its) a.line a.tree
      ∙ (first-accepts (program_of (read_of its) a.line.is a.tree) q (checks e (read_of its) a.line.at a.line.is a.tree)).1 (a.clear, sym a.program)
