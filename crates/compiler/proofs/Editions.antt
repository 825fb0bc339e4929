-- The two editions read alike: a file that either accepts is accepted by Adaptive, with the same program, since Basic only has No. 15 and 16 more
-- (`both-editions`). And no refusal has the number 0 (`reading-numbered`). Of any reader of a program's text. Assumes nothing.
use Prim.Native.Nat.{ℕ, ◌≤◌}
use mathlib.Core.Path.{◌≡◌, sym, subst, ◌∙◌}
use mathlib.Core.Bool.{Bool, true, false}
use mathlib.Core.List.{List, [], ◌∷◌, ◌++◌}
use mathlib.Core.Option.{Option, none, some}
use native.Mathlib.Omega.{arith}
use borrow.Author.Rules.{rules}
use lib.Dec.{ltb}
use lib.ListN.{length}
use Rattle.paper.specs.Grammar.{Sequence}
use Rattle.paper.specs.Parse.{Parsed, program, stops}
use Rattle.paper.specs.File.{Answer, refused, accepted, unless, and_then, where_if, Value, Read, nothing_read, Line, Key, standard_key, fugitive_key, program_key, lines, known, value_of, listed_from, wrong_letter, letters_of, joins, keyed, key_of, key, broken, read_line, read_lines}
use Rattle.paper.specs.Reaction.{Program}
use Rattle.paper.specs.Refusals.{Edition, basic, adaptive, most_bytes, program_of, programmed, with_program, reading}
use Rattle.laws.proofs.Ordered.{Check, checks, adaptive_checks, Clear, first, programmed-first, first-accepts}

-- ---- Basic's checks begin with Adaptive's

clear-front : (r : Read) (at : ℕ) (v : List ℕ) (s : Sequence) (more : List Check) → Clear (adaptive_checks r at v s more) → Clear (adaptive_checks r at v s [])
unfolding Clear
clear-front r at v s more h =
    (h.0, (h.1.0, (h.1.1.0, (h.1.1.1.0, (h.1.1.1.1.0, (h.1.1.1.1.1.0, (h.1.1.1.1.1.1.0, (h.1.1.1.1.1.1.1.0, (h.1.1.1.1.1.1.1.1.0, tt)))))))))

clear-adaptive : (e : Edition) (r : Read) (at : ℕ) (v : List ℕ) (s : Sequence) → Clear (checks e r at v s) → Clear (checks adaptive r at v s)
clear-adaptive basic r at v s h = clear-front r at v s _ h
clear-adaptive adaptive r at v s h = h

programmed-both : (e : Edition) (r : Read) (v : Value) (x : Parsed) (q : Program) → programmed e r v x ≡ accepted q → programmed adaptive r v x ≡ accepted q
unfolding programmed
programmed-both e r v (stops k) q h = h
programmed-both e r v (program s) q h =
    let c = (first-accepts (program_of r v.is s) q (checks e r v.at v.is s)).0 (sym (programmed-first e r v s) ∙ h) in
    programmed-first adaptive r v s
    ∙ (first-accepts (program_of r v.is s) q (checks adaptive r v.at v.is s)).1 (clear-adaptive e r v.at v.is s c.0, c.1)

module _ (f : List ℕ → Parsed) (e : Edition) where
  program-both : (n : ℕ) (r : Read) (o : Option Value) (q : Program) → with_program f e n r o ≡ accepted q → with_program f adaptive n r o ≡ accepted q
  unfolding with_program
  program-both n r none q h = h
  program-both n r (some v) q h = programmed-both e r v (f v.is) q h

  lines-both : (n : ℕ) (a : Answer Read) (q : Program) → and_then a (λ r. with_program f e n r r.program) ≡ accepted q → and_then a (λ r. with_program f adaptive n r r.program) ≡ accepted q
  lines-both n (refused k p) q h = h
  lines-both n (accepted r) q h = program-both n r r.program q h

  -- a file that either edition accepts, Adaptive accepts, and reads the same program in it
  pub both-editions : (file : List ℕ) (q : Program) → reading f e file ≡ accepted q → reading f adaptive file ≡ accepted q
  unfolding reading
  both-editions file q h = go (ltb most_bytes (length file)) h
    where
      go : (b : Bool)
          → unless (where_if b 0) 2 (and_then (read_lines nothing_read (lines 0 file)) (λ r. with_program f e (length file) r r.program)) ≡ accepted q
          → unless (where_if b 0) 2 (and_then (read_lines nothing_read (lines 0 file)) (λ r. with_program f adaptive (length file) r r.program)) ≡ accepted q
      go true k = k
      go false k = lines-both (length file) (read_lines nothing_read (lines 0 file)) q k

-- ---- number 0 is no refusal

abbrev pub Numbered : {A : Type 0} → Answer A → Type 0
Numbered (refused n p) = 1 ≤ n
Numbered (accepted a) = Unit {0}

pub unless-numbered : {A : Type 0} (o : Option ℕ) (n : ℕ) (a : Answer A) → 1 ≤ n → Numbered a → Numbered (unless o n a)
unless-numbered none n a h k = k
unless-numbered (some p) n a h k = h

then-numbered : {A B : Type 0} (a : Answer A) (f : A → Answer B) → Numbered a → ((x : A) → Numbered (f x)) → Numbered (and_then a f)
then-numbered (refused n p) f h k = h
then-numbered (accepted x) f h k = k x

letters-numbered : (r : Read) (v : Value) (x : Read) → Numbered (unless (wrong_letter (letters_of r.listed) v.at v.is) 6 (accepted x))
letters-numbered r v x = unless-numbered {A = Read} (wrong_letter (letters_of r.listed) v.at v.is) 6 (accepted x) (omega arith) tt

joins-numbered : (r : Read) (k : Key) (v : Value) → Numbered (joins r k v)
joins-numbered r program_key v = tt
joins-numbered r standard_key v =
    letters-numbered r v (record { standard = some v; fugitive = r.fugitive; program = r.program; listed = r.listed ++ listed_from v.at v.is })
joins-numbered r fugitive_key v =
    letters-numbered r v (record { standard = r.standard; fugitive = some v; program = r.program; listed = r.listed ++ listed_from v.at v.is })

keyed-numbered : (r : Read) (l : Line) (o : Option Key) → Numbered (keyed r l o)
keyed-numbered r l none = omega arith
keyed-numbered r l (some k) = unless-numbered (where_if (known r k) l.begins) 5 (joins r k (value_of l)) (omega arith) (joins-numbered r k (value_of l))

line-numbered : (r : Read) (l : Line) → Numbered (read_line r l)
unfolding read_line
line-numbered r l = unless-numbered (where_if (broken l) l.begins) 3 _ (omega arith) (keyed-numbered r l (key_of (key l.text)))

lines-numbered : (r : Read) (ls : List Line) → Numbered (read_lines r ls)
unfolding read_lines
lines-numbered r [] = tt
lines-numbered r (l ∷ ls) = then-numbered (read_line r l) (λ s. read_lines s ls) (line-numbered r l) (λ s. lines-numbered s ls)

-- each check of the list has a number
unfoldable Each : List Check → Type 0
Each [] = Unit {0}
Each (c ∷ cs) = (1 ≤ c.number) × Each cs

checks-numbered : (e : Edition) (r : Read) (at : ℕ) (v : List ℕ) (s : Sequence) → Each (checks e r at v s)
unfolding Each
checks-numbered basic r at v s = search rules
checks-numbered adaptive r at v s = search rules

first-numbered : {A : Type 0} (cs : List Check) (a : A) → Each cs → Numbered (first cs a)
unfolding first Each
first-numbered [] a h = tt
first-numbered (c ∷ cs) a h = unless-numbered c.place c.number (first cs a) h.0 (first-numbered cs a h.1)

programmed-numbered : (e : Edition) (r : Read) (v : Value) (x : Parsed) → Numbered (programmed e r v x)
unfolding programmed
programmed-numbered e r v (stops k) = omega arith
programmed-numbered e r v (program s) =
    subst Numbered (sym (programmed-first e r v s)) (first-numbered (checks e r v.at v.is s) (program_of r v.is s) (checks-numbered e r v.at v.is s))

module _ (f : List ℕ → Parsed) (e : Edition) where
  program-numbered : (n : ℕ) (r : Read) (o : Option Value) → Numbered (with_program f e n r o)
  unfolding with_program
  program-numbered n r none = omega arith
  program-numbered n r (some v) = programmed-numbered e r v (f v.is)

  pub reading-numbered : (file : List ℕ) → Numbered (reading f e file)
  unfolding reading
  reading-numbered file =
      unless-numbered (where_if (ltb most_bytes (length file)) 0) 2 _ (omega arith)
      (then-numbered (read_lines nothing_read (lines 0 file)) _ (lines-numbered nothing_read (lines 0 file)) (λ r. program-numbered (length file) r r.program))
