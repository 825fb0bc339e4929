-- The bytes of a list line that was read are event letters, so that a caller may index by them.
-- `wrong_letter` finds nothing in a list only where each byte is one (`wrong-events`), and `read_lines` keeps that of every list that it joins.
-- Assumes nothing.
use Prim.Native.Nat.{ℕ, zero, suc, ◌+◌, ◌-◌, ◌≤◌, ◌<◌}
use mathlib.Core.Path.{◌≡◌, refl, ap, sym, subst, ◌∙◌}
use mathlib.Core.Bool.{Bool, true, false, cond, not, ◌&&◌}
use mathlib.Core.List.{List, [], ◌∷◌}
use mathlib.Core.Option.{Option, none, some}
use native.Mathlib.Omega.{arith}
use lib.Dec.{ltb}
use lib.ListN.{length, get_or, drop}
use lib.Seq.{get_or-take, get_or-drop}
use Rattle.paper.specs.Lists.{has}
use Rattle.paper.specs.Bytes.{is_event}
use Rattle.paper.specs.File.{
  Answer,
  refused,
  accepted,
  unless,
  and_then,
  where_if,
  Line,
  Value,
  Read,
  nothing_read,
  value_of,
  known,
  joins,
  keyed,
  key_of,
  key,
  broken,
  read_line,
  read_lines,
  lines,
  letters_of,
  wrong_letter,
  Key,
  standard_key,
  fugitive_key,
  program_key,
}
use Rattle.paper.specs.Refusals.{most_bytes}
use Rattle.paper.proofs.Choices.{clash}
use Rattle.text.specs.declared.Span.{Span}
use Rattle.text.specs.declared.Lines.{Lines}
use Rattle.text.specs.declared.Reading.TheVariants.{Read as Taken}
use Rattle.text.specs.Spans.{part, value_in, read_of, program_in, lines_read, Lies, Answers}
use Rattle.text.proofs.Parts.{length_part}
use Rattle.text.proofs.Entering.{value_there}

-- every byte is an event letter
unfoldable pub Events : List ℕ → Type 0
Events [] = Unit {0}
Events (b ∷ bs) = (is_event b ≡ true) × Events bs

abbrev EventsIn : Option Value → Type 0
EventsIn none = Unit {0}
EventsIn (some v) = Events v.is

abbrev Lettered : Read → Type 0
Lettered r = EventsIn r.standard × EventsIn r.fugitive

wrong-events : (before : List ℕ) (at : ℕ) (bs : List ℕ) → wrong_letter before at bs ≡ none → Events bs
unfolding wrong_letter Events
wrong-events before at [] h = tt
wrong-events before at (b ∷ bs) h =
    by_tests (is_event b) (not (has (b - 65) before)) refl (λ k. wrong-events ((b - 65) ∷ before) (at + 1) bs k) h
  where
    by_tests : (s t : Bool) → is_event b ≡ s → (wrong_letter ((b - 65) ∷ before) (at + 1) bs ≡ none → Events bs) → cond (s && t) (wrong_letter ((b - 65) ∷ before) (at + 1) bs) (some at) ≡ none → (is_event b ≡ true) × Events bs
    by_tests true true e f k = (e, f k)
    by_tests true false e f k = clash (cc)
    by_tests false t e f k = clash (cc)

-- ---- kept by each step

unless-accepted : (o : Option ℕ) (n : ℕ) (a : Answer Read) (s : Read) → unless o n a ≡ accepted s → (o ≡ none) × (a ≡ accepted s)
unless-accepted none n a s h = (refl, h)
unless-accepted (some p) n a s h = clash (cc)

and-then-accepted : (a : Answer Read) (f : Read → Answer Read) (s : Read) → and_then a f ≡ accepted s → (r : Read) × (a ≡ accepted r) × (f r ≡ accepted s)
and-then-accepted (refused n p) f s h = clash (cc)
and-then-accepted (accepted r) f s h = (r, refl, h)

accepted-same : (r s : Read) → accepted r ≡ accepted s → Lettered r → Lettered s
accepted-same r s h g = let e : r ≡ s = cc in subst Lettered e g

joins-lettered : (r : Read) (k : Key) (v : Value) (s : Read) → Lettered r → joins r k v ≡ accepted s → Lettered s
joins-lettered r program_key v s g h = accepted-same _ s h g
joins-lettered r standard_key v s g h =
    let q = unless-accepted (wrong_letter (letters_of r.listed) v.at v.is) 6 _ s h in
    accepted-same _ s q.1 (wrong-events (letters_of r.listed) v.at v.is q.0, g.1)
joins-lettered r fugitive_key v s g h =
    let q = unless-accepted (wrong_letter (letters_of r.listed) v.at v.is) 6 _ s h in
    accepted-same _ s q.1 (g.0, wrong-events (letters_of r.listed) v.at v.is q.0)

keyed-lettered : (r : Read) (l : Line) (o : Option Key) (s : Read) → Lettered r → keyed r l o ≡ accepted s → Lettered s
keyed-lettered r l none s g h = clash (cc)
keyed-lettered r l (some k) s g h =
    joins-lettered r k (value_of l) s g (unless-accepted (where_if (known r k) l.begins) 5 (joins r k (value_of l)) s h).1

line-lettered : (r : Read) (l : Line) (s : Read) → Lettered r → read_line r l ≡ accepted s → Lettered s
unfolding read_line
line-lettered r l s g h =
    keyed-lettered r l (key_of (key l.text)) s g (unless-accepted (where_if (broken l) l.begins) 3 _ s h).1

lines-lettered : (ls : List Line) (r s : Read) → Lettered r → read_lines r ls ≡ accepted s → Lettered s
unfolding read_lines
lines-lettered [] r s g h = accepted-same r s h g
lines-lettered (l ∷ ls) r s g h =
    let q = and-then-accepted (read_line r l) (λ t. read_lines t ls) s h in
    lines-lettered ls q.0 s (line-lettered r l q.0 g q.1) q.2

program-lettered : (n : ℕ) (r : Read) (o : Option Value) (s : Read) → Lettered r → program_in n r o ≡ accepted s → Lettered s
program-lettered n r none s g h = clash (cc)
program-lettered n r (some v) s g h = accepted-same r s h g

read-lettered : (bs : List ℕ) (s : Read) → lines_read bs ≡ accepted s → Lettered s
unfolding lines_read
read-lettered bs s h =
    let q = (unless-accepted (where_if (ltb most_bytes (length bs)) 0) 2 _ s h).1 in
    let t = and-then-accepted (read_lines nothing_read (lines 0 bs)) (λ r. program_in (length bs) r r.program) s q in
    program-lettered (length bs) t.0 t.0.program s (lines-lettered (lines 0 bs) nothing_read t.0 (tt, tt) t.1) t.2

-- ---- the list lines of an answer

events-at : (xs : List ℕ) → Events xs → (k : ℕ) → k < length xs → is_event (get_or xs k 0) ≡ true
unfolding Events
events-at [] e k h = absurd (omega arith)
events-at (x ∷ xs) e zero h = e.0
events-at (x ∷ xs) e (suc k) h = events-at xs e.1 k (omega arith)

module _ (bs : List ℕ) (ls : Lines) (g : Answers bs (Taken ls)) where
  lettered : Lettered (read_of bs ls)
  lettered = read-lettered bs (read_of bs ls) (sym g.means)

  -- a byte between the value's start and its end
  byte-event : (s : Span) → Lies (length bs) s → s.there ≡ true → EventsIn (value_in bs s) → (k : ℕ) → s.at ≤ k → k < s.end → is_event (get_or bs k 0) ≡ true
  byte-event s l t e k low high =
      let v : Events (part bs s.at s.end) = subst EventsIn (value_there bs s t) e in
      let h = l.here t in
      let n : length (part bs s.at s.end) ≡ s.end - s.at = length_part bs s.at s.end (omega arith) in
      let q : s.at + (k - s.at) ≡ k = omega arith in
      sym
      (ap is_event
      (get_or-take (s.end - s.at) (drop s.at bs) (k - s.at) 0 (omega arith)
      ∙ (get_or-drop s.at bs (k - s.at) 0 ∙ ap (λ (i : ℕ). get_or bs i 0) q)))
      ∙ events-at (part bs s.at s.end) v (k - s.at) (omega arith)

  pub standard-event : ls.standard.there ≡ true → (k : ℕ) → ls.standard.at ≤ k → k < ls.standard.end → is_event (get_or bs k 0) ≡ true
  unfolding read_of
  standard-event t k low high = byte-event ls.standard g.lie.standard t lettered.0 k low high

  pub fugitive-event : ls.fugitive.there ≡ true → (k : ℕ) → ls.fugitive.at ≤ k → k < ls.fugitive.end → is_event (get_or bs k 0) ≡ true
  unfolding read_of
  fugitive-event t k low high = byte-event ls.fugitive g.lie.fugitive t lettered.1 k low high
