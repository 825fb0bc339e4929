-- What the functions below `read_lines` promise of the bytes bs of a file, each a step of the paper's `read_lines`.
--     Finds bs from to b r          r is the first place from `from` on that holds b, or `to`
--     keyed_at                       `keyed` of the paper, for a line's value
--     spanned, then_from             a line as a span; an answer, and then the lines after it
--     Cuts bs at r                  how the line that begins at `at` is cut (No. 3)
--     key_meant                      the paper's key
--     Marks seen before             seen marks the letters of the list before
--     Lists bs from to seen seen' r r is the first wrong letter of an event list (No. 6), and seen' marks the letters up to it too
--     Kept bs at ls seen            ls are the lines before the place `at`, and seen marks the letters that they list
--     Fresh bs v                    v is a line of bs that can be entered
--     Enters bs k v ls seen r       r is what comes of the line v with the key k (No. 4 to 6), and seen marks the letters after it
--     Steps bs at ls seen r         the same for the whole line that begins at `at` (No. 3 to 6)
-- Assumes nothing.
use Rattle.std.specs.Prelude.{ℕ, ◌+◌, ◌≤◌, ◌<◌, ◌≡◌, Bool, true, false, List, ◌++◌, length, get_or, drop}
use Rattle.std.proofs.Math.Option.{Option, none, some}
use Rattle.paper.specs.Lists.{has}
use Rattle.paper.specs.File.{
  Answer,
  refused,
  accepted,
  unless,
  and_then,
  where_if,
  Value,
  Read,
  known,
  joins,
  lines,
  read_lines,
  listed_from,
  letters_of,
  wrong_letter,
  key_of,
  standard_key,
  fugitive_key,
  program_key,
}
use Rattle.paper.specs.File as File
use Rattle.text.specs.declared.Span.{Span}
use Rattle.text.specs.declared.Lines.{Lines}
use Rattle.text.specs.declared.Cut.{Cut}
use Rattle.text.specs.declared.Cut.TheVariants.{Broken, Parts}
use Rattle.text.specs.declared.Key.{Key}
use Rattle.text.specs.declared.Key.TheVariants.{Standard, Fugitive, Program, Unknown}
use Rattle.text.specs.declared.Listing.{Listing}
use Rattle.text.specs.declared.Listing.TheVariants.{Wrong, Fine}
use Rattle.text.specs.declared.Step.{Step}
use Rattle.text.specs.declared.Step.TheVariants.{Stop, Next}
use Rattle.text.specs.Spans.{part, value_at, read_of, Lie}

pub record Finds (bs : List ℕ) (from to b r : ℕ) : Type 0 where
  pub low : from ≤ r
  pub high : r ≤ to
  pub before : has b (part bs from r) ≡ false
  pub found : r < to → get_or bs r 0 ≡ b

-- the paper's `keyed`: of the line only its start and its value count
abbrev pub keyed_at : Read → Value → Option File.Key → Answer Read
keyed_at r v none = refused 4 v.line_at
keyed_at r v (some k) = unless (where_if (known r k) v.line_at) 5 (joins r k v)

-- a line that begins at `at`, by its first space and its end
abbrev pub spanned : ℕ → ℕ → ℕ → Span
spanned at space end = record { there = true; line = at; at = space + 1; end = end }

-- and then the lines from the place `next` on
abbrev pub then_from : List ℕ → ℕ → Answer Read → Answer Read
then_from bs next a = and_then a (λ s. read_lines s (lines next (drop next bs)))

-- whatever was read before the line: first its key and value, then the lines after it
pub record Parted (bs : List ℕ) (at space end : ℕ) : Type 0 where
  pub keyed : at ≤ space
  pub valued : space + 1 < end
  pub ended : end < length bs
  pub reads : (r : Read) → read_lines r (lines at (drop at bs)) ≡ then_from bs (end + 1) (keyed_at r (value_at bs (spanned at space end)) (key_of (part bs at space)))

abbrev pub Cuts : List ℕ → ℕ → Cut → Type 0
Cuts bs at Broken = (r : Read) → read_lines r (lines at (drop at bs)) ≡ refused 3 at
Cuts bs at (Parts space end) = Parted bs at space end

abbrev pub key_meant : Key → Option File.Key
key_meant Standard = some standard_key
key_meant Fugitive = some fugitive_key
key_meant Program = some program_key
key_meant Unknown = none

pub record Marks (seen : List Bool) (before : List ℕ) : Type 0 where
  pub long : length seen ≡ 26
  pub each : (k : ℕ) → k < 26 → get_or seen k false ≡ has k before

abbrev pub wrong_place : Listing → Option ℕ
wrong_place (Wrong p) = some p
wrong_place Fine = none

abbrev pub up_to : ℕ → Listing → ℕ
up_to to (Wrong p) = p
up_to to Fine = to

pub record Lists (bs : List ℕ) (from to : ℕ) (seen seen' : List Bool) (r : Listing) : Type 0 where
  pub finds : (before : List ℕ) → Marks seen before → wrong_letter before from (part bs from to) ≡ wrong_place r
  pub marks : (before : List ℕ) → Marks seen before → Marks seen' (before ++ letters_of (listed_from from (part bs from (up_to to r))))

pub record Kept (bs : List ℕ) (at : ℕ) (ls : Lines) (seen : List Bool) : Type 0 where
  pub within : at ≤ length bs
  pub lie : Lie at ls
  pub marks : Marks seen (letters_of (read_of bs ls).listed)

pub record Fresh (bs : List ℕ) (v : Span) : Type 0 where
  pub there : v.there ≡ true
  pub begins : v.line < v.at
  pub valued : v.at < v.end
  pub ended : v.end < length bs

pub record Entered (bs : List ℕ) (k : Option File.Key) (v : Span) (ls ls' : Lines) (next : ℕ) (seen : List Bool) : Type 0 where
  pub next_is : next ≡ v.end + 1
  pub kept : Kept bs next ls' seen
  pub reads : keyed_at (read_of bs ls) (value_at bs v) k ≡ accepted (read_of bs ls')

-- after a refusal nobody looks at the marks
abbrev pub Enters : List ℕ → Option File.Key → Span → Lines → List Bool → Step → Type 0
Enters bs k v ls seen (Stop number place) = keyed_at (read_of bs ls) (value_at bs v) k ≡ refused number place
Enters bs k v ls seen (Next ls' next) = Entered bs k v ls ls' next seen

pub record Stepped (bs : List ℕ) (at : ℕ) (ls ls' : Lines) (next : ℕ) (seen : List Bool) : Type 0 where
  pub more : at < next
  pub kept : Kept bs next ls' seen
  pub reads : read_lines (read_of bs ls) (lines at (drop at bs)) ≡ read_lines (read_of bs ls') (lines next (drop next bs))

abbrev pub Steps : List ℕ → ℕ → Lines → List Bool → Step → Type 0
Steps bs at ls seen (Stop number place) = read_lines (read_of bs ls) (lines at (drop at bs)) ≡ refused number place
Steps bs at ls seen (Next ls' next) = Stepped bs at ls ls' next seen
