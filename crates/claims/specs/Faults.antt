-- When a file is refused, by which number and at which place, and when it is accepted. Document 01, "Numbers a caller may get back":
--     "Order: 1, 2, then line by line 3 to 6, then 7 to 18 in turn, each over the whole file."
-- Each condition stands under the words of the table that it renders, with what of it was looked at before and did not hold.
--     key_text k             the three keys as they are written; `HasKey k l`: the line l has the key k
--     Keyed k ls            some line of ls has the key k
--     value_with k ls        the value of the first such line
--     listed_within ls           the letters that the event lists among the lines ls list, each with its place
--     read_of ls             what lines give that have no fault: the three values, and the listed letters
--     Broken l              No. 3's condition; `Faulty before b`, `WrongLetter before at v p` No. 6's: of a byte, and that p is the first such byte of v
--     LineRefuses before l n p      the line l, behind the lines `before`, has a fault, and n at p is the first of its faults
--     LinesRefuse before ls n p     the first line of ls that has a fault has this one
--     ReadingRefuses e file n p     No. 2 to 14, for Basic 15 and 16
--     Accepts e file q      no condition holds, and q is the program
--     last_number e          the last number that a reading gives
-- Not here: that the reading is this (the proofs' `Reading`), what lines are (`Lines`), No. 1 and 17 to 23 (`Exactly`). Assumes nothing.
use Rattle.std.specs.Prelude.{ℕ, ◌+◌, ◌-◌, ◌≤◌, ◌<◌, false, cond, List, [], ◌∷◌, ◌++◌, ◌≡◌, T, length}
use Rattle.std.proofs.Math.Option.{Option, none, some}
use Rattle.paper.specs.Lists.{bytes, has, eq_l}
use Rattle.paper.specs.Bytes.{space, is_event}
use Rattle.paper.specs.Grammar.{Sequence, printed, Stops}
use Rattle.paper.specs.File.{Line, lines, key, value, Key, standard_key, fugitive_key, program_key, key_of, Value, Listed, Read, value_of, listed_from, letters_of}
use Rattle.paper.specs.Reaction.{Program}
use Rattle.paper.specs.Refusals.{Edition, basic, adaptive, most_bytes, program_of}
use Rattle.laws.proofs.Ordered.{checks, Clear, Refuses}

-- ---- the keys of lines

-- "Keys: `standard`, `fugitive`, `program`"
abbrev pub key_text : Key → List ℕ
key_text standard_key = bytes "standard"
key_text fugitive_key = bytes "fugitive"
key_text program_key = bytes "program"

abbrev pub HasKey : Key → Line → Type 0
HasKey k l = key l.text ≡ key_text k

pub data Keyed (k : Key) : List Line → Type 0 where
  this_line : {l : Line} {ls : List Line} → HasKey k l → Keyed k (l ∷ ls)
  further : {l : Line} {ls : List Line} → Keyed k ls → Keyed k (l ∷ ls)

-- ---- what lines give

unfoldable pub value_with : Key → List Line → Option Value
value_with k [] = none
value_with k (l ∷ ls) = cond (eq_l (key l.text) (key_text k)) (some (value_of l)) (value_with k ls)

-- "The first two have one or more letters A to Z"
abbrev pub listed_by : Option Key → Value → List Listed
listed_by none v = []
listed_by (some standard_key) v = listed_from v.at v.is
listed_by (some fugitive_key) v = listed_from v.at v.is
listed_by (some program_key) v = []

unfoldable pub listed_within : List Line → List Listed
listed_within [] = []
listed_within (l ∷ ls) = listed_by (key_of (key l.text)) (value_of l) ++ listed_within ls

unfoldable pub read_of : List Line → Read
read_of ls = record {
  standard = value_with standard_key ls;
  fugitive = value_with fugitive_key ls;
  program = value_with program_key ls;
  listed = listed_within ls;
}

-- ---- the faults of one line

-- No. 3: "line without its end, without a space, or nothing after it"
pub data Broken (l : Line) : Type 0 where
  without_end : l.ended ≡ false → Broken l
  without_space : (T (has space l.text) → ⊥) → Broken l
  nothing_after : value l.text ≡ [] → Broken l

-- No. 6: "a byte not A to Z, or a letter listed before"; `before` has the letters listed before, on this line or another
pub data Faulty (before : List ℕ) (b : ℕ) : Type 0 where
  not_A_to_Z : (T (is_event b) → ⊥) → Faulty before b
  listed_before : T (has (b - 65) before) → Faulty before b

-- the first of an event list: "that byte"
pub data WrongLetter : (before : List ℕ) (at : ℕ) → List ℕ → (place : ℕ) → Type 0 where
  this_byte : {before : List ℕ} {at b : ℕ} {bs : List ℕ} → Faulty before b → WrongLetter before at (b ∷ bs) at
  later_byte : {before : List ℕ} {at b : ℕ} {bs : List ℕ} {p : ℕ} → (Faulty before b → ⊥) → WrongLetter ((b - 65) ∷ before) (at + 1) bs p → WrongLetter before at (b ∷ bs) p

-- the first two keys
pub data Lists : Key → Type 0 where
  standard_lists : Lists standard_key
  fugitive_lists : Lists fugitive_key

pub data LineRefuses (before : List Line) (l : Line) : (number place : ℕ) → Type 0 where
  number_3 : Broken l → LineRefuses before l 3 l.begins
  -- "unknown key (an empty one too)"
  number_4 : (Broken l → ⊥) → ((k : Key) → HasKey k l → ⊥) → LineRefuses before l 4 l.begins
  -- "key a second time"
  number_5 : (Broken l → ⊥) → (k : Key) → HasKey k l → Keyed k before → LineRefuses before l 5 l.begins
  -- "event list: a byte not A to Z, or a letter listed before"
  number_6 : {p : ℕ} → (Broken l → ⊥) → (k : Key) → HasKey k l → (Keyed k before → ⊥) → Lists k
      → WrongLetter (letters_of (listed_within before)) (value_of l).at (value_of l).is p → LineRefuses before l 6 p

abbrev pub LineFine : List Line → Line → Type 0
LineFine before l = (n p : ℕ) → LineRefuses before l n p → ⊥

-- ---- the lines of a file, and what follows them

-- "then line by line 3 to 6"
pub data LinesRefuse : (before ls : List Line) → (number place : ℕ) → Type 0 where
  this : {before more : List Line} {l : Line} {n p : ℕ} → LineRefuses before l n p → LinesRefuse before (l ∷ more) n p
  later : {before more : List Line} {l : Line} {n p : ℕ} → LineFine before l → LinesRefuse (before ++ (l ∷ [])) more n p → LinesRefuse before (l ∷ more) n p

abbrev pub LinesFine : List Line → Type 0
LinesFine ls = (n p : ℕ) → LinesRefuse [] ls n p → ⊥

-- the program line's value, where no line has a fault
abbrev pub ProgramIs : List ℕ → Value → Type 0
ProgramIs file v = LinesFine (lines 0 file) × ((read_of (lines 0 file)).program ≡ some v)

pub data ReadingRefuses (e : Edition) (file : List ℕ) : (number place : ℕ) → Type 0 where
  -- "file over 1,024 bytes"
  number_2 : most_bytes < length file → ReadingRefuses e file 2 0
  number_3_to_6 : {n p : ℕ} → length file ≤ most_bytes → LinesRefuse [] (lines 0 file) n p → ReadingRefuses e file n p
  -- "no program line", at the "file length"
  number_7 : length file ≤ most_bytes → LinesFine (lines 0 file) → (Keyed program_key (lines 0 file) → ⊥) → ReadingRefuses e file 7 (length file)
  -- "not a program", at the "first byte that no program continues with; the line end if the value stops short"
  number_8 : {v : Value} {k : ℕ} → length file ≤ most_bytes → ProgramIs file v → Stops v.is k → ReadingRefuses e file 8 (v.at + k)
  -- "7 to 18 in turn": No. 9 to 14, for Basic 15 and 16 (`checks`), of a program's text
  number_9_to_16 : {v : Value} {n p : ℕ} → length file ≤ most_bytes → ProgramIs file v → (s : Sequence) → v.is ≡ printed s
      → Refuses n p (checks e (read_of (lines 0 file)) v.at v.is s) → ReadingRefuses e file n p

-- "Live start (Adaptive): 1 to 14"; "Basic: .." 15 and 16
abbrev pub last_number : Edition → ℕ
last_number adaptive = 14
last_number basic = 16

pub record Accepts (e : Edition) (file : List ℕ) (q : Program) : Type 0 where
  pub short : length file ≤ most_bytes
  pub line : Value
  pub tree : Sequence
  pub its : ProgramIs file line
  pub text : line.is ≡ printed tree
  pub clear : Clear (checks e (read_of (lines 0 file)) line.at line.is tree)
  pub program : q ≡ program_of (read_of (lines 0 file)) line.is tree
