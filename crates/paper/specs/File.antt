-- The lines of a configuration file. Document 01, "The configuration file":
--     "At most 1,024 bytes. Lines end in byte 10, the last one too. A line is a key, one space, a value; the key is what stands before the first
--     space. Keys: `standard`, `fugitive`, `program`, in any order, each at most once; only `program` must be there. The first two have one or more
--     letters A to Z; no letter may be listed twice in the file."
--     Line, lines at bs     the lines of the bytes bs, which begin at the place `at`
--     key, value            what stands before a line's first space, and after it
--     key_of, Key            which of the three keys it is
--     Value                 a line that was read: its start, the place of its value, and the value
--     Read                  what the lines read so far gave; `listed` has each listed letter with its place, in the order of the file
--     read_lines             line by line, each for No. 3, 4, 5, 6 in this order
--     Answer                number and place, or what was read
-- Not here: No. 7 and what follows (`Refusals`). Assumes nothing.
use Rattle.std.specs.Prelude.{ℕ, suc, ◌+◌, ◌-◌, Bool, true, false, cond, not, ◌||◌, ◌&&◌, List, [], ◌∷◌, ◌++◌, map, eqb, length}
use Rattle.std.proofs.Math.Option.{Option, none, some}
use Rattle.paper.specs.Lists.{bytes, is_nil, has, eq_l}
use Rattle.paper.specs.Bytes.{line_end, space, is_event}

pub data Answer (A : Type 0) : Type 0 where
  refused : (number place : ℕ) → Answer A
  accepted : A → Answer A

-- the next check, where the one before it has nothing to refuse
abbrev pub unless : {A : Type 0} → Option ℕ → ℕ → Answer A → Answer A
unless none number a = a
unless (some place) number a = refused number place

abbrev pub and_then : {A B : Type 0} → Answer A → (A → Answer B) → Answer B
and_then (refused n p) f = refused n p
and_then (accepted a) f = f a

-- a place, where the condition holds
abbrev pub where_if : Bool → ℕ → Option ℕ
where_if true place = some place
where_if false place = none

pub record Line : Type 0 where
  pub begins : ℕ
  pub text : List ℕ
  pub ended : Bool

abbrev pub line : ℕ → List ℕ → Bool → Line
line at text ended = record { begins = at; text = text; ended = ended }

-- the byte b at the place `at`, in front of the lines that follow it: it ends a line of its own, or is the first byte of the next
abbrev pub in_front : (is_end : Bool) → (at b : ℕ) → List Line → List Line
in_front true at b ls = line at [] true ∷ ls
in_front false at b [] = line at (b ∷ []) false ∷ []
in_front false at b (l ∷ ls) = line at (b ∷ l.text) l.ended ∷ ls

unfoldable pub lines : ℕ → List ℕ → List Line
lines at [] = []
lines at (b ∷ bs) = in_front (eqb b line_end) at b (lines (at + 1) bs)

unfoldable pub key : List ℕ → List ℕ
key [] = []
key (b ∷ bs) = cond (eqb b space) [] (b ∷ key bs)

unfoldable pub value : List ℕ → List ℕ
value [] = []
value (b ∷ bs) = cond (eqb b space) bs (value bs)

pub data Key : Type 0 where
  standard_key fugitive_key program_key : Key

unfoldable pub key_of : List ℕ → Option Key
key_of k =
    cond (eq_l k (bytes "standard")) (some standard_key)
    (cond (eq_l k (bytes "fugitive")) (some fugitive_key)
    (cond (eq_l k (bytes "program")) (some program_key) none))

pub record Value : Type 0 where
  pub line_at : ℕ
  pub at : ℕ
  pub is : List ℕ

pub record Listed : Type 0 where
  pub letter : ℕ
  pub at : ℕ

pub record Read : Type 0 where
  pub standard : Option Value
  pub fugitive : Option Value
  pub program : Option Value
  pub listed : List Listed

abbrev pub nothing_read : Read
nothing_read = record { standard = none; fugitive = none; program = none; listed = [] }

-- the line's value, and where it stands
abbrev pub value_of : Line → Value
value_of l = record { line_at = l.begins; at = l.begins + length (key l.text) + 1; is = value l.text }

abbrev pub is_there : {A : Type 0} → Option A → Bool
is_there none = false
is_there (some a) = true

-- the key was read before
abbrev pub known : Read → Key → Bool
known r standard_key = is_there r.standard
known r fugitive_key = is_there r.fugitive
known r program_key = is_there r.program

-- the letters of an event list, each with its place
unfoldable pub listed_from : ℕ → List ℕ → List Listed
listed_from at [] = []
listed_from at (b ∷ bs) = record { letter = b - 65; at = at } ∷ listed_from (at + 1) bs

-- No. 6: "event list: a byte not A to Z, or a letter listed before"; `before` has the letters listed before, on this line or another
unfoldable pub wrong_letter : List ℕ → ℕ → List ℕ → Option ℕ
wrong_letter before at [] = none
wrong_letter before at (b ∷ bs) =
    cond (is_event b && not (has (b - 65) before)) (wrong_letter ((b - 65) ∷ before) (at + 1) bs) (some at)

abbrev pub letters_of : List Listed → List ℕ
letters_of ls = map (λ l. l.letter) ls

-- the line joins what was read; the value of `program` is looked at later
abbrev pub joins : Read → Key → Value → Answer Read
joins r program_key v = accepted (record { standard = r.standard; fugitive = r.fugitive; program = some v; listed = r.listed })
joins r standard_key v =
    unless (wrong_letter (letters_of r.listed) v.at v.is) 6
    (accepted (record {
      standard = some v;
      fugitive = r.fugitive;
      program = r.program;
      listed = r.listed ++ listed_from v.at v.is;
    }))
joins r fugitive_key v =
    unless (wrong_letter (letters_of r.listed) v.at v.is) 6
    (accepted (record {
      standard = r.standard;
      fugitive = some v;
      program = r.program;
      listed = r.listed ++ listed_from v.at v.is;
    }))

-- No. 4: "unknown key (an empty one too)", No. 5: "key a second time"
abbrev pub keyed : Read → Line → Option Key → Answer Read
keyed r l none = refused 4 l.begins
keyed r l (some k) = unless (where_if (known r k) l.begins) 5 (joins r k (value_of l))

-- No. 3: "line without its end, without a space, or nothing after it"
unfoldable pub broken : Line → Bool
broken l = not l.ended || not (has space l.text) || is_nil (value l.text)

unfoldable pub read_line : Read → Line → Answer Read
read_line r l = unless (where_if (broken l) l.begins) 3 (keyed r l (key_of (key l.text)))

-- "then line by line 3 to 6"
unfoldable pub read_lines : Read → List Line → Answer Read
read_lines r [] = accepted r
read_lines r (l ∷ ls) = and_then (read_line r l) (λ s. read_lines s ls)
