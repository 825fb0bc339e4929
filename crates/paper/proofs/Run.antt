-- What a run is: a question to the definitions, as text, and the answer that is expected. `Runs` has the runs of document 01, `OwnRuns` ours.
--     steps file letters outs       the file's program through the letters; one `out` for each
--     table e file states hex       what compiling the file for an edition answers
--     count file states             how many states the file's program has (Adaptive)
--     refuse e file number place    the refusal of a file
--     out term memory stopped orders        the state after a letter ("" is the end), and one digit for each module: 0 none, 1 start, 2 resume, 3 stop
--     got r, expected r     what the definitions give, and what is to come out
-- A text is read by `parse`; each run also says that what was read prints back to its text (`prints_back`), so nothing rests on `parse`.
-- Assumes nothing.
use Prim.Native.Nat.{ℕ, ◌+◌, ◌-◌, ◌*◌}
use Prim.Native.String.{String}
use mathlib.Core.Bool.{Bool, true, false, cond}
use mathlib.Core.List.{List, [], ◌∷◌, map}
use mathlib.Core.Option.{Option, none, some}
use lib.Dec.{leb}
use lib.ListN.{length}
use Rattle.paper.specs.Lists.{bytes, eq_l}
use Rattle.paper.specs.Bytes.{is_module}
use Rattle.paper.specs.File.{Answer, refused, accepted, and_then, Value, Read, nothing_read, lines, read_lines}
use Rattle.paper.specs.Grammar.{printed}
use Rattle.paper.specs.Parse.{Parsed, program, stops, parse}
use Rattle.paper.specs.Term.{Left, gone, still, term_s}
use Rattle.paper.specs.Rewriting.{Letter, completion, occurrence}
use Rattle.paper.specs.Reaction.{Program, State, start_of, Reacted, walk}
use Rattle.paper.specs.Refusals.{Edition, adaptive, reading}
use Rattle.paper.specs.Calls.{Compiled, compiled_program}

pub record Out : Type 0 where
  pub term : String
  pub memory : String
  pub stopped : String
  pub orders : String

abbrev pub out : String → String → String → String → Out
out t m s o = record { term = t; memory = m; stopped = s; orders = o }

pub data Run : Type 0 where
  steps : (file letters : String) → List Out → Run
  table : Edition → (file : String) → (states : ℕ) → (hex : String) → Run
  count : (file : String) → (states : ℕ) → Run
  refuse : Edition → (file : String) → (number place : ℕ) → Run

pub data Result : Type 0 where
  walked : List Reacted → Result
  answered : (number place states : ℕ) → List ℕ → Result

-- ---- texts to what they stand for

abbrev pub letter_for : ℕ → Letter
letter_for b = cond (is_module b) (completion (b - 97)) (occurrence (b - 65))

abbrev pub digit : ℕ → ℕ
digit b = cond (leb b 57) (b - 48) (b - 87)

unfoldable pub unhex : List ℕ → List ℕ
unhex [] = []
unhex (a ∷ []) = []
unhex (a ∷ b ∷ bs) = (digit a * 16 + digit b) ∷ unhex bs

abbrev pub left_for : Parsed → Left
left_for (program s) = still (term_s s)
left_for (stops p) = gone

-- the term of a text; the empty text is the end
unfoldable pub reacted_for : Out → Reacted
reacted_for o = record {
  state = record {
    left = left_for (parse (bytes o.term));
    memory = map (λ b. b - 65) (bytes o.memory);
    stopped = map (λ b. b - 97) (bytes o.stopped);
  };
  does = map (λ b. b - 48) (bytes o.orders);
}

-- ---- what the definitions give

abbrev pub walked_for : Answer Program → List ℕ → Result
walked_for (refused number place) ls = answered number place 0 []
walked_for (accepted p) ls = walked (walk p (start_of p) (map letter_for ls))

abbrev pub shown : Compiled → Result
shown c = answered c.number c.place c.states c.output

-- a compile whose slices are long enough; the output is empty beforehand, so it is the table
unfoldable pub compiled_for : Edition → String → Compiled
compiled_for e file = compiled_program (reading parse e (bytes file)) [] []

unfoldable pub got : Run → Result
got (steps file ls outs) = walked_for (reading parse adaptive (bytes file)) (bytes ls)
got (table e file states hex) = shown (compiled_for e file)
got (count file states) = answered 0 0 (compiled_for adaptive file).states []
got (refuse e file number place) = shown (compiled_for e file)

unfoldable pub expected : Run → Result
expected (steps file ls outs) = walked (map reacted_for outs)
expected (table e file states hex) = answered 0 0 states (unhex (bytes hex))
expected (count file states) = answered 0 0 states []
expected (refuse e file number place) = answered number place 0 []

-- ---- what was read prints back to its text

abbrev pub read_back : List ℕ → Parsed → Bool
read_back v (program s) = eq_l (printed s) v
read_back v (stops p) = true

abbrev pub value_back : Option Value → Bool
value_back none = true
value_back (some v) = read_back v.is (parse v.is)

abbrev pub file_back : Answer Read → Bool
file_back (refused number place) = true
file_back (accepted r) = value_back r.program

abbrev pub file_of : Run → String
file_of (steps file ls outs) = file
file_of (table e file states hex) = file
file_of (count file states) = file
file_of (refuse e file number place) = file

unfoldable pub prints_back : Run → Bool
prints_back r = file_back (read_lines nothing_read (lines 0 (bytes (file_of r))))
