-- The refusals of a file, in their order. Document 01, "Numbers a caller may get back":
--     "Order: 1, 2, then line by line 3 to 6, then 7 to 18 in turn, each over the whole file."
--     Edition               Basic or Adaptive
--     reading f e file      number and place by No. 2 to 14, for Basic 15 and 16, or the program; f reads a program's text (`Parse`: Right)
--     discovering p         No. 17 and 18, or the states in order of discovery
-- Not here: No. 1 and 19 to 23, the calls' own (`Calls`). Assumes nothing.
use Rattle.std.specs.Prelude.{ℕ, ◌+◌, ◌-◌, Bool, true, false, cond, not, List, [], ◌∷◌, map, leb, ltb, length}
use Rattle.std.proofs.Math.Option.{Option, none, some}
use Rattle.paper.specs.Lists.{is_nil, has, keep, below}
use Rattle.paper.specs.Bytes.{is_module, is_event}
use Rattle.paper.specs.File.{Answer, refused, accepted, unless, and_then, where_if, Value, Read, nothing_read, lines, read_lines, letters_of}
use Rattle.paper.specs.Grammar.{Sequence, module_byte, event_byte}
use Rattle.paper.specs.Parse.{Parsed, program, stops}
use Rattle.paper.specs.Limits.{over96, too_deep, too_starred, unlisted, unused, ninth, shared_module, shared_event, braces_joined}
use Rattle.paper.specs.Term.{Left, gone, still, term_s, parts}
use Rattle.paper.specs.Reaction.{Program, State}
use Rattle.paper.specs.Discovery.{Found, discovered}

pub data Edition : Type 0 where
  basic adaptive : Edition

abbrev pub most_bytes : ℕ
most_bytes = 1024

abbrev pub most_parts : ℕ
most_parts = 8192

-- the letters of the text that pass, ascending
abbrev pub ascending : (ℕ → ℕ) → List ℕ → List ℕ
ascending letter v = keep (λ n. has (letter n) v) (below 26)

abbrev pub fugitive_text : Option Value → List ℕ
fugitive_text none = []
fugitive_text (some v) = v.is

-- "names ascending": the program of a file
unfoldable pub program_of : Read → List ℕ → Sequence → Program
program_of r v s = record {
  modules = ascending module_byte v;
  events = ascending event_byte v;
  fugitive = ascending event_byte (fugitive_text r.fugitive);
  term = term_s s;
}

abbrev pub line_of : Option Value → Option ℕ
line_of none = none
line_of (some v) = some v.line_at

-- No. 15: "Basic: a `fugitive` line", No. 16: "Basic: interruptions joined by `||`"
unfoldable pub for_edition : Edition → Read → ℕ → Sequence → Answer Program → Answer Program
for_edition adaptive r at s a = a
for_edition basic r at s a = unless (line_of r.fugitive) 15 (unless (braces_joined at s) 16 a)

-- No. 9: "tokens, then depth of brackets, then of stars"
unfoldable pub within_limits : ℕ → List ℕ → Sequence → Answer Program → Answer Program
within_limits at v s a = unless (over96 at v) 9 (unless (too_deep at v) 9 (unless (too_starred at s) 9 a))

-- No. 10 to 14; No. 12: "ninth module, then ninth event"
unfoldable pub with_letters : Read → ℕ → List ℕ → Sequence → Answer Program → Answer Program
with_letters r at v s a =
    unless (unlisted (letters_of r.listed) at v) 10
    (unless (unused v r.listed) 11
    (unless (ninth is_module at v) 12
    (unless (ninth is_event at v) 12
    (unless (shared_module at s) 13 (unless (shared_event (ascending event_byte (fugitive_text r.fugitive)) at s) 14 a)))))

-- No. 8: "not a program"
unfoldable pub programmed : Edition → Read → Value → Parsed → Answer Program
programmed e r v (stops p) = refused 8 (v.at + p)
programmed e r v (program s) =
    within_limits v.at v.is s
    (with_letters r v.at v.is s (for_edition e r v.at s (accepted (program_of r v.is s))))

-- No. 7: "no program line", "file length"
unfoldable pub with_program : (List ℕ → Parsed) → Edition → ℕ → Read → Option Value → Answer Program
with_program f e long r none = refused 7 long
with_program f e long r (some v) = programmed e r v (f v.is)

-- No. 2: "file over 1,024 bytes"
unfoldable pub reading : (List ℕ → Parsed) → Edition → List ℕ → Answer Program
reading f e file =
    unless (where_if (ltb most_bytes (length file)) 0) 2
    (and_then (read_lines nothing_read (lines 0 file)) (λ r. with_program f e (length file) r r.program))

abbrev pub parts_of : Left → ℕ
parts_of gone = 0
parts_of (still t) = parts t

-- No. 18: "a reachable term of more than 8,192 parts"
unfoldable pub any_too_large : List State → Bool
any_too_large [] = false
any_too_large (s ∷ ss) = cond (ltb most_parts (parts_of s.left)) true (any_too_large ss)

-- No. 17: "more than 512 reachable states": some state's turn did not come
abbrev pub has_too_many : Found → Bool
has_too_many f = not (is_nil f.todo)

unfoldable pub discovering : Program → Answer (List State)
discovering p =
    let f = discovered p in
    unless (where_if (has_too_many f) 0) 17 (unless (where_if (any_too_large f.seen) 0) 18 (accepted f.seen))
