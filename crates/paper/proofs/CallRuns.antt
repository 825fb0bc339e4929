-- Runs of the public calls: their refusals in order, what they answer, and what the lent slices hold afterwards, all as plain numbers; and of the small
-- definitions below them (kinds of bytes, parts, what the programs print). Computed. Assumes nothing.
use Prim.Native.Nat.{ℕ, zero, suc, ◌-◌}
use Prim.Native.String.{String}
use mathlib.Core.Path.{◌≡◌, refl}
use mathlib.Core.Bool.{true, false, cond}
use mathlib.Core.List.{List, [], ◌∷◌, ◌++◌, map}
use mathlib.Core.Option.{Option, none, some}
use lib.Dec.{eqb}
use lib.ListN.{replicate, take, drop, length}
use Rattle.paper.specs.Lists.{bytes, below, keep}
use Rattle.paper.specs.Bytes.{Kind, module_letter, event_letter, star_kind, dot_kind, slash_kind, one_kind, colon_kind, open_kind, close_kind, brace_kind, bar_kind, unbrace_kind, end_kind, no_kind, kind_of}
use Rattle.paper.specs.File.{refused}
use Rattle.paper.specs.Parse.{Parsed, program, stops, parse}
use Rattle.paper.specs.Term.{Term, Mod, Par, Star, still, term_s, parts}
use Rattle.paper.specs.Reaction.{Program, State, start_of}
use Rattle.paper.specs.Refusals.{Edition, basic, adaptive, reading, parts_of, any_too_large}
use Rattle.paper.specs.IsTable.{is_table}
use Rattle.paper.specs.Calls.{Compiled, compiled, Stepped, table_start, table_step, Coding, Lived, live_start, live_step}
use Rattle.paper.specs.Programs.{decimal, answer_text}
use Rattle.paper.proofs.Opened.{opened}
use Rattle.paper.proofs.Run.{unhex, compiled_for}

abbrev hexed : String → List ℕ
unfolding unhex bytes
hexed s = unhex (bytes s)

-- ---- kinds of bytes

-- "module letter, event letter, each mark, line end, or none": each letter and each mark
kinds-hold : map kind_of (bytes "abcdefghijklmnopqrstuvwxyzABCDEFGHIJKLMNOPQRSTUVWXYZ*./1:[]{|}\n") ≡ replicate 26 module_letter ++ (replicate 26 event_letter ++ (star_kind ∷ dot_kind ∷ slash_kind ∷ one_kind ∷ colon_kind ∷ open_kind ∷ close_kind ∷ brace_kind ∷ bar_kind ∷ unbrace_kind ∷ end_kind ∷ []))
unfolding opened
kinds-hold = refl

is_none : Kind → ℕ
is_none module_letter = 0
is_none event_letter = 0
is_none star_kind = 0
is_none dot_kind = 0
is_none slash_kind = 0
is_none one_kind = 0
is_none colon_kind = 0
is_none open_kind = 0
is_none close_kind = 0
is_none brace_kind = 0
is_none bar_kind = 0
is_none unbrace_kind = 0
is_none end_kind = 0
is_none no_kind = 1

-- the other 193 of the 256 are of none
none-hold : length (keep (λ b. eqb (is_none (kind_of b)) 1) (below 256)) ≡ 193
unfolding opened is_none
none-hold = refl

-- ---- a file's length, and the parts of a term

-- No. 2: "file over 1,024 bytes"
long-hold : map (λ n. reading parse adaptive (replicate n 97)) (1024 ∷ 1025 ∷ []) ≡ refused 3 0 ∷ refused 2 0 ∷ []
unfolding opened
long-hold = refl

parts_for : Parsed → ℕ
parts_for (program s) = parts (term_s s)
parts_for (stops p) = 0

-- "each name or `1`, each join (sequence too), `/`, `:` and star"
parts-hold : map (λ t. parts_for (parse (bytes t))) ("a." ∷ "1." ∷ "ab." ∷ "[a||b]." ∷ "a*." ∷ "a/E." ∷ "a/E:b." ∷ "a/{E|F}." ∷ "a/{E||F}." ∷ "abc." ∷ []) ≡ 1 ∷ 1 ∷ 3 ∷ 3 ∷ 2 ∷ 3 ∷ 5 ∷ 5 ∷ 5 ∷ 5 ∷ []
unfolding opened parts_for
parts-hold = refl

-- n times doubled: 2 ^ (n + 1) - 1 parts
doubled : ℕ → Term
doubled zero = Mod 0
doubled (suc n) = Par (doubled n) (doubled n)

sized : Term → List State
sized t = record { left = still t; memory = []; stopped = [] } ∷ []

-- No. 18: 8,192 parts are within, 8,193 are over
large-hold : map (λ t. any_too_large (sized t)) (Star (doubled 12) ∷ Star (Star (doubled 12)) ∷ []) ≡ false ∷ true ∷ []
unfolding opened doubled sized
large-hold = refl

-- ---- tables

-- the table of `a/E.`; no letters at all; 512 states without letters; two modules; a module z and an event A; a fugitive event; an order that no rule gives
tables : List String
tables =
    "1110010118048070008040"
    ∷ "100000"
    ∷ "1001ff"
    ∷ "1200000078012001"
    ∷ "111001c818048070008040"
    ∷ "1110010138048070008040"
    ∷ "1110010118068070008040"
    ∷ []

-- No. 19, one condition broken in each: layout; states, modules, events over their count; a name over 25; modules out of order, and equal; events out
-- of order; a next state; padding; a byte too many, one too few; zeros of a next state, of an order; an event bit; a start bit; and short bytes
not_tables : List String
not_tables =
    "2110010118048070008040"
    ∷ "100200"
    ∷ "19000000443214c740000000000000000000000000000000000000000000000000000000000000000000"
    ∷ "10900000443214c740020080200802008020080200"
    ∷ "111001d118048070008040"
    ∷ "1200000838012001"
    ∷ "1200000878012001"
    ∷ "10200008080200"
    ∷ "1110010118088070008040"
    ∷ "1110010118048070008041"
    ∷ "111001011804807000804000"
    ∷ "11100101180480700080"
    ∷ "1110010118048070048040"
    ∷ "1110010118048070018040"
    ∷ "1110010118048070000000"
    ∷ "1110010108048070008040"
    ∷ ""
    ∷ "10"
    ∷ "1000"
    ∷ []

tables-hold : map (λ s. is_table (hexed s)) tables ≡ map (λ s. true) tables
unfolding opened unhex hexed tables
tables-hold = refl

not-tables-hold : map (λ s. is_table (hexed s)) not_tables ≡ map (λ s. false) not_tables
unfolding opened unhex hexed not_tables
not-tables-hold = refl

table : List ℕ
unfolding opened unhex hexed
table = hexed "1110010118048070008040"

-- number, place, state and the eight orders
told : Stepped → List ℕ
told r = r.number ∷ r.place ∷ r.state ∷ r.orders

-- "Table start: 19; it answers state 0 and the modules that run.": of `a/E.`, of a table with two modules, of `ab.`, of no table
start-hold : map (λ t. told (table_start t)) (table ∷ hexed "1200000078012001" ∷ hexed "120002006804400000020200000000" ∷ hexed "10" ∷ []) ≡ (0 ∷ 0 ∷ 0 ∷ 1 ∷ 0 ∷ 0 ∷ 0 ∷ 0 ∷ 0 ∷ 0 ∷ 0 ∷ []) ∷ (0 ∷ 0 ∷ 0 ∷ 1 ∷ 1 ∷ 0 ∷ 0 ∷ 0 ∷ 0 ∷ 0 ∷ 0 ∷ []) ∷ (0 ∷ 0 ∷ 0 ∷ 1 ∷ 0 ∷ 0 ∷ 0 ∷ 0 ∷ 0 ∷ 0 ∷ 0 ∷ []) ∷ (19 ∷ 0 ∷ 0 ∷ 0 ∷ 0 ∷ 0 ∷ 0 ∷ 0 ∷ 0 ∷ 0 ∷ 0 ∷ []) ∷ []
unfolding opened unhex hexed table told
start-hold = refl

-- a question to the table's step: state, letter; number, next state, and the order of its one module
record Ask : Type 0 where
  state : ℕ
  letter : ℕ
  number : ℕ
  next : ℕ
  order : ℕ

ask : ℕ → ℕ → ℕ → ℕ → ℕ → Ask
ask s l n m o = record { state = s; letter = l; number = n; next = m; order = o }

-- "Table step: 19 to 22", in this order; 97 is a, 69 is E, 98 is b, 101 is e, 49 is `1`
asks : List Ask
unfolding ask
asks =
    ask 0 97 0 1 0
    ∷ ask 0 69 0 1 3
    ∷ ask 1 69 0 1 0
    ∷ ask 1 97 22 0 0
    ∷ ask 1 98 21 0 0
    ∷ ask 0 101 21 0 0
    ∷ ask 0 49 21 0 0
    ∷ ask 2 97 20 0 0
    ∷ ask 2 98 20 0 0
    ∷ []

step-hold : map (λ a. told (table_step table a.state a.letter)) asks ≡ map (λ a. a.number ∷ 0 ∷ a.next ∷ a.order ∷ replicate 7 0) asks
unfolding opened unhex hexed table told ask asks
step-hold = refl

-- 19 comes before 20 and 21
step_19 : told (table_step (hexed "1110010118048070008041") 2 98) ≡ 19 ∷ 0 ∷ 0 ∷ replicate 8 0
unfolding opened unhex hexed told
step_19 = refl

-- ---- live start and step: with a coding whose first byte is the number of parts, and which knows the start alone

zeros : List ℕ
zeros = replicate 127 0

counted : Coding
unfolding zeros
counted = record {
  code = λ p s. parts_of s.left ∷ zeros;
  decode = λ p b. cond (eqb (parts_of (start_of p).left) (length (keep (λ n. eqb n 1) b))) (some (start_of p)) none;
}

-- the live bytes of a state with n parts, as this coding reads them: n ones
live : ℕ → List ℕ
live n = replicate n 1 ++ replicate (128 - n) 0

-- number, place, the first three orders, how many orders there are, and the live bytes' first and number
lived : Lived → List ℕ
lived r = r.number ∷ r.place ∷ take 3 r.orders ++ (length r.orders ∷ take 1 r.live ++ (length r.live ∷ []))

begins : String → List ℕ → List ℕ
begins file l = lived (live_start parse counted (bytes file) l)

-- "live state not 128 bytes" before the file's numbers; a refusal keeps the live bytes; a fugitive line and `||` in braces are fine
live-start-hold : begins "standard E\nprogram ab/E.\n" (7 ∷ zeros) ∷ begins "program\n" zeros ∷ begins "program\n" (7 ∷ 7 ∷ zeros) ∷ begins "program\n" (7 ∷ zeros) ∷ begins "fugitive E\nprogram 1/{E||E:a}.\n" (7 ∷ zeros) ∷ [] ≡ (0 ∷ 0 ∷ 1 ∷ 0 ∷ 0 ∷ 8 ∷ 5 ∷ 128 ∷ []) ∷ (1 ∷ 0 ∷ 0 ∷ 0 ∷ 0 ∷ 8 ∷ 0 ∷ 127 ∷ []) ∷ (1 ∷ 0 ∷ 0 ∷ 0 ∷ 0 ∷ 8 ∷ 7 ∷ 129 ∷ []) ∷ (3 ∷ 0 ∷ 0 ∷ 0 ∷ 0 ∷ 8 ∷ 7 ∷ 128 ∷ []) ∷ (0 ∷ 0 ∷ 0 ∷ 0 ∷ 0 ∷ 8 ∷ 7 ∷ 128 ∷ []) ∷ []
unfolding opened counted zeros lived begins
live-start-hold = refl

moves : String → List ℕ → ℕ → List ℕ
moves file l letter = lived (live_step parse counted (bytes file) l letter)

-- "Live step: 1 to 14, 23, 21, 22.": a state, each letter of the program and others (98 does not run, 99 is no letter, 64 and 96 stand before A and a)
live-step-hold : map (moves "standard A\nprogram ab/A.\n" (live 5)) (97 ∷ 65 ∷ 98 ∷ 99 ∷ 64 ∷ 96 ∷ []) ≡ (0 ∷ 0 ∷ 0 ∷ 1 ∷ 0 ∷ 8 ∷ 3 ∷ 128 ∷ []) ∷ (0 ∷ 0 ∷ 0 ∷ 0 ∷ 0 ∷ 8 ∷ 5 ∷ 128 ∷ []) ∷ (22 ∷ 0 ∷ 0 ∷ 0 ∷ 0 ∷ 8 ∷ 1 ∷ 128 ∷ []) ∷ (21 ∷ 0 ∷ 0 ∷ 0 ∷ 0 ∷ 8 ∷ 1 ∷ 128 ∷ []) ∷ (21 ∷ 0 ∷ 0 ∷ 0 ∷ 0 ∷ 8 ∷ 1 ∷ 128 ∷ []) ∷ (21 ∷ 0 ∷ 0 ∷ 0 ∷ 0 ∷ 8 ∷ 1 ∷ 128 ∷ []) ∷ []
unfolding opened counted zeros live lived moves
live-step-hold = refl

-- no state is 23 before the letter is looked at; the file's numbers come before it, and No. 1 before those; a fugitive line is fine
live-refusals-hold : moves "standard A\nprogram ab/A.\n" (live 6) 99 ∷ moves "" (live 6) 99 ∷ moves "" zeros 99 ∷ moves "" (7 ∷ 7 ∷ zeros) 99 ∷ moves "fugitive E\nprogram ab/E.\n" (live 5) 69 ∷ [] ≡ (23 ∷ 0 ∷ 0 ∷ 0 ∷ 0 ∷ 8 ∷ 1 ∷ 128 ∷ []) ∷ (7 ∷ 0 ∷ 0 ∷ 0 ∷ 0 ∷ 8 ∷ 1 ∷ 128 ∷ []) ∷ (1 ∷ 0 ∷ 0 ∷ 0 ∷ 0 ∷ 8 ∷ 0 ∷ 127 ∷ []) ∷ (1 ∷ 0 ∷ 0 ∷ 0 ∷ 0 ∷ 8 ∷ 7 ∷ 129 ∷ []) ∷ (0 ∷ 0 ∷ 0 ∷ 0 ∷ 0 ∷ 8 ∷ 5 ∷ 128 ∷ []) ∷ []
unfolding opened counted zeros live lived moves
live-refusals-hold = refl

-- ---- compile: No. 1 touches nothing; any other answer leaves the working slice zero; the bytes beyond the table keep theirs

-- an output of n sevens and a working slice of m; number, place, states, size, the output's bytes from the tenth on, the working slice's first
called : String → ℕ → ℕ → List ℕ
called file n m = shown (compiled parse basic (bytes file) (replicate n 7) (replicate m 7))
  where
    shown : Compiled → List ℕ
    shown c = c.number ∷ c.place ∷ c.states ∷ c.size ∷ take 3 (drop 9 c.output) ++ (take 2 c.work ++ (length c.work ∷ []))

compile-hold : called "standard E\nprogram a/E.\n" 26640 65536 ∷ called "standard E\nprogram a/E.\n" 26639 65536 ∷ called "standard E\nprogram a/E.\n" 26640 65535 ∷ called "program\n" 26639 65536 ∷ called "program\n" 26640 65537 ∷ [] ≡ (0 ∷ 0 ∷ 2 ∷ 11 ∷ 128 ∷ 64 ∷ 7 ∷ 0 ∷ 0 ∷ 65536 ∷ []) ∷ (1 ∷ 0 ∷ 0 ∷ 0 ∷ 7 ∷ 7 ∷ 7 ∷ 7 ∷ 7 ∷ 65536 ∷ []) ∷ (1 ∷ 0 ∷ 0 ∷ 0 ∷ 7 ∷ 7 ∷ 7 ∷ 7 ∷ 7 ∷ 65535 ∷ []) ∷ (1 ∷ 0 ∷ 0 ∷ 0 ∷ 7 ∷ 7 ∷ 7 ∷ 7 ∷ 7 ∷ 65536 ∷ []) ∷ (3 ∷ 0 ∷ 0 ∷ 0 ∷ 7 ∷ 7 ∷ 7 ∷ 0 ∷ 0 ∷ 65537 ∷ []) ∷ []
unfolding opened called
compile-hold = refl

-- ---- what the two programs print

print-hold : map (λ f. answer_text (compiled_for basic f)) ("standard E\nprogram a/E.\n" ∷ "standard E\nfugitve F\n" ∷ "" ∷ []) ≡ bytes "ok 2 11\n1110010118048070008040\n" ∷ bytes "refused 4 at 11\n" ∷ bytes "refused 7 at 0\n" ∷ []
unfolding opened compiled_for
print-hold = refl

decimal-hold : map decimal (0 ∷ 9 ∷ 10 ∷ 512 ∷ 26639 ∷ []) ≡ bytes "0" ∷ bytes "9" ∷ bytes "10" ∷ bytes "512" ∷ bytes "26639" ∷ []
unfolding opened
decimal-hold = refl
