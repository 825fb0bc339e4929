-- Our own runs: they touch every clause of the rules, each border that the runs of document 01 leave open, and every refusal of a file, as one list
-- under one claim (`own-runs-hold`), computed. Where document 01 leaves room they follow docs/DECISIONS.md. Assumes nothing.
use mathlib.Core.Path.{◌≡◌, refl}
use mathlib.Core.Bool.{true}
use mathlib.Core.List.{List, [], ◌∷◌, ◌++◌, map}
use Rattle.paper.specs.Refusals.{basic, adaptive}
use Rattle.paper.proofs.Opened.{opened}
use Rattle.paper.proofs.Run.{Run, steps, table, count, refuse, out, unhex, reacted_for, compiled_for, got, expected, prints_back}

-- sequence, `||`, star and `1`
abbrev pub join_runs : List Run
join_runs =
    -- a sequence's second part waits; a module that completed and runs again is started
    steps "program aab.\n" "aa" (out "ab." "" "" "10" ∷ out "b." "" "" "01" ∷ [])
    -- the sides of `||` in either order; with one side gone it is the other; with both gone it is gone
    ∷ steps "program [a||b]c.\n" "ab" (out "bc." "" "" "000" ∷ out "c." "" "" "001" ∷ [])
    ∷ steps "program [a||b].\n" "ba" (out "a." "" "" "00" ∷ out "" "" "" "00" ∷ [])
    -- a star begins anew when its part is gone, and keeps what is left of it in front
    ∷ steps "program a*.\n" "a" (out "a*." "" "" "1" ∷ [])
    ∷ steps "program [ab]*.\n" "ab" (out "b[ab]*." "" "" "01" ∷ out "[ab]*." "" "" "10" ∷ [])
    -- a starred part that came back equal is no new state, inside a star and inside a `||`
    ∷ steps "program [a*]*.\n" "a" (out "[a*]*." "" "" "1" ∷ [])
    ∷ steps "program [a*||b]*.\n" "a" (out "[a*||b]*." "" "" "10" ∷ [])
    -- nested stars: `T` followed by `T*` is not `T*`, and trees decide
    ∷ steps "program [[ab]*]*.\n" "ab" (out "[b[ab]*][[ab]*]*." "" "" "01" ∷ out "[ab]*[[ab]*]*." "" "" "10" ∷ [])
    ∷ count "program [[ab]*]*.\n" 3
    ∷ count "program bc[abc]*.\n" 4
    -- brackets leave no trace; `1` never completes
    ∷ steps "program a[bc].\n" "a" (out "bc." "" "" "010" ∷ [])
    ∷ table basic "program 1.\n" 1 "100000"
    ∷ steps "program [a||1]b.\n" "a" (out "1b." "" "" "00" ∷ [])
    ∷ []

-- `/`, taking and hit
abbrev pub taking_runs : List Run
taking_runs =
    -- the first part's end ends the `/`; plain E ends it too, and a sequence goes on
    steps "standard E\nprogram a/Eb.\n" "a" (out "b." "" "" "01" ∷ [])
    ∷ steps "standard E\nprogram a/Eb.\n" "E" (out "b." "" "a" "31" ∷ [])
    -- the leftmost alternative that E heads; the right one for an event that heads only that
    ∷ steps "standard E\nprogram a/{E:b|E:c}.\n" "E" (out "b." "" "a" "310" ∷ [])
    ∷ steps "standard EFG\nprogram a/{E:b|{F:c|G:d}}.\n" "G" (out "d." "" "a" "3001" ∷ [])
    -- an outer `/` wins over an inner one, but only for an event that it waits for itself
    ∷ steps "standard EF\nprogram [a/E:b]/F:c.\n" "EF" (out "b/F:c." "" "a" "310" ∷ out "c." "" "ab" "031" ∷ [])
    ∷ steps "standard EF\nprogram [a/E]/F:c.\n" "E" (out "" "" "" "30" ∷ [])
    -- in `||` each side that is hit; one that is not becomes `1/I`, on the left and on the right; three are two grouped to the right
    ∷ steps "standard EF\nprogram 1/{E||F}.\n" "F" (out "1/E." "" "" "" ∷ [])
    ∷ steps "standard EF\nprogram 1/{E:a||F:b}.\n" "F" (out "[1/E:a||b]." "" "" "01" ∷ [])
    ∷ steps "standard EF\nprogram 1/{E:a||F:b}.\n" "EF" (out "[a||1/F:b]." "" "" "10" ∷ out "[a||b]." "" "" "01" ∷ [])
    ∷ steps "fugitive E\nprogram 1/{E:a||E:b}.\n" "E" (out "[a||b]." "" "" "11" ∷ [])
    ∷ steps "fugitive E\nprogram a1/{E||E}b.\n" "aE" (out "1/{E||E}b." "" "" "00" ∷ out "b." "" "" "01" ∷ [])
    ∷ steps "standard EFG\nprogram 1/{E||F||G}.\n" "F" (out "[1/E||1/G]." "" "" "" ∷ [])
    ∷ steps "standard EFG\nprogram 1/{E||F||G}.\n" "E" (out "1/{F||G}." "" "" "" ∷ [])
    ∷ count "fugitive EFGH\nprogram 1/{E:1/{F||G}|H:1/{E||F||G}}.\n" 9
    -- an event is taken in every part where it is armed, in the left side, in the right side, in both
    ∷ steps "fugitive G\nprogram [a/G:c||b/G:d].\n" "G" (out "[c||d]." "" "ab" "3311" ∷ [])
    ∷ steps "standard E\nprogram [a||b/E:c].\n" "E" (out "[a||c]." "" "b" "031" ∷ [])
    ∷ steps "standard E\nprogram [a/E||b].\n" "E" (out "b." "" "a" "30" ∷ [])
    -- a starred part is taken apart and comes again behind it
    ∷ steps "standard E\nprogram [[a/E:b]*||c].\n" "E" (out "[b[a/E:b]*||c]." "" "a" "310" ∷ [])
    ∷ []

-- memory, settling and fugitive events
abbrev pub memory_runs : List Run
memory_runs =
    -- a standard event that is stored already changes nothing
    steps "standard E\nprogram ab/E:c.\n" "EEa"
    (out "ab/E:c." "E" "" "000" ∷ out "ab/E:c." "E" "" "000" ∷ out "c." "" "" "001" ∷ [])
    -- the newest is stored last; the oldest that is armed is served, not the leftmost
    ∷ steps "standard EF\nprogram ab/{E:c|F:d}.\n" "EFa"
    (out "ab/{E:c|F:d}." "E" "" "0000" ∷ out "ab/{E:c|F:d}." "EF" "" "0000" ∷ out "c." "F" "" "0010" ∷ [])
    -- settling takes two, and three: each treatment arms the next
    ∷ steps "standard EF\nprogram az/E:b/F:c.\n" "FEa"
    (out "az/E:b/F:c." "F" "" "0000" ∷ out "az/E:b/F:c." "FE" "" "0000" ∷ out "c." "" "" "0010" ∷ [])
    ∷ steps "standard EFG\nprogram az/E:b/F:c/G:d.\n" "GFEa"
    (out "az/E:b/F:c/G:d." "G" "" "00000" ∷ out "az/E:b/F:c/G:d." "GF" "" "00000" ∷ out "az/E:b/F:c/G:d." "GFE" "" "00000"
    ∷ out "d." "" "" "00010" ∷ [])
    -- settling follows a taking too, of a standard and of a fugitive event
    ∷ steps "standard E\nfugitive F\nprogram a/F:b/E:c.\n" "EF" (out "a/F:b/E:c." "E" "" "000" ∷ out "c." "" "a" "301" ∷ [])
    -- an event that its treatment does not arm stays stored
    ∷ steps "standard EF\nprogram a/E:b/F:c.\n" "EE" (out "b/F:c." "" "a" "310" ∷ out "b/F:c." "E" "a" "000" ∷ [])
    -- fugitive: never stored, taken where armed
    ∷ steps "fugitive E\nprogram ab/E.\n" "EEab" (out "ab/E." "" "" "00" ∷ out "ab/E." "" "" "00" ∷ out "b/E." "" "" "01" ∷ out "" "" "" "00" ∷ [])
    -- at the end memory and stopped set are empty, and an event changes nothing
    ∷ steps "standard E\nprogram a/E:b.\n" "EEbE"
    (out "b." "" "a" "31" ∷ out "b." "E" "a" "00" ∷ out "" "" "" "00" ∷ out "" "" "" "00" ∷ [])
    -- reached by settling as well: what still runs is stopped by the last reaction
    ∷ steps "standard EF\nprogram [a||bc/E]/F.\n" "EF" (out "[a||bc/E]/F." "E" "" "000" ∷ out "" "" "" "330" ∷ [])
    ∷ []

-- orders
abbrev pub order_runs : List Run
order_runs =
    -- a module that completed is started again, never resumed; one that was stopped is resumed once, and then leaves the set
    steps "standard E\nprogram [a/E:b]*.\n" "aEbaEb"
    (out "[a/E:b]*." "" "" "10" ∷ out "b[a/E:b]*." "" "a" "31" ∷ out "[a/E:b]*." "" "" "20" ∷ out "[a/E:b]*." "" "" "10"
    ∷ out "b[a/E:b]*." "" "a" "31" ∷ out "[a/E:b]*." "" "" "20" ∷ [])
    -- resume only after a stop: a completed before, b was stopped
    ∷ steps "standard E\nprogram ab/E:cab.\n" "aEcab"
    (out "b/E:cab." "" "" "010" ∷ out "cab." "" "b" "031" ∷ out "ab." "" "b" "100" ∷ out "b." "" "" "020" ∷ out "" "" "" "000" ∷ [])
    -- preempted and back within one reaction: none
    ∷ steps "standard E\nprogram a/E:a.\n" "E" (out "a." "" "" "0" ∷ [])
    ∷ steps "standard E\nprogram [a/E]*.\n" "Ea" (out "[a/E]*." "" "" "0" ∷ out "[a/E]*." "" "" "1" ∷ [])
    -- the completed module ran again and was preempted within the same reaction: none, and it does not join the stopped set
    ∷ steps "standard E\nprogram aa/E:b.\n" "Ea" (out "aa/E:b." "E" "" "00" ∷ out "b." "" "" "01" ∷ [])
    -- modules beside it keep running; several stop and start in one reaction
    ∷ steps "standard E\nprogram [a||[b||c]/E:d].\n" "E" (out "[a||d]." "" "bc" "0331" ∷ [])
    ∷ steps "standard E\nprogram [a||b]/E:[c||d].\n" "Ecd" (out "[c||d]." "" "ab" "3311" ∷ out "d." "" "ab" "0000" ∷ out "" "" "" "0000" ∷ [])
    -- an event is no module, though both are the first of their alphabet
    ∷ steps "standard A\nprogram a/A:b.\n" "A" (out "b." "" "a" "31" ∷ [])
    ∷ []

-- tables: states in the order in which they are found, each in turn; a fugitive event, and a module that does not run at the start
abbrev pub table_runs : List Run
table_runs =
    table basic "program [ab||cd].\n" 9
    "14000800443a80440000080804000000002030081004000081040000000002050000000000081804000000002060000002070081c400000000000000000000000000020800000020800000000000000000000000000000"
    ∷ table adaptive "fugitive E\nprogram ab/E:c.\n" 4 "13100300444c804400000000800000008080000080cd000000000000808000000000808080c0"
    ∷ []

-- refusals of a file, each at its border
abbrev pub refusal_runs : List Run
refusal_runs =
    refuse adaptive "standard E\nfugitve F\n" 4 11
    ∷ refuse adaptive "program a/.\n" 8 10
    ∷ refuse adaptive "" 7 0
    -- 3 wins over 4, 4 over what follows; a line's end, its space, something after it
    ∷ refuse adaptive "program a." 3 0
    ∷ refuse adaptive "program a.\n\n" 3 11
    ∷ refuse adaptive "foo \n" 3 0
    ∷ refuse adaptive "program\n" 3 0
    ∷ refuse adaptive " \n" 3 0
    ∷ refuse adaptive "  \n" 4 0
    ∷ refuse adaptive "Program a.\n" 4 0
    ∷ refuse adaptive "program a.\nprogram b.\n" 5 11
    ∷ refuse adaptive "standard E\nstandard e\nprogram a/E.\n" 5 11
    ∷ refuse adaptive "fugitive E\nfugitive F\nprogram a/{E|F}.\n" 5 11
    -- line by line: the first line's 6 before the second line's 3
    ∷ refuse adaptive "standard e\nprogram\n" 6 9
    ∷ refuse adaptive "standard EE\nprogram a/E.\n" 6 10
    ∷ refuse adaptive "standard EF\nprogram a/E.\nfugitive GF\n" 6 35
    ∷ refuse adaptive "fugitive E\nstandard E\nprogram a/E.\n" 6 20
    ∷ refuse adaptive "standard E\n" 7 11
    -- not a program
    ∷ refuse adaptive "program  a.\n" 8 8
    ∷ refuse adaptive "program a.\r\n" 8 10
    ∷ refuse adaptive "program a.b\n" 8 10
    ∷ refuse adaptive "program a\n" 8 9
    ∷ refuse adaptive "program [a|b].\n" 8 11
    ∷ refuse adaptive "program a/{E||F|G}.\n" 8 16
    ∷ refuse adaptive "program a/{E|F||G}.\n" 8 15
    ∷ refuse adaptive "program a/{E}.\n" 8 12
    ∷ refuse adaptive "program a**.\n" 8 10
    ∷ refuse adaptive "program a/E/F.\n" 8 11
    ∷ refuse adaptive "program [[[[[[[[[[[[[[[[[\n" 8 25
    -- tokens, then depth of brackets and braces together, then of stars, through a treatment too
    ∷ refuse adaptive "program aaaaaaaaaaaaaaaaaaaaaaaaaaaaaaaaaaaaaaaaaaaaaaaaaaaaaaaaaaaaaaaaaaaaaaaaaaaaaaaaaaaaaaaaaaaaaaaa.\n" 9 104
    -- `||` is one token: 47 parts beside each other are 96 tokens, 48 are 98; 16 deep, 3 stars deep, 8 modules and 8 events are within
    ∷ count "program [1||1||1||1||1||1||1||1||1||1||1||1||1||1||1||1||1||1||1||1||1||1||1||1||1||1||1||1||1||1||1||1||1||1||1||1||1||1||1||1||1||1||1||1||1||1||1].\n" 1
    ∷ refuse adaptive "program [1||1||1||1||1||1||1||1||1||1||1||1||1||1||1||1||1||1||1||1||1||1||1||1||1||1||1||1||1||1||1||1||1||1||1||1||1||1||1||1||1||1||1||1||1||1||1||1].\n" 9 151
    ∷ count "program [[[[[[[[[[[[[[[[a]]]]]]]]]]]]]]]].\n" 2
    ∷ count "program abcdefgh.\n" 9
    ∷ count "fugitive ABCDEFGH\nprogram 1/{A|B|C|D|E|F|G|H}.\n" 2
    ∷ refuse adaptive "fugitive E\nprogram [[[[[[[[[[[[[[[a/{E|{E|E}}]]]]]]]]]]]]]]].\n" 9 39
    ∷ refuse adaptive "fugitive E\nprogram [[a/E:[b*]*]*]*.\n" 9 33
    ∷ count "fugitive E\nprogram [[a*]*]*/E:[b*]*.\n" 2
    -- of several stars the first, wherever it stands; stars beside each other do not add up
    ∷ refuse adaptive "program [[[[a*]*]*]*]*.\n" 9 19
    ∷ refuse adaptive "program b[[[a*]*]*]*.\n" 9 19
    ∷ refuse adaptive "fugitive EF\nprogram a/{E|F:[[[b*]*]*]*}.\n" 9 37
    ∷ refuse adaptive "fugitive EF\nprogram a/{E||F:[[[b*]*]*]*}.\n" 9 38
    -- right of a `||`, and inside the first, a middle and the last interruption of braces
    ∷ refuse adaptive "program [b||[[[a*]*]*]*].\n" 9 22
    ∷ refuse adaptive "fugitive EF\nprogram 1/{E:[[[b*]*]*]*|F}.\n" 9 35
    ∷ refuse adaptive "fugitive EFG\nprogram 1/{E|F:[[[b*]*]*]*|G}.\n" 9 38
    ∷ refuse adaptive "fugitive EFG\nprogram 1/{E|F|G:[[[b*]*]*]*}.\n" 9 40
    ∷ refuse adaptive "fugitive EF\nprogram [1/{E:[[b*]*]*|F}]*.\n" 9 38
    ∷ refuse adaptive "fugitive EF\nprogram [1/{E|F:[[b*]*]*}]*.\n" 9 38
    ∷ refuse adaptive "fugitive EFG\nprogram [1/{E|F:[[b*]*]*|G}]*.\n" 9 41
    ∷ refuse adaptive "fugitive EF\nprogram 1/{E:[b||b]|F}.\n" 13 27
    ∷ refuse adaptive "fugitive EF\nprogram 1/{E|F:[b||b]}.\n" 13 29
    ∷ refuse adaptive "fugitive EFG\nprogram 1/{E|F:[b||b]|G}.\n" 13 30
    ∷ refuse adaptive "fugitive EFG\nprogram 1/{E|F|G:[b||b]}.\n" 13 32
    ∷ count "program [[a*b*]*]*.\n" 1
    ∷ count "program [[a*||b*]*]*.\n" 1
    ∷ count "standard E\nprogram [[a*/E:b*]*]*.\n" 3
    -- brackets and braces that are closed again do not count: 17 groups in a row, 12 braces and 5 brackets
    ∷ count "program [a][a][a][a][a][a][a][a][a][a][a][a][a][a][a][a][a].\n" 18
    ∷ count "fugitive E\nprogram 1/{E|E}1/{E|E}1/{E|E}1/{E|E}1/{E|E}1/{E|E}1/{E|E}1/{E|E}1/{E|E}1/{E|E}1/{E|E}1/{E|E}[[[[[a]]]]].\n" 14
    -- tokens before brackets, brackets before stars
    ∷ refuse adaptive "program [[[[[[[[[[[[[[[[[aaaaaaaaaaaaaaaaaaaaaaaaaaaaaaaaaaaaaaaaaaaaaaaaaaaaaaaaaaaaaaa]]]]]]]]]]]]]]]]].\n" 9 104
    ∷ refuse adaptive "program [[[[[[[[[[[[[[[[[a*]*]*]*]]]]]]]]]]]]]].\n" 9 24
    -- letters: not listed, not used, the ninth
    ∷ refuse adaptive "program a/E.\n" 10 10
    ∷ refuse adaptive "program a/E.\nstandard FE\nfugitive B\n" 11 22
    ∷ refuse adaptive "standard E\nfugitive GH\nprogram a/{E|G}.\n" 11 21
    ∷ refuse adaptive "standard EF\nprogram a/E.\n" 11 10
    -- the first of two, 10 before 11, 9 before 10
    ∷ refuse adaptive "program a/{E|F}.\n" 10 11
    ∷ refuse adaptive "standard F\nprogram a/E.\n" 10 21
    ∷ refuse adaptive "program a/Eaaaaaaaaaaaaaaaaaaaaaaaaaaaaaaaaaaaaaaaaaaaaaaaaaaaaaaaaaaaaaaaaaaaaaaaaaaaaaaaaaaaaaaaaaaaaaa.\n" 9 104
    ∷ refuse adaptive "program abcdefghi.\n" 12 16
    ∷ refuse adaptive "fugitive ABCDEFGHI\nprogram a/{A|B|C|D|E|F|G|H|I}.\n" 12 46
    -- the ninth module before the ninth event, different letters only, and 12 before 13
    ∷ refuse adaptive "fugitive ABCDEFGHI\nprogram 1/{A|B|C|D|E|F|G|H|I}abcdefghi.\n" 12 56
    ∷ count "program aabbccddeeffgghh.\n" 17
    ∷ refuse adaptive "program [a||a]bcdefghi.\n" 12 21
    -- sides: in brackets and in braces, grouped to the right
    ∷ refuse adaptive "program [a||b||a].\n" 13 10
    ∷ refuse adaptive "standard EF\nprogram 1/{E:a||F:a}.\n" 13 26
    ∷ refuse adaptive "standard EFG\nprogram 1/{E:a||F||G:a}.\n" 13 27
    ∷ refuse adaptive "standard EFG\nprogram 1/{E||F:a||G:a}.\n" 13 30
    -- an inner one that comes first, one behind another item, one in a treatment; 13 everywhere before 14
    ∷ refuse adaptive "program [[a||a]||a].\n" 13 11
    ∷ refuse adaptive "program c[a||a].\n" 13 11
    ∷ refuse adaptive "standard E\nprogram a/E:[b||b].\n" 13 25
    ∷ refuse adaptive "standard E\nprogram [1/E||1/E][a||a].\n" 13 31
    ∷ refuse adaptive "standard E\nprogram 1/{E||E}.\n" 14 23
    ∷ count "program [1||1].\n" 1
    -- Basic
    ∷ refuse basic "standard E\nfugitive F\nprogram a/{E|F}.\n" 15 11
    ∷ refuse basic "standard EF\nprogram [a||b/{E||F}].\n" 16 28
    -- 15 before 16, and 10 before both
    ∷ refuse basic "fugitive E\nstandard F\nprogram 1/{E||F}.\n" 15 0
    ∷ refuse basic "fugitive E\nprogram a/{E|F}.\n" 10 24
    ∷ []

-- the state counts of the source papers' own examples that fit document 01, events standard unless said
abbrev pub paper_runs : List Run
paper_runs =
    count "program ab.\n" 3
    ∷ count "program [a||b].\n" 4
    ∷ count "program [[ab]||[cd]].\n" 9
    ∷ count "program [a||b]*.\n" 3
    ∷ count "program [a||b][a||b]*.\n" 4
    ∷ count "program [a*||b*].\n" 1
    ∷ count "standard EF\nprogram 1/{E||F}.\n" 6
    ∷ count "standard EF\nprogram 1/{E|F}.\n" 2
    ∷ count "standard E\nprogram 1/E:b.\n" 4
    ∷ count "standard E\nprogram [[a1]/E:b]*.\n" 6
    ∷ count "standard EF\nprogram a/{E|F}.\n" 2
    ∷ count "standard EF\nprogram 1/{E:a||F:b}.\n" 25
    ∷ count "standard E\nprogram [a1]/E.\n" 3
    ∷ count "standard EF\nprogram [1/{E:a||F:b}]*.\n" 24
    ∷ count "program [abc]*.\n" 3
    ∷ count "standard E\nprogram [ab]/E:c.\n" 7
    ∷ count "standard E\nprogram ab/E:c.\n" 8
    ∷ count "standard E\nprogram a/E:[b||c].\n" 8
    ∷ count "standard EF\nprogram a/{E:b|F:c}.\n" 12
    ∷ count "standard EF\nprogram ab/{E:c|F:d}.\n" 27
    ∷ count "fugitive E\nprogram ab/E:c.\n" 4
    ∷ count "standard E\nfugitive F\nprogram a/E:b/F:ca/E:b.\n" 10
    ∷ count "standard E\nprogram a/E:[bc]d.\n" 10
    ∷ count "fugitive F\nprogram [[a/F:b]*||[c/F:d]*].\n" 4
    ∷ count "standard EF\nprogram a/E:b/F:c.\n" 15
    ∷ count "standard EF\nprogram [a||b]/{E:c|F:d}.\n" 34
    -- 001: all that the two rejected examples break
    ∷ refuse adaptive "standard EF\nprogram [[a/E:b]*||[c/E:d/F:g]*].\n" 14 29
    ∷ refuse adaptive "fugitive F\nprogram [a/F:b||a].\n" 13 25
    ∷ []

abbrev pub own_runs : List Run
own_runs = join_runs ++ (taking_runs ++ (memory_runs ++ (order_runs ++ (table_runs ++ (refusal_runs ++ paper_runs)))))

pub own-runs-hold : map got own_runs ≡ map expected own_runs
unfolding opened unhex reacted_for compiled_for got expected
own-runs-hold = refl

pub own-runs-print-back : map prints_back own_runs ≡ map (λ r. true) own_runs
unfolding opened prints_back
own-runs-print-back = refl
