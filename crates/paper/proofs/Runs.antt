-- The runs of document 01 that are marked P, as one list under one claim (`runs-hold`): each is computed by the definitions. Assumes nothing.
use mathlib.Core.Path.{◌≡◌, refl}
use mathlib.Core.Bool.{true}
use mathlib.Core.List.{List, [], ◌∷◌, map}
use Rattle.paper.specs.Refusals.{basic, adaptive}
use Rattle.paper.proofs.Opened.{opened}
use Rattle.paper.proofs.Run.{Run, steps, table, count, refuse, out, unhex, reacted_for, compiled_for, got, expected, prints_back}

abbrev pub runs : List Run
runs =
    -- `standard E`, `program a/E.` (two lines): `ok 2 11` then `1110010118048070008040`
    table basic "standard E\nprogram a/E.\n" 2 "1110010118048070008040"
    ∷ table adaptive "standard E\nprogram a/E.\n" 2 "1110010118048070008040"
    -- `ab.`, a completes: `b`, start b
    ∷ steps "program ab.\n" "a" (out "b." "" "" "01" ∷ [])
    -- `[a||b]*.`, a: `b[a||b]*`, no orders; b: back, start a, start b
    ∷ steps "program [a||b]*.\n" "ab" (out "b[a||b]*." "" "" "00" ∷ out "[a||b]*." "" "" "11" ∷ [])
    -- `[a*||b].`, a: same state, start a
    ∷ steps "program [a*||b].\n" "a" (out "[a*||b]." "" "" "10" ∷ [])
    -- `ab/{E:c|F:d}.`, F, E, a: term `d`, memory E, start d only
    ∷ steps "standard EF\nprogram ab/{E:c|F:d}.\n" "FEa"
    (out "ab/{E:c|F:d}." "F" "" "0000" ∷ out "ab/{E:c|F:d}." "FE" "" "0000" ∷ out "d." "E" "" "0001" ∷ [])
    -- `ab/E:c.`, E fugitive: E changes nothing; a; then E: stop b, start c
    ∷ steps "fugitive E\nprogram ab/E:c.\n" "EaE"
    (out "ab/E:c." "" "" "000" ∷ out "b/E:c." "" "" "010" ∷ out "c." "" "b" "031" ∷ [])
    -- `a/E:b/F:c.`, F, E: `c`, empty memory, stop a, start c
    ∷ steps "standard EF\nprogram a/E:b/F:c.\n" "FE" (out "a/E:b/F:c." "F" "" "000" ∷ out "c." "" "a" "301" ∷ [])
    -- `[a/E:b]*.`: three states; E then b resumes a
    ∷ count "standard E\nprogram [a/E:b]*.\n" 3
    ∷ steps "standard E\nprogram [a/E:b]*.\n" "Eb" (out "b[a/E:b]*." "" "a" "31" ∷ out "[a/E:b]*." "" "" "20" ∷ [])
    -- `[a/E]*.`, E: same state, no order
    ∷ steps "standard E\nprogram [a/E]*.\n" "E" (out "[a/E]*." "" "" "0" ∷ [])
    -- `1/{E||F}.`, E: `1/F`. Basic: 16
    ∷ steps "standard EF\nprogram 1/{E||F}.\n" "E" (out "1/F." "" "" "" ∷ [])
    ∷ refuse basic "standard EF\nprogram 1/{E||F}.\n" 16 24
    -- `[a/E:b]/E:c.`, E: `c`
    ∷ steps "standard E\nprogram [a/E:b]/E:c.\n" "E" (out "c." "" "a" "301" ∷ [])
    -- `[a/G||b/G].`, G fugitive: end, stop a and b; G standard: 14
    ∷ steps "fugitive G\nprogram [a/G||b/G].\n" "G" (out "" "" "" "33" ∷ [])
    ∷ refuse adaptive "standard G\nprogram [a/G||b/G].\n" 14 23
    ∷ []

pub runs-hold : map got runs ≡ map expected runs
unfolding opened unhex reacted_for compiled_for got expected
runs-hold = refl

pub runs-print-back : map prints_back runs ≡ map (λ r. true) runs
unfolding opened prints_back
runs-print-back = refl
