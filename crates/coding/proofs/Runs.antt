-- The example of docs/CODING.md in plain bytes, computed by the definitions: a program's word and bytes, and bytes that code no state.
-- Assumes nothing.
use Prim.Native.Nat.{ℕ}
use Prim.Native.String.{String}
use mathlib.Core.Path.{◌≡◌, refl}
use mathlib.Core.List.{List, [], ◌∷◌, ◌++◌, map}
use mathlib.Core.Option.{none, some}
use lib.ListN.{replicate}
use Rattle.paper.specs.Lists.{bytes}
use Rattle.paper.specs.Parse.{parse}
use Rattle.paper.specs.File.{accepted}
use Rattle.paper.specs.Term.{Mod, One, Seq, Star, Act, Treat, Either, still}
use Rattle.paper.specs.Reaction.{Program}
use Rattle.paper.specs.Refusals.{adaptive, reading}
use Rattle.paper.proofs.Opened.{opened}
use Rattle.paper.proofs.Run.{unhex}
use Rattle.laws.specs.Nodes.{tree, intr, tree_from, as_term, as_intr}
use Rattle.laws.specs.Weight.{weight, weight_l}
use Rattle.nodes.specs.Made.{seek, append, make, start}
use Rattle.nodes.specs.ByTerm.{grown_t}
use Rattle.words.specs.Word.{mark, apply, terms}
use Rattle.coding.specs.Units.{first, eq_i, node_of, intr_of, word_of, word_l, over, over_l}
use Rattle.coding.specs.Layout.{byte_of, bytes_of, word_in, marks_in, set_number, set_of, place_in, marks_of, events_of}
use Rattle.coding.specs.Written.{is_memory, in_set}
use Rattle.coding.specs.Code.{code, said, codes, decode}

unfoldable coded : Unit {0}
unfolding opened unhex tree intr tree_from as_term as_intr weight weight_l seek append make start grown_t mark apply terms first eq_i node_of intr_of word_of word_l over over_l byte_of bytes_of word_in marks_in set_number set_of place_in marks_of events_of is_memory in_set code said codes decode
coded = tt

-- the word's low bytes, their high bits, and the eight bytes behind them
abbrev live : (low high last : String) → (lows highs : ℕ) → List ℕ
live low high last n k = unhex (bytes low) ++ (replicate n 0 ++ (unhex (bytes high) ++ (replicate k 0 ++ unhex (bytes last))))

abbrev calls : Program
calls = record {
  modules = 0 ∷ 1 ∷ 2 ∷ 3 ∷ [];
  events = 4 ∷ 5 ∷ [];
  fugitive = [];
  term = Seq (Mod 0) (Act (Mod 1) (Either (Treat 4 (Mod 2)) (Treat 5 (Mod 3))));
}

calls-read : reading parse adaptive (bytes "standard EF\nprogram ab/{E:c|F:d}.\n") ≡ accepted calls
unfolding opened
calls-read = refl

-- after F and E, both stored; and after the completion of a, which takes F
calls-hold : map (code calls) (record { left = still calls.term; memory = 5 ∷ 4 ∷ []; stopped = [] } ∷ record { left = still (Mod 3); memory = 4 ∷ []; stopped = [] } ∷ [])
    ≡ live "0a02" "30" "0200210000000000" 94 23 ∷ live "05" "c0" "0100100000000000" 95 23 ∷ []
unfolding coded
calls-hold = refl

-- a star, a part right of the walk, and a stopped module: `[a/E:b]*.` at the start, and after E
abbrev served : Program
served = record { modules = 0 ∷ 1 ∷ []; events = 4 ∷ []; fugitive = []; term = Star (Act (Mod 0) (Treat 4 (Mod 1))) }

served-read : reading parse adaptive (bytes "standard E\nprogram [a/E:b]*.\n") ≡ accepted served
unfolding opened
served-read = refl

served-hold : map (code served) (record { left = still served.term; memory = []; stopped = [] } ∷ record { left = still (Seq (Mod 1) served.term); memory = []; stopped = 0 ∷ [] } ∷ [])
    ≡ live "c68402" "1c" "0300000000000000" 93 23 ∷ live "0603" "30" "0201000000000000" 94 23 ∷ []
unfolding coded
served-hold = refl

-- No. 23: a spare byte that is not zero; a word cut short; a node that is not there; an event stored twice; a module that is not there, stopped and running;
-- `1/i` in two units; and a star over another part
refused-hold : map (decode calls)
    (live "0a02" "30" "0200000000000001" 94 23
    ∷ live "0a02" "30" "0100000000000000" 94 23
    ∷ live "0c02" "30" "0200000000000000" 94 23
    ∷ live "0a02" "30" "0200220000000000" 94 23
    ∷ live "0a02" "30" "0210000000000000" 94 23
    ∷ live "0a1b" "30" "0200000000000000" 94 23
    ∷ live "8900" "70" "0200000000000000" 94 23
    ∷ [])
    ++ (decode served (live "c603" "30" "0200000000000000" 94 23) ∷ []) ≡ replicate 8 none
unfolding coded
refused-hold = refl

-- and `1/i` in its one unit is a state, which none of the program's runs reaches
wait-hold : decode calls (live "49" "80" "0100000000000000" 95 23) ≡ some (record { left = still (Act One (Either (Treat 4 (Mod 2)) (Treat 5 (Mod 3)))); memory = []; stopped = [] })
unfolding coded
wait-hold = refl
