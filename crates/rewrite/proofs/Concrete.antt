-- What is asked of a state is met: the word of `a/E.` at the end of 96 places stands as its state.
-- Assumes nothing.
use Prim.Native.Nat.{ℕ}
use mathlib.Core.List.{List, ◌++◌}
use mathlib.Core.Path.{◌≡◌, refl, ap}
use native.Mathlib.Omega.{arith}
use lib.ListN.{replicate}
use Rattle.paper.specs.Term.{Mod, Act, Event, still}
use Rattle.laws.specs.Weight.{weight, weight_l}
use Rattle.words.proofs.Concrete.{nodes, word, word-right, says}
use Rattle.rewrite.specs.Steps.{left_of, state, Stands}

abbrev places : List ℕ
places = replicate 94 0 ++ word

pub state_is : state nodes places 94 ≡ still (Act (Mod 0) (Event 4))
state_is = ap left_of says

pub stands : Stands nodes places 94
unfolding weight weight_l
stands =
    record {
      right = word-right;
      single = rw says (omega arith);
      light = rw state_is (omega arith);
      long = refl;
      within = omega arith;
    }
