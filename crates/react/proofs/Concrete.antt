-- What is asked of a reaction is met: by the state of `a/E.` and an occurrence of E. Assumes nothing.
use mathlib.Core.List.{[], ◌∷◌, ◌++◌}
use mathlib.Core.Path.{refl}
use native.Mathlib.Omega.{arith}
use lib.ListN.{replicate}
use Rattle.paper.specs.Rewriting.{occurrence}
use Rattle.words.proofs.Concrete.{nodes, word, table}
use Rattle.rewrite.proofs.Concrete.{stands}
use Rattle.react.specs.States.{Ascends, Ready}

pub ready : Ready nodes (0 ∷ []) (replicate 94 0 ++ word) (record { start = 94; memory = record { events = replicate 8 0; count = 0 }; stopped = replicate 8 0 }) (replicate 96 0) (occurrence 4)
unfolding Ascends
ready = record {
  table = table;
  modules = record { few = omega arith; ascend = (omega arith, (omega arith, tt)) };
  stands = stands;
  long = refl;
  few = omega arith;
  room = λ e k h. omega arith;
}
