-- What is asked of a packing is met: by the state of `a/E.` with E in the memory, for the program itself. Assumes nothing.
use mathlib.Core.List.{[], ◌∷◌, ◌++◌}
use mathlib.Core.Path.{refl}
use native.Mathlib.Omega.{arith}
use lib.ListN.{replicate}
use Rattle.paper.specs.Term.{Mod, Act, Event}
use Rattle.paper.specs.Reaction.{Program}
use Rattle.nodes.specs.Made.{seek, append, make, start}
use Rattle.nodes.specs.ByTerm.{grown_t}
use Rattle.words.proofs.Concrete.{nodes, word, table}
use Rattle.rewrite.specs.declared.Memory.{Memory}
use Rattle.rewrite.proofs.Concrete.{stands}
use Rattle.react.specs.States.{Ascends}
use Rattle.react.proofs.Flagged.{flags-none}
use Rattle.pack.specs.Packing.{Packs, Names}

abbrev pub stores : Memory
stores = record { events = 4 ∷ replicate 7 0; count = 1 }

pub packs : Packs nodes (0 ∷ []) (4 ∷ []) (replicate 94 0 ++ word) (record { start = 94; memory = stores; stopped = replicate 8 0 })
unfolding Ascends
packs = record {
  table = table;
  modules = record { few = omega arith; ascend = (omega arith, (omega arith, tt)) };
  stands = stands;
  memory = record { few = omega arith; count = omega arith; among = λ e t. t };
  flags = flags-none 8 1;
}

abbrev pub program : Program
program = record { modules = 0 ∷ []; events = 4 ∷ []; fugitive = []; term = Act (Mod 0) (Event 4) }

pub names : Names program nodes (0 ∷ []) (4 ∷ [])
unfolding seek append make start grown_t
names = record { nodes_are = refl; modules_are = refl; events_are = refl }
