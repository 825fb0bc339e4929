-- The written set of states. Document 01: "No. 23 refuses exactly what lies outside a written set of states that holds every reachable one and is
-- closed under steps."
--     nodes_of p             the table of the program's nodes
--     Written p s           s is in the set: what is left of the term is over the program's nodes and modules and weighs at most 96, so that its word has at
--                           most 96 units; "The memory lists different standard events" of the program; the stopped set is a part of the program's modules,
--                           in their order; "A state is at its end when nothing is left of the term; then memory and stopped set are empty."
--     in_set p s             the same as a test
-- Not here: that the set is closed (the proofs' `Closed`). Assumes nothing.
use Rattle.std.specs.Prelude.{ℕ, ◌≤◌, Bool, true, not, ◌&&◌, List, [], ◌∷◌, ◌≡◌, leb}
use Rattle.paper.specs.Lists.{is_nil, has, keep, eq_l}
use Rattle.paper.specs.Term.{Left, gone, still}
use Rattle.paper.specs.Reaction.{Program, State}
use Rattle.laws.specs.Weight.{weight_l}
use Rattle.laws.proofs.Reached.{Memory}
use Rattle.nodes.specs.ByTerm.{made_of}
use Rattle.coding.specs.Units.{OverL, over_l}

abbrev pub nodes_of : Program → List ℕ
nodes_of p = (made_of p.term).table

pub record Written (p : Program) (s : State) : Type 0 where
  pub over : OverL (nodes_of p) p.modules s.left
  pub light : weight_l s.left ≤ 96
  pub memory : Memory p s.memory
  pub stopped : s.stopped ≡ keep (λ m. has m s.stopped) p.modules
  pub ended : s.left ≡ gone → (s.memory ≡ []) × (s.stopped ≡ [])

-- different, of the program, and not fugitive
unfoldable pub is_memory : Program → List ℕ → Bool
is_memory p [] = true
is_memory p (e ∷ m) = (not (has e m) && (has e p.events && not (has e p.fugitive))) && is_memory p m

abbrev pub is_ended : Left → List ℕ → List ℕ → Bool
is_ended gone m xs = is_nil m && is_nil xs
is_ended (still t) m xs = true

unfoldable pub in_set : Program → State → Bool
in_set p s =
    over_l (nodes_of p) p.modules s.left
    && (leb (weight_l s.left) 96
    && (is_memory p s.memory
    && (eq_l s.stopped (keep (λ m. has m s.stopped) p.modules) && is_ended s.left s.memory s.stopped)))
