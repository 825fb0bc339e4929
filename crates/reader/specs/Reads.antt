-- What the reading of a file gives. Document 01, "Numbers a caller may get back":
--     "A refusal gives number and place, all else zero"
--     edition_of b           Basic where b holds, else Adaptive
--     weights_in P           the weight of each node of the table P (`laws`, `Weight`), and zeros behind them
--     given a               the answer a as the code's value: verdict, root, names ascending, and whether each of the 26 event letters is fugitive
--     nodes_of a, weights_of a        the program's table of nodes (`nodes`, `ByTerm`) and their weights; zeros in a refusal
--     ReadsAs a r n w       the value r and the two arrays are those of the answer a
-- Assumes nothing.
use Rattle.std.specs.Prelude.{ℕ, Bool, true, false, cond, List, [], map, ◌≡◌, ltb, replicate}
use Rattle.paper.specs.Lists.{has, below}
use Rattle.paper.specs.File.{Answer, refused, accepted}
use Rattle.paper.specs.Reaction as paper
use Rattle.paper.specs.Refusals.{Edition, basic, adaptive}
use Rattle.laws.specs.Nodes.{count}
use Rattle.letters.specs.Letters.{names_of}
use Rattle.nodes.specs.ByTerm.{made_of}
use Rattle.nodes.specs.Weights.{node_weight}
use Rattle.reader.specs.declared.Program.{Program}
use Rattle.reader.specs.declared.Verdict.TheVariants.{Refused, Accepted}

abbrev pub edition_of : Bool → Edition
edition_of true = basic
edition_of false = adaptive

unfoldable pub weights_in : List ℕ → List ℕ
weights_in P = map (λ i. cond (ltb i (count P)) (node_weight P i) 0) (below 192)

-- "one bit for each event, 1 for fugitive", here for each letter
unfoldable pub kinds_of : List ℕ → List Bool
kinds_of fugitive = map (λ e. has e fugitive) (below 26)

abbrev pub given : Answer paper.Program → Program
given (refused number place) =
    record { verdict = Refused number place; root = 0; modules = names_of []; events = names_of []; fugitive = replicate 26 false }
given (accepted p) = record {
  verdict = Accepted;
  root = (made_of p.term).node;
  modules = names_of p.modules;
  events = names_of p.events;
  fugitive = kinds_of p.fugitive;
}

abbrev pub nodes_of : Answer paper.Program → List ℕ
nodes_of (refused number place) = replicate 768 0
nodes_of (accepted p) = (made_of p.term).table

abbrev pub weights_of : Answer paper.Program → List ℕ
weights_of (refused number place) = replicate 192 0
weights_of (accepted p) = weights_in (made_of p.term).table

pub record ReadsAs (a : Answer paper.Program) (r : Program) (nodes weights : List ℕ) : Type 0 where
  pub is : r ≡ given a
  pub its_nodes : nodes ≡ nodes_of a
  pub its_weights : weights ≡ weights_of a
