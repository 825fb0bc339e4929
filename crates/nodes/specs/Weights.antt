-- The weight of each node of a table (`laws`, `Weight`), as it stands beside the table.
--     node_weight P i        the weight of the term of node i, or of its interruption
--     row_weight k l r       the weight of a node of the kind k whose parts weigh l and r
--     Weighable P room      what `weigh` is given: a table of nodes whose weights fit a byte, and a place for each
--     Weighed P w v         what it leaves in place of w: v, the weight of each node, and behind them what was there
-- Assumes nothing.
use Rattle.std.specs.Prelude.{ℕ, ◌+◌, ◌≤◌, ◌<◌, max, cond, List, ◌≡◌, eqb, leb, get_or}
use Rattle.laws.specs.Nodes.{Nodes, kind, count, tree, intr}
use Rattle.laws.specs.Weight.{weight, weight_i}

unfoldable pub node_weight : List ℕ → ℕ → ℕ
node_weight P i = cond (leb (kind P i) 5) (weight (tree P i)) (weight_i (intr P i))

unfoldable pub row_weight : ℕ → ℕ → ℕ → ℕ
row_weight k l r =
    cond (eqb k 0) 1
    (cond (eqb k 2) (max (max 1 l + 1) r)
    (cond (eqb k 3) (max 1 l + max 1 r + 1)
    (cond (eqb k 4) (max 1 l + 1)
    (cond (eqb k 5) (max (l + 1) r) (cond (eqb k 7) r (cond (eqb k 8) (max l r) (cond (eqb k 9) (max 1 l + max 1 r + 1) 0)))))))

pub record Weighable (P : List ℕ) (room : ℕ) : Type 0 where
  pub nodes : Nodes P
  pub places : count P ≤ room
  pub small : (i : ℕ) → i < count P → node_weight P i ≤ 255

pub record Weighed (P w v : List ℕ) : Type 0 where
  pub at_nodes : (i : ℕ) → i < count P → get_or v i 0 ≡ node_weight P i
  pub behind : (i : ℕ) → count P ≤ i → get_or v i 0 ≡ get_or w i 0
