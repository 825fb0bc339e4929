-- What the functions of this crate are given, and what they leave.
--     Roomy P               a table with a node and with room for one more
--     Leaves P r m          the table P and the node r are those of m
--     Postorder code left n at q      the first n of `code` and `left` are the program q in postorder, whose text begins at `at`
--     Given code left n room          what `make_nodes` is given: such a program, within what the table holds
--     Numbered code left n P r        what it leaves: the table P of that program's nodes, of which r is the root
-- Assumes nothing.
use Rattle.std.specs.Prelude.{ℕ, ◌≤◌, List, ◌≡◌, length, take}
use Rattle.paper.specs.Grammar.{Sequence}
use Rattle.laws.specs.Placed.{placed_s, codes, lefts}
use Rattle.laws.specs.Nodes.{count}
use Rattle.nodes.specs.Made.{Made, made}

pub record Roomy (P : List ℕ) : Type 0 where
  pub long : length P ≡ 768
  pub some : 1 ≤ count P
  pub room : count P ≤ 190

pub record Leaves (P : List ℕ) (r : ℕ) (m : Made) : Type 0 where
  pub table_is : P ≡ m.table
  pub node_is : r ≡ m.node

pub record Postorder (code left : List ℕ) (n at : ℕ) (q : Sequence) : Type 0 where
  pub its_codes : take n code ≡ codes (placed_s at q)
  pub its_lefts : take n left ≡ lefts 0 (placed_s at q)

pub record Given (code left : List ℕ) (n room : ℕ) : Type 0 where
  pub at : ℕ
  pub program : Sequence
  pub written : Postorder code left n at program
  pub code_long : length code ≡ 192
  pub left_long : length left ≡ 192
  pub few : n ≤ 189
  pub nodes_long : room ≡ 768

pub record Numbered (code left : List ℕ) (n : ℕ) (P : List ℕ) (r : ℕ) : Type 0 where
  pub table_is : (at : ℕ) (q : Sequence) → Postorder code left n at q → P ≡ (made (placed_s at q)).table
  pub root_is : (at : ℕ) (q : Sequence) → Postorder code left n at q → r ≡ (made (placed_s at q)).node
