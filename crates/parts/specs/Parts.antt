-- How many parts the term of a word has, from the parts of each node of the table. Document 01, "Numbers a caller may get back":
--     No. 18: "a reachable term of more than 8,192 parts"
--     capped n              n, or 8,193 where it is more: one too many is enough to know
--     node_parts P i         the parts of the term of node i, or of its interruption
--     row_parts k l r        the parts of a node of the kind k whose own parts have l and r
--     Counted P ns          ns has, capped, the parts of each node of the table P
--     unit_parts P m         what a unit adds to the parts of the terms after it
--     all_parts ts           the parts of all the terms
--     Meant P m             a unit that says m may stand before some terms
-- Assumes nothing.
use Rattle.std.specs.Prelude.{ℕ, suc, ◌+◌, ◌≤◌, ◌<◌, min, cond, ◌||◌, List, [], ◌∷◌, ◌≡◌, eqb, leb, get_or, length}
use Rattle.paper.specs.Term.{Term, parts, parts_i}
use Rattle.laws.specs.Nodes.{kind, count, tree, intr}
use Rattle.words.specs.Word.{Mark, u_seq, u_star, u_act, u_wait, u_one, u_par, u_mod, Fine}
use Rattle.words.specs.Pieces.{Table}

abbrev pub capped : ℕ → ℕ
capped n = min 8193 n

unfoldable pub node_parts : List ℕ → ℕ → ℕ
node_parts P i = cond (leb (kind P i) 5) (parts (tree P i)) (parts_i (intr P i))

-- the kinds of `Nodes`: a star has its left part, a treatment its event, `:` and its right part; a join and `/` have two parts; a name and `1` none
unfoldable pub row_parts : ℕ → ℕ → ℕ → ℕ
row_parts k l r =
    cond (eqb k 2 || (eqb k 3 || (eqb k 5 || (eqb k 8 || eqb k 9)))) (suc (l + r))
    (cond (eqb k 4) (suc l) (cond (eqb k 7) (suc (suc r)) 1))

pub record Counted (P ns : List ℕ) : Type 0 where
  pub table : Table P
  pub places : count P ≤ length ns
  pub counts : (i : ℕ) → i < count P → get_or ns i 0 ≡ capped (node_parts P i)

-- its own part, and those of its node; `Wait` has its `1` besides
unfoldable pub unit_parts : List ℕ → Mark → ℕ
unit_parts P (u_seq j) = suc (parts (tree P j))
unit_parts P (u_star j) = 1
unit_parts P (u_act j) = suc (parts_i (intr P j))
unit_parts P (u_wait j) = suc (suc (parts_i (intr P j)))
unit_parts P u_one = 1
unit_parts P u_par = 1
unit_parts P (u_mod a) = 1

unfoldable pub all_parts : List Term → ℕ
all_parts [] = 0
all_parts (t ∷ ts) = parts t + all_parts ts

pub record Meant (P : List ℕ) (m : Mark) : Type 0 where
  pub after : List Term
  pub fine : Fine P m after
