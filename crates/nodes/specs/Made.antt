-- The table of a program's nodes (`laws`, `Nodes`), made node by node through `make`, which adds a node only where no equal one is there.
--     Made                  a table, and the node in it that is meant
--     is P k l r a i        node i of the table P has the kind k, the parts l and r and the letter a
--     find P k l r a        the first such node; the number of nodes where there is none
--     append P k l r a      the table with such a node behind the others
--     make P k l r a        such a node: found, or added
--     code_kind c            the kind of the node that the code c stands for
--     node P c l r          the node of the code c, whose parts are the nodes l and r; what follows a star, and a treatment, is r
--     grown P t             the tree t, its parts first, made in the table P
--     start                 the table of node 0 alone, which is `1`
--     made t                the tree t made from the start
-- Not here: that the table is one of nodes, that no two of them are equal, and that its trees are the program's (the proofs' `Laws`). Assumes nothing.
use Rattle.std.specs.Prelude.{ℕ, zero, suc, ◌+◌, ◌-◌, Bool, cond, ◌&&◌, List, eqb, ltb, set, replicate}
use Rattle.paper.specs.Bytes.{one_mark, star_mark, slash_mark, colon_mark, bar_mark, is_module, is_event}
use Rattle.laws.specs.Placed.{Tree, leaf, star, join, seq_code, either_code}
use Rattle.laws.specs.Nodes.{kind, left, right, letter, count}

pub record Made : Type 0 where
  pub table : List ℕ
  pub node : ℕ

abbrev pub is : List ℕ → ℕ → ℕ → ℕ → ℕ → ℕ → Bool
is P k l r a i = eqb (kind P i) k && (eqb (left P i) l && (eqb (right P i) r && eqb (letter P i) a))

-- among the n nodes from i on
unfoldable pub seek : List ℕ → ℕ → ℕ → ℕ → ℕ → ℕ → ℕ → ℕ
seek P k l r a i zero = i
seek P k l r a i (suc n) = cond (is P k l r a i) i (seek P k l r a (i + 1) n)

abbrev pub find : List ℕ → ℕ → ℕ → ℕ → ℕ → ℕ
find P k l r a = seek P k l r a 0 (count P)

-- the columns are those of `Nodes`; the number of nodes stands at 576
unfoldable pub append : List ℕ → ℕ → ℕ → ℕ → ℕ → List ℕ
append P k l r a =
    set (set (set (set (set P (count P) k) (count P + 192) l) (count P + 384) r) (count P + 576) a) 576 (count P + 1)

unfoldable pub make : List ℕ → ℕ → ℕ → ℕ → ℕ → Made
make P k l r a =
    cond (ltb (find P k l r a) (count P)) (record { table = P; node = find P k l r a })
    (record { table = append P k l r a; node = count P })

-- the kinds of `Nodes`, from the codes of `Placed`
unfoldable pub code_kind : ℕ → ℕ
code_kind c =
    cond (is_module c) 0
    (cond (is_event c) 6
    (cond (eqb c one_mark) 1
    (cond (eqb c star_mark) 4
    (cond (eqb c seq_code) 2
    (cond (eqb c bar_mark) 3
    (cond (eqb c slash_mark) 5 (cond (eqb c colon_mark) 7 (cond (eqb c either_code) 8 9))))))))

-- `1` is node 0. A treatment has the letter of its event, which stands as the node l.
unfoldable pub node_by : ℕ → List ℕ → ℕ → ℕ → ℕ → Made
node_by k P c l r =
    cond (eqb k 1) (record { table = P; node = 0 })
    (cond (eqb k 0) (make P 0 0 0 (c - 97))
    (cond (eqb k 6) (make P 6 0 0 (c - 65))
    (cond (eqb k 4) (make P 4 r 0 0) (cond (eqb k 7) (make P 7 0 r (letter P l)) (make P k l r 0)))))

abbrev pub node : List ℕ → ℕ → ℕ → ℕ → Made
node P c l r = node_by (code_kind c) P c l r

unfoldable pub grown : List ℕ → Tree → Made
grown P (leaf c p) = node P c 0 0
grown P (star p t) = node (grown P t).table star_mark 0 (grown P t).node
grown P (join c p t u) =
    node (grown (grown P t).table u).table c (grown P t).node (grown (grown P t).table u).node

unfoldable pub start : List ℕ
start = set (set (replicate 768 0) 0 1) 576 1

abbrev pub made : Tree → Made
made t = grown start t
