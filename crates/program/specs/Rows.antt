-- The rows of a program's nodes, and the table (`laws`, `Nodes`) that they are: four columns of 192 numbers, with the number of nodes where node 0, which
-- is `1`, would have its letter.
--     kind_in, left_in, right_in, letter_in     the columns of a row: "what a node has no use for is 0"
--     columns rows n         the table of the rows, of which the first n are nodes
--     alone                 the table of node 0 alone
--     appended P k l r a     the table P with such a node behind the others
--     row_of P i             the row that the columns of node i say; any other kind is `1`
-- Assumes nothing.
use Rattle.std.specs.Prelude.{ℕ, ◌+◌, cond, List, ◌++◌, map, eqb, set, replicate}
use Rattle.laws.specs.Nodes.{kind, left, right, letter, count}
use Rattle.program.specs.declared.Node.{Node}
use Rattle.program.specs.declared.Node.TheVariants.{Module, One, Sequence, Par, Star, Act, Event, Treat, Either, Both}

abbrev pub kind_in : Node → ℕ
kind_in (Module a) = 0
kind_in One = 1
kind_in (Sequence x y) = 2
kind_in (Par x y) = 3
kind_in (Star x) = 4
kind_in (Act x i) = 5
kind_in (Event e) = 6
kind_in (Treat e t) = 7
kind_in (Either i j) = 8
kind_in (Both i j) = 9

abbrev pub left_in : Node → ℕ
left_in (Module a) = 0
left_in One = 0
left_in (Sequence x y) = x
left_in (Par x y) = x
left_in (Star x) = x
left_in (Act x i) = x
left_in (Event e) = 0
left_in (Treat e t) = 0
left_in (Either i j) = i
left_in (Both i j) = i

abbrev pub right_in : Node → ℕ
right_in (Module a) = 0
right_in One = 0
right_in (Sequence x y) = y
right_in (Par x y) = y
right_in (Star x) = 0
right_in (Act x i) = i
right_in (Event e) = 0
right_in (Treat e t) = t
right_in (Either i j) = j
right_in (Both i j) = j

abbrev pub letter_in : Node → ℕ
letter_in (Module a) = a
letter_in One = 0
letter_in (Sequence x y) = 0
letter_in (Par x y) = 0
letter_in (Star x) = 0
letter_in (Act x i) = 0
letter_in (Event e) = e
letter_in (Treat e t) = e
letter_in (Either i j) = 0
letter_in (Both i j) = 0

unfoldable pub columns : List Node → ℕ → List ℕ
columns rows n = map kind_in rows ++ (map left_in rows ++ (map right_in rows ++ set (map letter_in rows) 0 n))

unfoldable pub alone : List ℕ
alone = set (set (replicate 768 0) 0 1) 576 1

unfoldable pub appended : List ℕ → (k l r a : ℕ) → List ℕ
appended P k l r a =
    set (set (set (set (set P (count P) k) (count P + 192) l) (count P + 384) r) (count P + 576) a) 576 (count P + 1)

-- the row of these columns
unfoldable pub row : (k l r a : ℕ) → Node
row k l r a =
    cond (eqb k 0) (Module a)
    (cond (eqb k 2) (Sequence l r)
    (cond (eqb k 3) (Par l r)
    (cond (eqb k 4) (Star l)
    (cond (eqb k 5) (Act l r)
    (cond (eqb k 6) (Event a) (cond (eqb k 7) (Treat a r) (cond (eqb k 8) (Either l r) (cond (eqb k 9) (Both l r) One))))))))

abbrev pub row_of : List ℕ → ℕ → Node
row_of P i = row (kind P i) (left P i) (right P i) (letter P i)
