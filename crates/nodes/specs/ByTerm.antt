-- The table of a program's nodes as a function of its term alone: whatever text it was read from, the table is this one (the proofs' `ByTerm`).
--     above k m n           a node of the kind k over the nodes of m and n, made in the table of n, which is behind m's
--     grown_t P t            the term t, its parts first, made in the table P; `grown_i` the interruption. A treatment's event is made before what is done,
--                           and the treatment has the letter of that node
--     made_of t              the term t made from the start
-- Assumes nothing.
use Rattle.std.specs.Prelude.{ℕ, List}
use Rattle.paper.specs.Term.{Term, Intr, Mod, One, Seq, Par, Star, Act, Event, Treat, Either, Both}
use Rattle.laws.specs.Nodes.{letter}
use Rattle.nodes.specs.Made.{Made, make, start}

abbrev pub above : ℕ → Made → Made → Made
above k m n = make n.table k m.node n.node 0

-- the star of what was made, and the treatment n of the event m
abbrev pub starred : Made → Made
starred m = make m.table 4 m.node 0 0

abbrev pub treating : Made → Made → Made
treating m n = make n.table 7 0 n.node (letter n.table m.node)

unfoldable mutual
  pub grown_t : List ℕ → Term → Made
  grown_t P (Mod a) = make P 0 0 0 a
  grown_t P One = record { table = P; node = 0 }
  grown_t P (Seq x y) = let m = grown_t P x in above 2 m (grown_t m.table y)
  grown_t P (Par x y) = let m = grown_t P x in above 3 m (grown_t m.table y)
  grown_t P (Star x) = starred (grown_t P x)
  grown_t P (Act x i) = let m = grown_t P x in above 5 m (grown_i m.table i)

  pub grown_i : List ℕ → Intr → Made
  grown_i P (Event e) = make P 6 0 0 e
  grown_i P (Treat e t) = let m = make P 6 0 0 e in treating m (grown_t m.table t)
  grown_i P (Either i j) = let m = grown_i P i in above 8 m (grown_i m.table j)
  grown_i P (Both i j) = let m = grown_i P i in above 9 m (grown_i m.table j)

abbrev pub made_of : Term → Made
made_of t = grown_t start t
