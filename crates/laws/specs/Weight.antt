-- The weight of a term: `room` bounds the units of its word, and no rule raises it (`Weighs`).
--     weight t, weight_i i   the weight of a term, of an interruption
--     room t                the units that its word may take: a word has at least one
--     weight_l r             the weight of what is left; nothing weighs nothing
-- Assumes nothing.
use Rattle.std.specs.Prelude.{ℕ, ◌+◌, max}
use Rattle.paper.specs.Term.{Term, Intr, Left, Mod, One, Seq, Par, Star, Act, Event, Treat, Either, Both, gone, still}

unfoldable mutual
  pub weight : Term → ℕ
  weight (Mod m) = 1
  weight One = 0
  weight (Seq x y) = max (max 1 (weight x) + 1) (weight y)
  weight (Par x y) = max 1 (weight x) + max 1 (weight y) + 1
  weight (Star x) = max 1 (weight x) + 1
  weight (Act x i) = max (weight x + 1) (weight_i i)

  pub weight_i : Intr → ℕ
  weight_i (Event e) = 0
  weight_i (Treat e t) = weight t
  weight_i (Either i j) = max (weight_i i) (weight_i j)
  weight_i (Both i j) = max 1 (weight_i i) + max 1 (weight_i j) + 1

abbrev pub room : Term → ℕ
room t = max 1 (weight t)

unfoldable pub weight_l : Left → ℕ
weight_l gone = 0
weight_l (still t) = weight t
