-- A bound on the parts that a term may come to have: it is at least its parts, and no rule raises it (`Bounded`).
--     bound t, bound_i i     of a term; of what an interruption may become
--     bound_l r              of what is left; nothing has no parts
-- Assumes nothing.
use Rattle.std.specs.Prelude.{ℕ, ◌+◌, max}
use Rattle.paper.specs.Term.{Term, Intr, Left, Mod, One, Seq, Par, Star, Act, Event, Treat, Either, Both, gone, still, parts, parts_i}

unfoldable mutual
  pub bound : Term → ℕ
  bound (Mod m) = 1
  bound One = 1
  bound (Seq x y) = max (bound x + 1 + parts y) (bound y)
  bound (Par x y) = bound x + 1 + bound y
  bound (Star x) = bound x + 1 + parts (Star x)
  bound (Act x i) = max (bound x + 1 + parts_i i) (bound_i i)

  -- a side I of a `||` that is not hit becomes `1/I`, which has two parts more than I
  pub bound_i : Intr → ℕ
  bound_i (Event e) = 0
  bound_i (Treat e t) = bound t
  bound_i (Either i j) = max (bound_i i) (bound_i j)
  bound_i (Both i j) = 1 + max (2 + parts_i i) (bound_i i) + max (2 + parts_i j) (bound_i j)

unfoldable pub bound_l : Left → ℕ
bound_l gone = 0
bound_l (still t) = bound t
