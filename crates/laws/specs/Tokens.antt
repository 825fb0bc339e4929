-- The tokens of a program, counted by its tree: each letter and each mark once, each join once whether `|` or `||`.
--     count_s, count_i, count_t, count_a, count_b, count_n        those of the text of a production
--     count_c c              those of the interruptions of c, each with the join before it
-- Not here: the `.` of a program; that these are the tokens of the text (the proofs' `Tokens`). Assumes nothing.
use Rattle.std.specs.Prelude.{ℕ, ◌+◌}
use Rattle.paper.specs.Grammar.{Sequence, Item, Starred, Atom, Body, Interruption, Chain, only, then, plain, until, once, again, named, never, group, single, beside, event, treated, braces, last, next}

unfoldable mutual
  pub count_s : Sequence → ℕ
  count_s (only i) = count_i i
  count_s (then i s) = count_i i + count_s s

  pub count_i : Item → ℕ
  count_i (plain t) = count_t t
  count_i (until t n) = count_t t + (1 + count_n n)

  pub count_t : Starred → ℕ
  count_t (once a) = count_a a
  count_t (again a) = count_a a + 1

  pub count_a : Atom → ℕ
  count_a (named m h) = 1
  count_a never = 1
  count_a (group b) = 1 + (count_b b + 1)

  pub count_b : Body → ℕ
  count_b (single s) = count_s s
  count_b (beside s b) = count_s s + (1 + count_b b)

  pub count_n : Interruption → ℕ
  count_n (event e h) = 1
  count_n (treated e h i) = 1 + (1 + count_i i)
  count_n (braces j n c) = 1 + (count_n n + (count_c c + 1))

  pub count_c : Chain → ℕ
  count_c (last n) = 1 + count_n n
  count_c (next n c) = 1 + (count_n n + count_c c)
