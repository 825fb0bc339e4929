-- A program as one kind of tree, with the place of each of its marks: what the reader writes down, node by node.
--     Tree                  a letter or `1`; a star; a join: each with its code and the place of its token
--     placed_s at s          the tree of the sequence s whose text begins at the place `at`
--     size t                how many nodes
--     codes t, lefts f t, places t      its nodes in postorder: the code of each; the place of each join's left part in the list, where the tree's
--                           own nodes begin at f (the right part stands just before its join); the place of each in the text
-- Codes: a letter's own byte, or `1`; 42 star, 59 sequence, 124 `||`, 47 `/`, 58 `:`, 33 `|` and 38 `||` between interruptions. A sequence has no
-- mark of its own, and place 0. Assumes nothing.
use Rattle.std.specs.Prelude.{ℕ, ◌+◌, ◌-◌, List, [], ◌∷◌, ◌++◌, length}
use Rattle.paper.specs.Bytes.{one_mark, star_mark, slash_mark, colon_mark, bar_mark}
use Rattle.paper.specs.Grammar.{Join, bar, bars, Sequence, Item, Starred, Atom, Body, Interruption, Chain, only, then, plain, until, once, again, named, never, group, single, beside, event, treated, braces, last, next, module_byte, event_byte, join_text, print_s, print_i, print_t, print_a, print_n}

pub data Tree : Type 0 where
  leaf : (code place : ℕ) → Tree
  star : (place : ℕ) → Tree → Tree
  join : (code place : ℕ) → Tree → Tree → Tree

abbrev pub seq_code : ℕ
seq_code = 59

abbrev pub either_code : ℕ
either_code = 33

abbrev pub both_code : ℕ
both_code = 38

abbrev pub join_code : Join → ℕ
join_code bar = either_code
join_code bars = both_code

unfoldable mutual
  pub placed_s : ℕ → Sequence → Tree
  placed_s at (only i) = placed_i at i
  placed_s at (then i s) = join seq_code 0 (placed_i at i) (placed_s (at + length (print_i i)) s)

  pub placed_i : ℕ → Item → Tree
  placed_i at (plain t) = placed_t at t
  placed_i at (until t n) = join slash_mark (at + length (print_t t)) (placed_t at t) (placed_n (at + length (print_t t) + 1) n)

  pub placed_t : ℕ → Starred → Tree
  placed_t at (once a) = placed_a at a
  placed_t at (again a) = star (at + length (print_a a)) (placed_a at a)

  pub placed_a : ℕ → Atom → Tree
  placed_a at (named m h) = leaf (module_byte m) at
  placed_a at never = leaf one_mark at
  placed_a at (group b) = placed_b (at + 1) b

  pub placed_b : ℕ → Body → Tree
  placed_b at (single s) = placed_s at s
  placed_b at (beside s b) = join bar_mark (at + length (print_s s)) (placed_s at s) (placed_b (at + length (print_s s) + 2) b)

  pub placed_n : ℕ → Interruption → Tree
  placed_n at (event e h) = leaf (event_byte e) at
  placed_n at (treated e h i) = join colon_mark (at + 1) (leaf (event_byte e) at) (placed_i (at + 2) i)
  placed_n at (braces j n c) =
      join (join_code j) (at + 1 + length (print_n n)) (placed_n (at + 1) n) (placed_c j (at + 1 + length (print_n n)) c)

  -- those behind the first: `at` is the place of the join before them
  pub placed_c : Join → ℕ → Chain → Tree
  placed_c j at (last n) = placed_n (at + length (join_text j)) n
  placed_c j at (next n c) =
      join (join_code j) (at + length (join_text j) + length (print_n n)) (placed_n (at + length (join_text j)) n)
      (placed_c j (at + length (join_text j) + length (print_n n)) c)

unfoldable pub size : Tree → ℕ
size (leaf c p) = 1
size (star p t) = size t + 1
size (join c p t u) = size t + size u + 1

unfoldable pub codes : Tree → List ℕ
codes (leaf c p) = c ∷ []
codes (star p t) = codes t ++ (star_mark ∷ [])
codes (join c p t u) = codes t ++ (codes u ++ (c ∷ []))

unfoldable pub lefts : ℕ → Tree → List ℕ
lefts f (leaf c p) = 0 ∷ []
lefts f (star p t) = lefts f t ++ (0 ∷ [])
lefts f (join c p t u) = lefts f t ++ (lefts (f + size t) u ++ ((f + size t - 1) ∷ []))

unfoldable pub places : Tree → List ℕ
places (leaf c p) = p ∷ []
places (star p t) = places t ++ (p ∷ [])
places (join c p t u) = places t ++ (places u ++ (p ∷ []))
