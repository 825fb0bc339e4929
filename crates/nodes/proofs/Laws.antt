-- The laws of the table that a program makes: it is a table of nodes, no two of its nodes have the same tree, and the root's tree is the program's term.
-- The start is a table, and growing keeps it one (`grown-stands`). Assumes nothing.
--     Root P r n x          P is such a table of at most n + 1 nodes, in which r is the root, of the term x
--     made-root             so is what a program makes that has at most 189 places
--     size_below            as has a program within 96 tokens
use Prim.Native.Nat.{ℕ, ◌+◌, ◌*◌, ◌≤◌, ◌<◌}
use mathlib.Core.List.{List}
use mathlib.Core.Path.{◌≡◌, refl, ◌∙◌}
use native.Mathlib.Omega.{arith}
use lib.ListN.{length, get_or, set, replicate, get_or-replicate}
use lib.Seq.{get_or-set_other}
use Rattle.paper.specs.Grammar.{Join, Sequence, Item, Starred, Atom, Body, Interruption, Chain, only, then, plain, until, once, again, named, never, group, single, beside, event, treated, braces, last, next, join_text, print_s, print_i, print_t, print_n, printed}
use Rattle.paper.specs.Limits.{tokens}
use Rattle.paper.specs.Term.{Term, term_s}
use Rattle.laws.specs.Nodes.{Nodes, Apart, kind, count, tree}
use Rattle.laws.specs.Placed.{size, placed_s, placed_i, placed_t, placed_a, placed_b, placed_n, placed_c}
use Rattle.laws.specs.Tokens.{count_s, count_i, count_t, count_a, count_b, count_n, count_c}
use Rattle.laws.proofs.Tokens.{tokens-counted}
use Rattle.nodes.specs.Made.{start, made}
use Rattle.nodes.proofs.Table.{Table, left_sort, right_sort, table-nodes}
use Rattle.nodes.proofs.Apart.{table-apart}
use Rattle.nodes.proofs.Grown.{Stands, grown-stands}
use Rattle.nodes.proofs.Means.{a_term, means-S}

-- a place of the start that is neither node 0's kind nor the number of nodes
start-zero : (j : ℕ) → 0 < j → j < 768 → (j ≡ 576 → ⊥) → get_or start j 0 ≡ 0
unfolding start
start-zero j o h d =
    get_or-set_other (set (replicate 768 0) 0 1) 576 j 1 0 d
    ∙ (get_or-set_other (replicate 768 0) 0 j 1 0 (λ e. omega arith) ∙ get_or-replicate 768 j 0 0 h)

pub start-count : count start ≡ 1
unfolding start
start-count = refl

start-kind : kind start 0 ≡ 1
unfolding start
start-kind = refl

pub start-long : length start ≡ 768
unfolding start
start-long = refl

pub start-table : Table start
unfolding left_sort right_sort
start-table =
    record {
      long = start-long;
      some = omega (arith, start-count);
      few = omega (arith, start-count);
      zeroth = start-kind;
      rows =
          λ i h.
          let z : i ≡ 0 = omega (arith, start-count) in
          rw (z, start-kind) (record { known = omega arith; left_fits = start-zero 192 (omega arith) (omega arith) (λ e. omega arith); right_fits = start-zero 384 (omega arith) (omega arith) (λ e. omega arith) });
      letters = λ i o h. absurd (omega (arith, start-count));
      ones = λ i h k. omega (arith, start-count);
      blank =
          λ i h u.
          let o : 0 < i = omega (arith, start-count) in
          record {
            no_left = start-zero (i + 192) (omega arith) (omega arith) (λ e. omega arith);
            no_right = start-zero (i + 384) (omega arith) (omega arith) (λ e. omega arith);
            no_letter = start-zero (i + 576) (omega arith) (omega arith) (λ e. omega arith);
          };
      distinct = λ i j oi hi oj hj s. omega (arith, start-count);
    }

pub made-stands : (at : ℕ) (q : Sequence) → size (placed_s at q) ≤ 189 → Stands start (made (placed_s at q)) (size (placed_s at q)) (a_term (term_s q))
made-stands at q h = grown-stands (means-S q at) start start-table (omega (arith, start-count))

pub record Root (P : List ℕ) (r n : ℕ) (x : Term) : Type 0 where
  pub nodes : Nodes P
  pub apart : Apart P
  pub few : count P ≤ n + 1
  pub below : r < count P
  pub a_term : kind P r ≤ 5
  pub its_term : tree P r ≡ x

pub made-root : (at : ℕ) (q : Sequence) → size (placed_s at q) ≤ 189
    → Root (made (placed_s at q)).table (made (placed_s at q)).node (size (placed_s at q)) (term_s q)
made-root at q h =
    let s = made-stands at q h in
    record {
      nodes = table-nodes (made (placed_s at q)).table s.table_of;
      apart = table-apart (made (placed_s at q)).table s.table_of;
      few = omega (arith, s.more, start-count);
      below = s.below;
      a_term = s.says.0;
      its_term = s.says.1;
    }

-- production by production: the places are at most twice the tokens less one
mutual
  unfolding placed_s size count_s

  sequence-size : (s : Sequence) (at : ℕ) → size (placed_s at s) + 1 ≤ 2 * count_s s
  sequence-size (only i) at = item-size i at
  sequence-size (then i s) at = omega (arith, item-size i at, sequence-size s (at + length (print_i i)))

  item-size : (i : Item) (at : ℕ) → size (placed_i at i) + 1 ≤ 2 * count_i i
  item-size (plain t) at = starred-size t at
  item-size (until t n) at = omega (arith, starred-size t at, interruption-size n (at + length (print_t t) + 1))

  starred-size : (t : Starred) (at : ℕ) → size (placed_t at t) + 1 ≤ 2 * count_t t
  starred-size (once a) at = atom-size a at
  starred-size (again a) at = omega (arith, atom-size a at)

  atom-size : (a : Atom) (at : ℕ) → size (placed_a at a) + 1 ≤ 2 * count_a a
  atom-size (named m h) at = omega arith
  atom-size never at = omega arith
  atom-size (group b) at = omega (arith, body-size b (at + 1))

  body-size : (b : Body) (at : ℕ) → size (placed_b at b) + 1 ≤ 2 * count_b b
  body-size (single s) at = sequence-size s at
  body-size (beside s b) at = omega (arith, sequence-size s at, body-size b (at + length (print_s s) + 2))

  interruption-size : (n : Interruption) (at : ℕ) → size (placed_n at n) + 1 ≤ 2 * count_n n
  interruption-size (event e h) at = omega arith
  interruption-size (treated e h i) at = omega (arith, item-size i (at + 2))
  interruption-size (braces j n c) at = omega (arith, interruption-size n (at + 1), chain-size j c (at + 1 + length (print_n n)))

  chain-size : (j : Join) (c : Chain) (at : ℕ) → size (placed_c j at c) + 1 ≤ 2 * count_c c
  chain-size j (last n) at = omega (arith, interruption-size n (at + length (join_text j)))
  chain-size j (next n c) at = omega (arith, interruption-size n (at + length (join_text j)), chain-size j c (at + length (join_text j) + length (print_n n)))

pub size_below : (at : ℕ) (s : Sequence) → length (tokens at (printed s)) ≤ 96 → size (placed_s at s) ≤ 189
size_below at s h = omega (arith, sequence-size s at, tokens-counted at s)
