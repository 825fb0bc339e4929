-- The limits of a program, and what its letters must meet. Document 01, "The configuration file":
--     "A program has at most 96 tokens, brackets and braces 16 deep, stars 3 deep (treatments inside a starred part count), 8 different modules and 8
--     different events. The two sides of a `||` may not share a module, nor a standard event; a fugitive event may stand in both."
-- Each check answers the place that the table of numbers names, where its condition holds. `at` is the place of the text's first byte.
--     tokens at v           the places at which the tokens of v begin
--     over96 at v           No. 9: the 97th token
--     too_deep at v          No. 9: the bracket or brace that opens a 17th inside each other
--     too_starred at s       No. 9: the first star over a part with three nested
--     unlisted, unused      No. 10 and 11
--     ninth                 No. 12
--     Bars, bars_s at s      each `||` of the program s, in the order of the text, with its two sides
--     shared_module, shared_event, braces_joined       No. 13, 14, 16
-- Assumes nothing.
use Rattle.std.specs.Prelude.{ℕ, zero, suc, ◌+◌, ◌-◌, max, Bool, true, false, cond, not, ◌&&◌, ◌||◌, List, [], ◌∷◌, ◌++◌, map, eqb, leb, ltb, length}
use Rattle.std.proofs.Math.Option.{Option, none, some}
use Rattle.std.proofs.Math.ListN.{get_elem?}
use Rattle.paper.specs.Lists.{with_if, has, first_place}
use Rattle.paper.specs.Bytes.{is_module, is_event, open_mark, close_mark, brace_mark, bar_mark, unbrace_mark}
use Rattle.paper.specs.Grammar.{Join, bar, bars, Sequence, Item, Starred, Atom, Body, Interruption, Chain, only, then, plain, until, once, again, named, never, group, single, beside, event, treated, braces, last, next, event_byte, join_text, print_s, print_i, print_t, print_a, print_b, print_n, print_c}
use Rattle.paper.specs.File.{Listed}

-- "Each byte is a token, but `||` is one.": `half` where the byte before was the first of such a pair, so that this bar is its second
unfoldable pub tokens_from : Bool → ℕ → List ℕ → List ℕ
tokens_from half at [] = []
tokens_from half at (b ∷ bs) = with_if (not (half && eqb b bar_mark)) at (tokens_from (not half && eqb b bar_mark) (at + 1) bs)

unfoldable pub tokens : ℕ → List ℕ → List ℕ
tokens at v = tokens_from false at v

-- "first token over"
unfoldable pub over96 : ℕ → List ℕ → Option ℕ
over96 at v = get_elem? (tokens at v) 96

abbrev pub is_opening : ℕ → Bool
is_opening b = eqb b open_mark || eqb b brace_mark

abbrev pub is_closing : ℕ → Bool
is_closing b = eqb b close_mark || eqb b unbrace_mark

-- how many are open after the byte b
abbrev pub open_after : ℕ → ℕ → ℕ
open_after deep b = cond (is_opening b) (deep + 1) (cond (is_closing b) (deep - 1) deep)

-- `deep` brackets and braces are open
unfoldable pub deeper : ℕ → ℕ → List ℕ → Option ℕ
deeper deep at [] = none
deeper deep at (b ∷ bs) = cond (is_opening b && leb 16 deep) (some at) (deeper (open_after deep b) (at + 1) bs)

unfoldable pub too_deep : ℕ → List ℕ → Option ℕ
too_deep at v = deeper 0 at v

-- how many stars stand inside each other in a part
unfoldable mutual
  pub nest_s : Sequence → ℕ
  nest_s (only i) = nest_i i
  nest_s (then i s) = max (nest_i i) (nest_s s)

  pub nest_i : Item → ℕ
  nest_i (plain t) = nest_t t
  nest_i (until t n) = max (nest_t t) (nest_n n)

  pub nest_t : Starred → ℕ
  nest_t (once a) = nest_a a
  nest_t (again a) = suc (nest_a a)

  pub nest_a : Atom → ℕ
  nest_a (named m h) = 0
  nest_a never = 0
  nest_a (group b) = nest_b b

  pub nest_b : Body → ℕ
  nest_b (single s) = nest_s s
  nest_b (beside s b) = max (nest_s s) (nest_b b)

  pub nest_n : Interruption → ℕ
  nest_n (event e h) = 0
  nest_n (treated e h i) = nest_i i
  nest_n (braces j n c) = max (nest_n n) (nest_c c)

  pub nest_c : Chain → ℕ
  nest_c (last n) = nest_n n
  nest_c (next n c) = max (nest_n n) (nest_c c)

-- a star's place, and the stars nested in its part
pub record Starry : Type 0 where
  pub place : ℕ
  pub nested : ℕ

-- the stars of a part that begins at `at`, in the order of the text
unfoldable mutual
  pub stars_s : ℕ → Sequence → List Starry
  stars_s at (only i) = stars_i at i
  stars_s at (then i s) = stars_i at i ++ stars_s (at + length (print_i i)) s

  pub stars_i : ℕ → Item → List Starry
  stars_i at (plain t) = stars_t at t
  stars_i at (until t n) = stars_t at t ++ stars_n (at + length (print_t t) + 1) n

  pub stars_t : ℕ → Starred → List Starry
  stars_t at (once a) = stars_a at a
  stars_t at (again a) = stars_a at a ++ (record { place = at + length (print_a a); nested = nest_a a } ∷ [])

  pub stars_a : ℕ → Atom → List Starry
  stars_a at (named m h) = []
  stars_a at never = []
  stars_a at (group b) = stars_b (at + 1) b

  pub stars_b : ℕ → Body → List Starry
  stars_b at (single s) = stars_s at s
  stars_b at (beside s b) = stars_s at s ++ stars_b (at + length (print_s s) + 2) b

  pub stars_n : ℕ → Interruption → List Starry
  stars_n at (event e h) = []
  stars_n at (treated e h i) = stars_i (at + 2) i
  stars_n at (braces j n c) = stars_n (at + 1) n ++ stars_c j (at + 1 + length (print_n n)) c

  pub stars_c : Join → ℕ → Chain → List Starry
  stars_c j at (last n) = stars_n (at + length (join_text j)) n
  stars_c j at (next n c) =
      stars_n (at + length (join_text j)) n ++ stars_c j (at + length (join_text j) + length (print_n n)) c

abbrev pub three_nested : List Starry → Option ℕ
three_nested [] = none
three_nested (s ∷ ss) = cond (leb 3 s.nested) (some s.place) (three_nested ss)

-- "first star over a part with three nested"
unfoldable pub too_starred : ℕ → Sequence → Option ℕ
too_starred at s = three_nested (stars_s at s)

-- No. 10: "event not listed", "its first use"
unfoldable pub unlisted : List ℕ → ℕ → List ℕ → Option ℕ
unlisted listed at v = first_place (λ b. is_event b && not (has (b - 65) listed)) at v

-- No. 11: "listed event not used", "its letter, earliest"
unfoldable pub unused : List ℕ → List Listed → Option ℕ
unused v [] = none
unused v (l ∷ ls) = cond (has (event_byte l.letter) v) (unused v ls) (some l.at)

-- No. 12: the ninth different byte that passes the test, at its first use; `seen` has those before
abbrev pub is_new : (ℕ → Bool) → List ℕ → ℕ → Bool
is_new p seen b = p b && not (has b seen)

unfoldable pub ninth_from : (ℕ → Bool) → List ℕ → ℕ → List ℕ → Option ℕ
ninth_from p seen at [] = none
ninth_from p seen at (b ∷ bs) =
    cond (is_new p seen b && leb 8 (length seen)) (some at) (ninth_from p (with_if (is_new p seen b) b seen) (at + 1) bs)

unfoldable pub ninth : (ℕ → Bool) → ℕ → List ℕ → Option ℕ
ninth p at v = ninth_from p [] at v

-- a `||`: its place, the texts of its two sides, and whether it joins interruptions
pub record Bars : Type 0 where
  pub place : ℕ
  pub left : List ℕ
  pub right : List ℕ
  pub in_braces : Bool

-- those between interruptions; `|` is none
abbrev pub chain_bars : Join → ℕ → List ℕ → List ℕ → List Bars
chain_bars bar at left right = []
chain_bars bars at left right = record { place = at; left = left; right = right; in_braces = true } ∷ []

-- the `||` of a part that begins at `at`, in the order of the text; joins group to the right, so the right side is all that follows
unfoldable mutual
  pub bars_s : ℕ → Sequence → List Bars
  bars_s at (only i) = bars_i at i
  bars_s at (then i s) = bars_i at i ++ bars_s (at + length (print_i i)) s

  pub bars_i : ℕ → Item → List Bars
  bars_i at (plain t) = bars_t at t
  bars_i at (until t n) = bars_t at t ++ bars_n (at + length (print_t t) + 1) n

  pub bars_t : ℕ → Starred → List Bars
  bars_t at (once a) = bars_a at a
  bars_t at (again a) = bars_a at a

  pub bars_a : ℕ → Atom → List Bars
  bars_a at (named m h) = []
  bars_a at never = []
  bars_a at (group b) = bars_b (at + 1) b

  pub bars_b : ℕ → Body → List Bars
  bars_b at (single s) = bars_s at s
  bars_b at (beside s b) =
      bars_s at s
      ++ (record { place = at + length (print_s s); left = print_s s; right = print_b b; in_braces = false }
      ∷ bars_b (at + length (print_s s) + 2) b)

  pub bars_n : ℕ → Interruption → List Bars
  bars_n at (event e h) = []
  bars_n at (treated e h i) = bars_i (at + 2) i
  bars_n at (braces j n c) =
      bars_n (at + 1) n
      ++ (chain_bars j (at + 1 + length (print_n n)) (print_n n) (print_c j c) ++ bars_c j (at + 1 + length (print_n n)) c)

  -- of those behind the first: `at` is the place of the join before them
  pub bars_c : Join → ℕ → Chain → List Bars
  bars_c j at (last n) = bars_n (at + length (join_text j)) n
  bars_c j at (next n c) =
      bars_n (at + length (join_text j)) n
      ++ (chain_bars j (at + length (join_text j) + length (print_n n)) (print_n n) (print_c j c)
      ++ bars_c j (at + length (join_text j) + length (print_n n)) c)

-- the two texts share a byte that passes the test
unfoldable pub share : (ℕ → Bool) → List ℕ → List ℕ → Bool
share p [] ys = false
share p (x ∷ xs) ys = (p x && has x ys) || share p xs ys

-- "first such `||`"
unfoldable pub first_bars : (Bars → Bool) → List Bars → Option ℕ
first_bars p [] = none
first_bars p (b ∷ bs) = cond (p b) (some b.place) (first_bars p bs)

unfoldable pub shared_module : ℕ → Sequence → Option ℕ
shared_module at s = first_bars (λ b. share is_module b.left b.right) (bars_s at s)

-- "a fugitive event may stand in both"
unfoldable pub shared_event : List ℕ → ℕ → Sequence → Option ℕ
shared_event fugitive at s =
    first_bars (λ b. share (λ x. is_event x && not (has (x - 65) fugitive)) b.left b.right) (bars_s at s)

unfoldable pub braces_joined : ℕ → Sequence → Option ℕ
braces_joined at s = first_bars (λ b. b.in_braces) (bars_s at s)
