-- The room of a program's term is below the number of its tokens. No part's text begins or ends with `|`, so its tokens are the same whatever stands
-- beside it, and are the count by its tree (`Counts`); and each production has at least as many tokens as its term has room.
-- Assumes nothing.
use Prim.Native.Nat.{ℕ, zero, suc, ◌+◌, ◌≤◌, ◌<◌, max}
use mathlib.Core.Path.{◌≡◌, refl}
use mathlib.Core.Bool.{Bool, true, false, not, ◌&&◌}
use mathlib.Core.List.{List, [], ◌∷◌, ◌++◌, append_assoc}
use mathlib.Core.Option.{none}
use native.Mathlib.Omega.{arith}
use lib.Dec.{T, eqb, ltb, ltb→lt}
use lib.ListN.{length, get_elem?}
use borrow.Author.Tests.{ne_eqb}
use Rattle.paper.specs.Lists.{with_if}
use Rattle.paper.specs.Bytes.{star_mark, dot_mark, slash_mark, one_mark, colon_mark, open_mark, close_mark, brace_mark, bar_mark, unbrace_mark}
use Rattle.paper.specs.Grammar.{Join, bar, bars, Sequence, Item, Starred, Atom, Body, Interruption, Chain, only, then, plain, until, once, again, named, never, group, single, beside, event, treated, braces, last, next, module_byte, event_byte, join_text, print_s, print_i, print_t, print_a, print_b, print_n, print_c, printed}
use Rattle.paper.specs.Limits.{tokens_from, tokens, over96}
use Rattle.paper.specs.Term.{term_s, term_i, term_t, term_a, term_b, term_n, term_c}
use Rattle.paper.proofs.Choices.{clash}
use Rattle.laws.specs.Weight.{weight, weight_i, room}
use Rattle.laws.specs.Tokens.{count_s, count_i, count_t, count_a, count_b, count_n, count_c}

with-if-length : (c : Bool) (at to : ℕ) (x y : List ℕ) → length x ≡ length y → length (with_if c at x) ≡ length (with_if c to y)
with-if-length true at to x y p = omega arith
with-if-length false at to x y p = p

-- how many there are does not depend on the place
tokens-anywhere : (h : Bool) (at to : ℕ) (v : List ℕ) → length (tokens_from h at v) ≡ length (tokens_from h to v)
unfolding tokens_from
tokens-anywhere h at to [] = refl
tokens-anywhere h at to (b ∷ v) = with-if-length (not (h && eqb b bar_mark)) at to _ _ (tokens-anywhere (not h && eqb b bar_mark) (at + 1) (to + 1) v)

-- after half a `||` (h) or not, and in front of any rest, the text v has n tokens and ends in no half
abbrev Counts : Bool → List ℕ → ℕ → Type 0
Counts h v n = (at : ℕ) (r : List ℕ) → length (tokens_from h at (v ++ r)) ≡ n + length (tokens_from false 0 r)

append-counts : (h : Bool) (v w : List ℕ) (m n : ℕ) → Counts h v m → Counts false w n → Counts h (v ++ w) (m + n)
append-counts h v w m n c d at r = rw (append_assoc v w r) (omega (arith, c at (w ++ r), d 0 r))

-- a byte that is not `|` is a token, whatever stands before it
byte-counts : (h : Bool) (b : ℕ) → eqb b bar_mark ≡ false → Counts h (b ∷ []) 1
unfolding tokens_from
byte-counts true b e at r = rw e (omega (arith, tokens-anywhere false (at + 1) 0 r))
byte-counts false b e at r = rw e (omega (arith, tokens-anywhere false (at + 1) 0 r))

-- a join is one token before a text that no `|` begins
join-counts : (j : Join) (v : List ℕ) (n : ℕ) → ((h : Bool) → Counts h v n) → Counts false (join_text j ++ v) (1 + n)
unfolding tokens_from
join-counts bar v n c at r = omega (arith, c true (at + 1) r)
join-counts bars v n c at r = omega (arith, c false (at + 1 + 1) r)

module-byte : (m : ℕ) → T (ltb m 26) → eqb (module_byte m) bar_mark ≡ false
module-byte m t = ne_eqb (97 + m) 124 (λ e. omega (arith, ltb→lt m 26 t))

event-byte : (e : ℕ) → T (ltb e 26) → eqb (event_byte e) bar_mark ≡ false
event-byte e t = ne_eqb (65 + e) 124 (λ p. omega (arith, ltb→lt e 26 t))

-- a mark or letter b, and after it w
cons-counts : (h : Bool) (b : ℕ) (w : List ℕ) (n : ℕ) → eqb b bar_mark ≡ false → Counts false w n → Counts h (b ∷ w) (1 + n)
cons-counts h b w n e c = append-counts h (b ∷ []) w 1 n (byte-counts h b e) c

-- production by production
mutual
  unfolding print_s count_s

  sequence-counts : (s : Sequence) (h : Bool) → Counts h (print_s s) (count_s s)
  sequence-counts (only i) h = item-counts i h
  sequence-counts (then i s) h = append-counts h (print_i i) (print_s s) (count_i i) (count_s s) (item-counts i h) (sequence-counts s false)

  item-counts : (i : Item) (h : Bool) → Counts h (print_i i) (count_i i)
  item-counts (plain t) h = starred-counts t h
  item-counts (until t n) h =
      append-counts h (print_t t) (slash_mark ∷ print_n n) (count_t t) (1 + count_n n) (starred-counts t h)
      (cons-counts false slash_mark (print_n n) (count_n n) refl (interruption-counts n false))

  starred-counts : (t : Starred) (h : Bool) → Counts h (print_t t) (count_t t)
  starred-counts (once a) h = atom-counts a h
  starred-counts (again a) h = append-counts h (print_a a) (star_mark ∷ []) (count_a a) 1 (atom-counts a h) (byte-counts false star_mark refl)

  atom-counts : (a : Atom) (h : Bool) → Counts h (print_a a) (count_a a)
  atom-counts (named m l) h = byte-counts h (module_byte m) (module-byte m l)
  atom-counts never h = byte-counts h one_mark refl
  atom-counts (group b) h =
      cons-counts h open_mark (print_b b ++ (close_mark ∷ [])) (count_b b + 1) refl
      (append-counts false (print_b b) (close_mark ∷ []) (count_b b) 1 (body-counts b false) (byte-counts false close_mark refl))

  body-counts : (b : Body) (h : Bool) → Counts h (print_b b) (count_b b)
  body-counts (single s) h = sequence-counts s h
  body-counts (beside s b) h =
      append-counts h (print_s s) (bar_mark ∷ bar_mark ∷ print_b b) (count_s s) (1 + count_b b) (sequence-counts s h)
      (join-counts bars (print_b b) (count_b b) (λ k. body-counts b k))

  interruption-counts : (n : Interruption) (h : Bool) → Counts h (print_n n) (count_n n)
  interruption-counts (event e l) h = byte-counts h (event_byte e) (event-byte e l)
  interruption-counts (treated e l i) h =
      cons-counts h (event_byte e) (colon_mark ∷ print_i i) (1 + count_i i) (event-byte e l)
      (cons-counts false colon_mark (print_i i) (count_i i) refl (item-counts i false))
  interruption-counts (braces j n c) h =
      cons-counts h brace_mark (print_n n ++ (print_c j c ++ (unbrace_mark ∷ []))) (count_n n + (count_c c + 1)) refl
      (append-counts false (print_n n) (print_c j c ++ (unbrace_mark ∷ [])) (count_n n) (count_c c + 1) (interruption-counts n false)
      (append-counts false (print_c j c) (unbrace_mark ∷ []) (count_c c) 1 (chain-counts j c) (byte-counts false unbrace_mark refl)))

  chain-counts : (j : Join) (c : Chain) → Counts false (print_c j c) (count_c c)
  chain-counts j (last n) = join-counts j (print_n n) (count_n n) (λ h. interruption-counts n h)
  chain-counts j (next n c) =
      join-counts j (print_n n ++ print_c j c) (count_n n + count_c c)
      (λ h. append-counts h (print_n n) (print_c j c) (count_n n) (count_c c) (interruption-counts n h) (chain-counts j c))

-- with the `.` of the program
pub tokens-counted : (at : ℕ) (s : Sequence) → length (tokens at (printed s)) ≡ count_s s + 1
unfolding tokens printed tokens_from
tokens-counted at s = omega (arith, sequence-counts s false at (dot_mark ∷ []))

-- production by production; an interruption takes 1 at least, as it does in a `||`
mutual
  unfolding term_s weight count_s

  sequence-room : (s : Sequence) → room (term_s s) ≤ count_s s
  sequence-room (only i) = item_room i
  sequence-room (then i s) = omega (arith, item_room i, sequence-room s)

  item_room : (i : Item) → room (term_i i) ≤ count_i i
  item_room (plain t) = starred-room t
  item_room (until t n) = omega (arith, starred-room t, interruption-room n)

  starred-room : (t : Starred) → room (term_t t) ≤ count_t t
  starred-room (once a) = atom-room a
  starred-room (again a) = omega (arith, atom-room a)

  atom-room : (a : Atom) → room (term_a a) ≤ count_a a
  atom-room (named m l) = omega arith
  atom-room never = omega arith
  atom-room (group b) = omega (arith, body-room b)

  body-room : (b : Body) → room (term_b b) ≤ count_b b
  body-room (single s) = sequence-room s
  body-room (beside s b) = omega (arith, sequence-room s, body-room b)

  interruption-room : (n : Interruption) → max 1 (weight_i (term_n n)) ≤ count_n n
  interruption-room (event e l) = omega arith
  interruption-room (treated e l i) = omega (arith, item_room i)
  interruption-room (braces bar n c) = omega (arith, interruption-room n, chain-room bar c)
  interruption-room (braces bars n c) = omega (arith, interruption-room n, chain-room bars c)

  -- the join before it is one token more
  chain-room : (j : Join) (c : Chain) → max 1 (weight_i (term_c j c)) + 1 ≤ count_c c
  chain-room j (last n) = omega (arith, interruption-room n)
  chain-room bar (next n c) = omega (arith, interruption-room n, chain-room bar c)
  chain-room bars (next n c) = omega (arith, interruption-room n, chain-room bars c)

pub room-below : (at : ℕ) (s : Sequence) → room (term_s s) < length (tokens at (printed s))
room-below at s = omega (arith, tokens-counted at s, sequence-room s)

none-there : {A : Type 0} (l : List A) (n : ℕ) → get_elem? l n ≡ none → length l ≤ n
none-there [] n e = omega arith
none-there (x ∷ l) zero e = clash (cc)
none-there (x ∷ l) (suc n) e = omega (arith, none-there l n e)

-- No. 9 does not find a 97th
pub few-tokens : (at : ℕ) (v : List ℕ) → over96 at v ≡ none → length (tokens at v) ≤ 96
unfolding over96
few-tokens at v e = none-there (tokens at v) 96 e
