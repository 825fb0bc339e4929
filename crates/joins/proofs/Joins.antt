-- The `||` of a program, on the tree of nodes: the first in the text that passes a test is the node with the least place that passes, since the
-- places of the text ascend. The test may look at the letters of the two sides, which text and tree share. Assumes nothing.
use Prim.Native.Nat.{ℕ, ◌+◌, ◌<◌, ◌≤◌, min}
use mathlib.Core.Path.{◌≡◌, refl, sym, ap, ◌∙◌}
use mathlib.Core.Bool.{Bool, true, false, cond}
use mathlib.Core.List.{List, [], ◌∷◌, ◌++◌}
use native.Mathlib.Omega.{arith}
use lib.ListN.{length, length-append}
use Rattle.paper.specs.Lists.{has}
use Rattle.paper.specs.Bytes.{star_mark, slash_mark, colon_mark, close_mark, bar_mark, brace_mark, unbrace_mark}
use Rattle.paper.specs.Grammar.{Join, bar, bars, Sequence, Item, Starred, Atom, Body, Interruption, Chain, only, then, plain, until, once, again, named, never, group, single, beside, event, treated, braces, last, next, event_byte, join_text, print_s, print_i, print_t, print_a, print_b, print_n, print_c}
use Rattle.paper.specs.Limits.{Bars, chain_bars, bars_s, bars_i, bars_t, bars_a, bars_b, bars_n, bars_c, first_bars}
use Rattle.laws.specs.Placed.{Tree, leaf, join, seq_code, both_code, join_code, placed_s, placed_i, placed_t, placed_a, placed_b, placed_n, placed_c}
use Rattle.stars.specs.Nodes.{far, is_bars, sharing}
use Rattle.stars.proofs.Least.{fold, least_t, least_t-top}
use Rattle.stars.proofs.Sits.{Sits, nowhere, or_else, or_else-cond, sits-is, sits-finds, sits-both, sits-one, sits-wide}
use Rattle.joins.proofs.Uses.{is_alpha, sequence-uses, body-uses, interruption-uses, chain-uses}

-- text and tree have the same letters
abbrev pub Says : List ℕ → Tree → Type 0
Says v t = (x : ℕ) → is_alpha x ≡ true → has x v ≡ fold (sharing x) t

first-append : (q : Bars → Bool) (xs ys : List Bars) → first_bars q (xs ++ ys) ≡ or_else (first_bars q xs) (first_bars q ys)
unfolding first_bars
first-append q [] ys = refl
first-append q (x ∷ xs) ys = or_else-cond (q x) x.place _ _ _ (first-append q xs ys)

join-long : (j : Join) → 1 ≤ length (join_text j)
join-long bar = omega arith
join-long bars = omega arith

chain_length : (j : Join) (c : Chain) → 1 ≤ length (print_c j c)
unfolding print_s
chain_length j (last n) = omega (arith, join-long j, length-append (join_text j) (print_n n))
chain_length j (next n c) = omega (arith, join-long j, length-append (join_text j) (print_n n ++ print_c j c))

-- q on the text is p on the tree, and p passes no other node
module _ (q : Bars → Bool) (p : ℕ → Tree → Tree → Bool)
    (agree : (at : ℕ) (v w : List ℕ) (t u : Tree) (b : Bool) → Says v t → Says w u
    → q (record { place = at; left = v; right = w; in_braces = b }) ≡ p (cond b both_code bar_mark) t u)
    (quiet : (c : ℕ) (t u : Tree) → is_bars c ≡ false → p c t u ≡ false) where
  abbrev L : Tree → ℕ
  L t = least_t (λ t. false) p t

  -- a join that is no `||`
  quiet-join : (lo mid hi c at : ℕ) (t u : Tree) (xs ys : List Bars) → is_bars c ≡ false → lo ≤ mid → mid ≤ hi → hi ≤ far
      → Sits lo mid (first_bars q xs) (L t) → Sits mid hi (first_bars q ys) (L u) → Sits lo hi (first_bars q (xs ++ ys)) (L (join c at t u))
  unfolding least_t
  quiet-join lo mid hi c at t u xs ys e a b h x y =
      let m = min (L t) (L u) in
      let k : m ≡ min m far = omega (arith, least_t-top (λ t. false) p t) in
      sits-finds (first_bars q (xs ++ ys)) (sym (first-append q xs ys))
      (sits-is (L (join c at t u)) (k ∙ ap (λ (b : Bool). min m (cond b at far)) (sym (quiet c t u e))) (sits-both lo mid hi a b h x y))

  -- a `||` at its place, between its sides
  own-join : (lo at hi c : ℕ) (t u : Tree) (xs own ys : List Bars) → lo ≤ at → at < hi → hi ≤ far → Sits lo at (first_bars q xs) (L t)
      → Sits at (at + 1) (first_bars q own) (cond (p c t u) at far) → Sits (at + 1) hi (first_bars q ys) (L u)
      → Sits lo hi (first_bars q (xs ++ (own ++ ys))) (L (join c at t u))
  unfolding least_t
  own-join lo at hi c t u xs own ys a b h x o y =
      let k = cond (p c t u) at far in
      sits-finds (first_bars q (xs ++ (own ++ ys))) (sym (first-append q xs (own ++ ys)))
      (sits-is (L (join c at t u)) (omega arith)
      (sits-both lo at hi a (omega arith) h x
      (sits-finds (first_bars q (own ++ ys)) (sym (first-append q own ys)) (sits-both at (at + 1) hi (omega arith) (omega arith) h o y))))

  beside-own : (at : ℕ) (v w : List ℕ) (t u : Tree) → Says v t → Says w u
      → Sits at (at + 1) (first_bars q (record { place = at; left = v; right = w; in_braces = false } ∷ [])) (cond (p bar_mark t u) at far)
  unfolding first_bars
  beside-own at v w t u x y =
      sits-is (cond (p bar_mark t u) at far) (ap (λ (b : Bool). cond b at far) (agree at v w t u false x y))
      (sits-one at (at + 1) (q (record { place = at; left = v; right = w; in_braces = false })) at (omega arith) (omega arith))

  chain-own : (j : Join) (at : ℕ) (v w : List ℕ) (t u : Tree) → Says v t → Says w u
      → Sits at (at + 1) (first_bars q (chain_bars j at v w)) (cond (p (join_code j) t u) at far)
  unfolding first_bars
  chain-own bar at v w t u x y = sits-is (cond (p (join_code bar) t u) at far) (ap (λ (b : Bool). cond b at far) (sym (quiet (join_code bar) t u refl))) nowhere
  chain-own bars at v w t u x y =
      sits-is (cond (p (join_code bars) t u) at far) (ap (λ (b : Bool). cond b at far) (agree at v w t u true x y))
      (sits-one at (at + 1) (q (record { place = at; left = v; right = w; in_braces = true })) at (omega arith) (omega arith))

  mutual
    unfolding placed_s least_t bars_s print_s first_bars

    pub sequence-joins : (at : ℕ) (s : Sequence) → at + length (print_s s) ≤ far → Sits at (at + length (print_s s)) (first_bars q (bars_s at s)) (L (placed_s at s))
    sequence-joins at (only i) h = item-joins at i h
    sequence-joins at (then i s) h =
        let n = length-append (print_i i) (print_s s) in
        let to = at + length (print_i i) in
        quiet-join at to (at + length (print_i i ++ print_s s)) seq_code 0 (placed_i at i) (placed_s to s) (bars_i at i) (bars_s to s) refl (omega arith) (omega arith) h
        (item-joins at i (omega arith)) (sits-wide to (to + length (print_s s)) _ _ (omega arith) (omega arith) (sequence-joins to s (omega arith)))

    item-joins : (at : ℕ) (i : Item) → at + length (print_i i) ≤ far → Sits at (at + length (print_i i)) (first_bars q (bars_i at i)) (L (placed_i at i))
    item-joins at (plain t) h = starred-joins at t h
    item-joins at (until t n) h =
        let l = length-append (print_t t) (slash_mark ∷ print_n n) in
        let mid = at + length (print_t t) in
        let to = at + length (print_t t) + 1 in
        quiet-join at mid (at + length (print_t t ++ (slash_mark ∷ print_n n))) slash_mark mid (placed_t at t) (placed_n to n) (bars_t at t) (bars_n to n) refl (omega arith) (omega arith) h
        (starred-joins at t (omega arith)) (sits-wide to (to + length (print_n n)) _ _ (omega arith) (omega arith) (interruption-joins to n (omega arith)))

    starred-joins : (at : ℕ) (t : Starred) → at + length (print_t t) ≤ far → Sits at (at + length (print_t t)) (first_bars q (bars_t at t)) (L (placed_t at t))
    starred-joins at (once a) h = atom-joins at a h
    starred-joins at (again a) h =
        let l = length-append (print_a a) (star_mark ∷ []) in
        sits-is (min (L (placed_a at a)) far) (omega (arith, least_t-top (λ t. false) p (placed_a at a)))
        (sits-wide at (at + length (print_a a)) _ _ (omega arith) (omega arith) (atom-joins at a (omega arith)))

    atom-joins : (at : ℕ) (a : Atom) → at + length (print_a a) ≤ far → Sits at (at + length (print_a a)) (first_bars q (bars_a at a)) (L (placed_a at a))
    atom-joins at (named m l) h = nowhere
    atom-joins at never h = nowhere
    atom-joins at (group b) h =
        let l = length-append (print_b b) (close_mark ∷ []) in
        sits-wide (at + 1) (at + 1 + length (print_b b)) _ _ (omega arith) (omega arith) (body-joins (at + 1) b (omega arith))

    body-joins : (at : ℕ) (b : Body) → at + length (print_b b) ≤ far → Sits at (at + length (print_b b)) (first_bars q (bars_b at b)) (L (placed_b at b))
    body-joins at (single s) h = sequence-joins at s h
    body-joins at (beside s b) h =
        let l = length-append (print_s s) (bar_mark ∷ bar_mark ∷ print_b b) in
        let mid = at + length (print_s s) in
        let to = at + length (print_s s) + 2 in
        own-join at mid (at + length (print_s s ++ (bar_mark ∷ bar_mark ∷ print_b b))) bar_mark (placed_s at s) (placed_b to b) (bars_s at s)
        (record { place = mid; left = print_s s; right = print_b b; in_braces = false } ∷ []) (bars_b to b) (omega arith) (omega arith) h
        (sequence-joins at s (omega arith))
        (beside-own mid (print_s s) (print_b b) (placed_s at s) (placed_b to b) (λ x a. sequence-uses x a at s) (λ x a. body-uses x a to b))
        (sits-wide to (to + length (print_b b)) _ _ (omega arith) (omega arith) (body-joins to b (omega arith)))

    interruption-joins : (at : ℕ) (n : Interruption) → at + length (print_n n) ≤ far → Sits at (at + length (print_n n)) (first_bars q (bars_n at n)) (L (placed_n at n))
    interruption-joins at (event e l) h = nowhere
    interruption-joins at (treated e l i) h =
        quiet-join at (at + 2) (at + length (event_byte e ∷ colon_mark ∷ print_i i)) colon_mark (at + 1) (leaf (event_byte e) at) (placed_i (at + 2) i) [] (bars_i (at + 2) i) refl
        (omega arith) (omega arith) h nowhere (sits-wide (at + 2) (at + 2 + length (print_i i)) _ _ (omega arith) (omega arith) (item-joins (at + 2) i (omega arith)))
    interruption-joins at (braces j n c) h =
        let l = length-append (print_n n) (print_c j c ++ (unbrace_mark ∷ [])) in
        let k = length-append (print_c j c) (unbrace_mark ∷ []) in
        let to = at + 1 + length (print_n n) in
        own-join at to (at + length (brace_mark ∷ (print_n n ++ (print_c j c ++ (unbrace_mark ∷ []))))) (join_code j) (placed_n (at + 1) n) (placed_c j to c) (bars_n (at + 1) n)
        (chain_bars j to (print_n n) (print_c j c)) (bars_c j to c) (omega arith) (omega arith) h
        (sits-wide (at + 1) to _ _ (omega arith) (omega arith) (interruption-joins (at + 1) n (omega arith)))
        (chain-own j to (print_n n) (print_c j c) (placed_n (at + 1) n) (placed_c j to c) (λ x a. interruption-uses x a (at + 1) n) (λ x a. chain-uses x a j to c))
        (sits-wide (to + length (join_text j)) (to + length (print_c j c)) _ _ (omega (arith, join-long j)) (omega arith) (chain-joins j to c (omega arith)))

    chain-joins : (j : Join) (at : ℕ) (c : Chain) → at + length (print_c j c) ≤ far
        → Sits (at + length (join_text j)) (at + length (print_c j c)) (first_bars q (bars_c j at c)) (L (placed_c j at c))
    chain-joins j at (last n) h =
        let l = length-append (join_text j) (print_n n) in
        sits-wide (at + length (join_text j)) (at + length (join_text j) + length (print_n n)) _ _ (omega arith) (omega arith)
        (interruption-joins (at + length (join_text j)) n (omega arith))
    chain-joins j at (next n c) h =
        let l = length-append (join_text j) (print_n n ++ print_c j c) in
        let k = length-append (print_n n) (print_c j c) in
        let from = at + length (join_text j) in
        let to = from + length (print_n n) in
        let long = chain_length j c in
        own-join from to (at + length (join_text j ++ (print_n n ++ print_c j c))) (join_code j) (placed_n from n) (placed_c j to c) (bars_n from n)
        (chain_bars j to (print_n n) (print_c j c)) (bars_c j to c) (omega arith) (omega arith) h
        (interruption-joins from n (omega arith))
        (chain-own j to (print_n n) (print_c j c) (placed_n from n) (placed_c j to c) (λ x a. interruption-uses x a from n) (λ x a. chain-uses x a j to c))
        (sits-wide (to + length (join_text j)) (to + length (print_c j c)) _ _ (omega (arith, join-long j)) (omega arith) (chain-joins j to c (omega arith)))
