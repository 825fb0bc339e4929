-- No. 9's stars, on the tree of nodes: how many nest in a part is what its tree is worth, and the first star over three is the one with the least
-- place, since the stars of the text ascend. Assumes nothing.
use Prim.Native.Nat.{ℕ, suc, ◌+◌, ◌<◌, ◌≤◌, min, max}
use mathlib.Core.Path.{◌≡◌, refl, sym, ap, ◌∙◌}
use mathlib.Core.Bool.{Bool, false, cond, ◌&&◌, ◌||◌}
use mathlib.Core.List.{List, [], ◌∷◌, ◌++◌}
use native.Mathlib.Numerals.{add-one}
use native.Mathlib.Omega.{arith}
use lib.Dec.{T, eqb, leb, ltb, ltb→lt}
use lib.ListN.{length, length-append}
use borrow.Author.Tests.{ne_eqb}
use Rattle.paper.specs.Bytes.{star_mark, slash_mark, colon_mark, close_mark, bar_mark, brace_mark, unbrace_mark}
use Rattle.paper.specs.Grammar.{Join, bar, bars, Sequence, Item, Starred, Atom, Body, Interruption, Chain, only, then, plain, until, once, again, named, never, group, single, beside, event, treated, braces, last, next, module_byte, event_byte, join_text, print_s, print_i, print_t, print_a, print_b, print_n, print_c}
use Rattle.paper.specs.Limits.{Starry, nest_s, nest_i, nest_t, nest_a, nest_b, nest_n, nest_c, stars_s, stars_i, stars_t, stars_a, stars_b, stars_n, stars_c, three_nested}
use Rattle.laws.specs.Placed.{Tree, leaf, join, seq_code, join_code, placed_s, placed_i, placed_t, placed_a, placed_b, placed_n, placed_c}
use Rattle.stars.specs.Nodes.{far, is_star, is_bars, is_join, nest, nesting}
use Rattle.stars.proofs.Least.{fold, least_t, least, least_t-top, LeafCode, Leafy, Lawful}
use Rattle.stars.proofs.Sits.{Sits, nowhere, or_else, or_else-cond, sits-is, sits-finds, sits-both, sits-one, sits-wide}

-- a letter's byte is no mark's code
or-none : (a b : Bool) → a ≡ false → b ≡ false → (a || b) ≡ false
or-none a b p q = ap (λ (x : Bool). x || b) p ∙ q

pub letter-leaf : (b : ℕ) → 64 < b → b < 124 → LeafCode b
letter-leaf b p q =
    let low : (c : ℕ) → c < 64 → eqb b c ≡ false = λ c (h : c < 64). ne_eqb b c (λ (e : b ≡ c). omega arith) in (
      low 42 (omega arith),
      or-none (is_bars b || eqb b 59 || eqb b 47 || eqb b 58) (eqb b 33)
          (or-none (is_bars b || eqb b 59 || eqb b 47) (eqb b 58)
          (or-none (is_bars b || eqb b 59) (eqb b 47)
          (or-none (is_bars b) (eqb b 59)
          (or-none (eqb b 124) (eqb b 38) (ne_eqb b 124 (λ (e : b ≡ 124). omega arith)) (low 38 (omega arith)))
          (low 59 (omega arith)))
          (low 47 (omega arith)))
          (low 58 (omega arith)))
          (low 33 (omega arith)),
    )

pub module-leaf : (m : ℕ) → T (ltb m 26) → LeafCode (module_byte m)
module-leaf m h = letter-leaf (97 + m) (omega arith) (omega (arith, ltb→lt m 26 h))

pub event-leaf : (e : ℕ) → T (ltb e 26) → LeafCode (event_byte e)
event-leaf e h = letter-leaf (65 + e) (omega arith) (omega (arith, ltb→lt e 26 h))

-- production by production: leaves are letters or `1`
mutual
  unfolding placed_s Leafy

  pub sequence-leafy : (at : ℕ) (s : Sequence) → Leafy (placed_s at s)
  sequence-leafy at (only i) = item-leafy at i
  sequence-leafy at (then i s) = (item-leafy at i, sequence-leafy (at + length (print_i i)) s)

  item-leafy : (at : ℕ) (i : Item) → Leafy (placed_i at i)
  item-leafy at (plain t) = starred-leafy at t
  item-leafy at (until t n) = (starred-leafy at t, interruption-leafy (at + length (print_t t) + 1) n)

  starred-leafy : (at : ℕ) (t : Starred) → Leafy (placed_t at t)
  starred-leafy at (once a) = atom-leafy at a
  starred-leafy at (again a) = atom-leafy at a

  atom-leafy : (at : ℕ) (a : Atom) → Leafy (placed_a at a)
  atom-leafy at (named m h) = module-leaf m h
  atom-leafy at never = (refl, refl)
  atom-leafy at (group b) = body-leafy (at + 1) b

  body-leafy : (at : ℕ) (b : Body) → Leafy (placed_b at b)
  body-leafy at (single s) = sequence-leafy at s
  body-leafy at (beside s b) = (sequence-leafy at s, body-leafy (at + length (print_s s) + 2) b)

  interruption-leafy : (at : ℕ) (n : Interruption) → Leafy (placed_n at n)
  interruption-leafy at (event e h) = event-leaf e h
  interruption-leafy at (treated e h i) = (event-leaf e h, item-leafy (at + 2) i)
  interruption-leafy at (braces j n c) = (interruption-leafy (at + 1) n, chain-leafy j (at + 1 + length (print_n n)) c)

  chain-leafy : (j : Join) (at : ℕ) (c : Chain) → Leafy (placed_c j at c)
  chain-leafy j at (last n) = interruption-leafy (at + length (join_text j)) n
  chain-leafy j at (next n c) =
      (interruption-leafy (at + length (join_text j)) n, chain-leafy j (at + length (join_text j) + length (print_n n)) c)

-- the rule of nesting
nest-leaf : (c y z : ℕ) → LeafCode c → nest c y z ≡ 0
nest-leaf c y z k =
    ap (λ (b : Bool). cond b (z + 1) (cond (is_join c) (max y z) 0)) k.0 ∙ ap (λ (b : Bool). cond b (max y z) 0) k.1

pub nesting-lawful : Lawful nesting
nesting-lawful = record {
  leaf_worth = λ c k y z. nest-leaf c y z k ∙ sym (nest-leaf c 0 0 k);
  leaf_passes = λ c k y z. ap (λ (b : Bool). b && leb 3 z) k.0;
  star_worth = λ y z. refl;
  star_passes = λ y z. refl;
}

nest-join : (j : Join) (y z : ℕ) → nest (join_code j) y z ≡ max y z
nest-join bar y z = refl
nest-join bars y z = refl

max-same : (a b c d : ℕ) → a ≡ b → c ≡ d → max a c ≡ max b d
max-same a b c d p q = omega arith

-- production by production: how many stars nest
mutual
  unfolding placed_s fold nest_s

  sequence-nest : (at : ℕ) (s : Sequence) → fold nesting (placed_s at s) ≡ nest_s s
  sequence-nest at (only i) = item-nest at i
  sequence-nest at (then i s) = max-same _ _ _ _ (item-nest at i) (sequence-nest (at + length (print_i i)) s)

  item-nest : (at : ℕ) (i : Item) → fold nesting (placed_i at i) ≡ nest_i i
  item-nest at (plain t) = starred-nest at t
  item-nest at (until t n) = max-same _ _ _ _ (starred-nest at t) (interruption-nest (at + length (print_t t) + 1) n)

  starred-nest : (at : ℕ) (t : Starred) → fold nesting (placed_t at t) ≡ nest_t t
  starred-nest at (once a) = atom-nest at a
  starred-nest at (again a) = add-one (fold nesting (placed_a at a)) ∙ ap suc (atom-nest at a)

  atom-nest : (at : ℕ) (a : Atom) → fold nesting (placed_a at a) ≡ nest_a a
  atom-nest at (named m h) = nest-leaf (module_byte m) 0 0 (module-leaf m h)
  atom-nest at never = refl
  atom-nest at (group b) = body-nest (at + 1) b

  body-nest : (at : ℕ) (b : Body) → fold nesting (placed_b at b) ≡ nest_b b
  body-nest at (single s) = sequence-nest at s
  body-nest at (beside s b) = max-same _ _ _ _ (sequence-nest at s) (body-nest (at + length (print_s s) + 2) b)

  interruption-nest : (at : ℕ) (n : Interruption) → fold nesting (placed_n at n) ≡ nest_n n
  interruption-nest at (event e h) = nest-leaf (event_byte e) 0 0 (event-leaf e h)
  interruption-nest at (treated e h i) =
      let z : nest (event_byte e) 0 0 ≡ 0 = nest-leaf (event_byte e) 0 0 (event-leaf e h) in
      omega (arith, z, item-nest (at + 2) i)
  interruption-nest at (braces j n c) =
      nest-join j _ _ ∙ max-same _ _ _ _ (interruption-nest (at + 1) n) (chain-nest j (at + 1 + length (print_n n)) c)

  chain-nest : (j : Join) (at : ℕ) (c : Chain) → fold nesting (placed_c j at c) ≡ nest_c c
  chain-nest j at (last n) = interruption-nest (at + length (join_text j)) n
  chain-nest j at (next n c) =
      nest-join j _ _
      ∙ max-same _ _ _ _ (interruption-nest (at + length (join_text j)) n) (chain-nest j (at + length (join_text j) + length (print_n n)) c)

-- stars side by side
nested-append : (xs ys : List Starry) → three_nested (xs ++ ys) ≡ or_else (three_nested xs) (three_nested ys)
nested-append [] ys = refl
nested-append (x ∷ xs) ys = or_else-cond (leb 3 x.nested) x.place _ _ _ (nested-append xs ys)

-- a join's own node is no star
stars_join : (lo mid hi c p : ℕ) (t u : Tree) (xs ys : List Starry) → is_star c ≡ false → lo ≤ mid → mid ≤ hi → hi ≤ far
    → Sits lo mid (three_nested xs) (least nesting t) → Sits mid hi (three_nested ys) (least nesting u)
    → Sits lo hi (three_nested (xs ++ ys)) (least nesting (join c p t u))
unfolding least_t
stars_join lo mid hi c p t u xs ys e a b h x y =
    let m = min (least nesting t) (least nesting u) in
    let n : m ≡ min m (cond (is_star c && leb 3 (fold nesting u)) p far) =
    ap (λ (k : ℕ). k) (omega (arith, least_t-top (λ t. leb 3 (fold nesting t)) (λ c t u. is_star c && leb 3 (fold nesting u)) t))
    ∙ ap (λ (k : Bool). min m (cond (k && leb 3 (fold nesting u)) p far)) (sym e) in
    sits-finds (three_nested (xs ++ ys)) (sym (nested-append xs ys)) (sits-is (least nesting (join c p t u)) n (sits-both lo mid hi a b h x y))

join-no-star : (j : Join) → is_star (join_code j) ≡ false
join-no-star bar = refl
join-no-star bars = refl

-- production by production: the first star over three, between the ends of the text
mutual
  unfolding placed_s least_t stars_s print_s

  pub sequence-stars : (at : ℕ) (s : Sequence) → at + length (print_s s) ≤ far
      → Sits at (at + length (print_s s)) (three_nested (stars_s at s)) (least nesting (placed_s at s))
  sequence-stars at (only i) h = item-stars at i h
  sequence-stars at (then i s) h =
      let n = length-append (print_i i) (print_s s) in
      stars_join at (at + length (print_i i)) (at + length (print_i i ++ print_s s)) seq_code 0 (placed_i at i) (placed_s (at + length (print_i i)) s)
      (stars_i at i) (stars_s (at + length (print_i i)) s) refl (omega arith) (omega arith) h (item-stars at i (omega arith))
      (sits-wide (at + length (print_i i)) (at + length (print_i i) + length (print_s s)) _ _ (omega arith) (omega arith)
      (sequence-stars (at + length (print_i i)) s (omega arith)))

  item-stars : (at : ℕ) (i : Item) → at + length (print_i i) ≤ far → Sits at (at + length (print_i i)) (three_nested (stars_i at i)) (least nesting (placed_i at i))
  item-stars at (plain t) h = starred-stars at t h
  item-stars at (until t n) h =
      let l = length-append (print_t t) (slash_mark ∷ print_n n) in
      let to = at + length (print_t t) + 1 in
      stars_join at (at + length (print_t t)) (at + length (print_t t ++ (slash_mark ∷ print_n n))) slash_mark (at + length (print_t t)) (placed_t at t) (placed_n to n)
      (stars_t at t) (stars_n to n) refl (omega arith) (omega arith) h (starred-stars at t (omega arith))
      (sits-wide to (to + length (print_n n)) _ _ (omega arith) (omega arith) (interruption-stars to n (omega arith)))

  starred-stars : (at : ℕ) (t : Starred) → at + length (print_t t) ≤ far
      → Sits at (at + length (print_t t)) (three_nested (stars_t at t)) (least nesting (placed_t at t))
  starred-stars at (once a) h = atom-stars at a h
  starred-stars at (again a) h =
      let l = length-append (print_a a) (star_mark ∷ []) in
      let p = at + length (print_a a) in
      sits-finds _ (sym (nested-append (stars_a at a) (record { place = p; nested = nest_a a } ∷ [])))
      (sits-both at p (at + length (print_a a ++ (star_mark ∷ []))) (omega arith) (omega arith) h (atom-stars at a (omega arith))
      (sits-is (cond (leb 3 (fold nesting (placed_a at a))) p far) (ap (λ (k : ℕ). cond (leb 3 k) p far) (sym (atom-nest at a)))
      (sits-one p (at + length (print_a a ++ (star_mark ∷ []))) (leb 3 (nest_a a)) p (omega arith) (omega arith))))

  atom-stars : (at : ℕ) (a : Atom) → at + length (print_a a) ≤ far → Sits at (at + length (print_a a)) (three_nested (stars_a at a)) (least nesting (placed_a at a))
  atom-stars at (named m l) h = nowhere
  atom-stars at never h = nowhere
  atom-stars at (group b) h =
      let l = length-append (print_b b) (close_mark ∷ []) in
      sits-wide (at + 1) (at + 1 + length (print_b b)) _ _ (omega arith) (omega arith) (body-stars (at + 1) b (omega arith))

  body-stars : (at : ℕ) (b : Body) → at + length (print_b b) ≤ far → Sits at (at + length (print_b b)) (three_nested (stars_b at b)) (least nesting (placed_b at b))
  body-stars at (single s) h = sequence-stars at s h
  body-stars at (beside s b) h =
      let l = length-append (print_s s) (bar_mark ∷ bar_mark ∷ print_b b) in
      let to = at + length (print_s s) + 2 in
      stars_join at (at + length (print_s s)) (at + length (print_s s ++ (bar_mark ∷ bar_mark ∷ print_b b))) bar_mark (at + length (print_s s)) (placed_s at s) (placed_b to b)
      (stars_s at s) (stars_b to b) refl (omega arith) (omega arith) h (sequence-stars at s (omega arith))
      (sits-wide to (to + length (print_b b)) _ _ (omega arith) (omega arith) (body-stars to b (omega arith)))

  interruption-stars : (at : ℕ) (n : Interruption) → at + length (print_n n) ≤ far
      → Sits at (at + length (print_n n)) (three_nested (stars_n at n)) (least nesting (placed_n at n))
  interruption-stars at (event e l) h = nowhere
  interruption-stars at (treated e l i) h =
      stars_join at (at + 2) (at + length (event_byte e ∷ colon_mark ∷ print_i i)) colon_mark (at + 1) (leaf (event_byte e) at) (placed_i (at + 2) i)
      [] (stars_i (at + 2) i) refl (omega arith) (omega arith) h nowhere
      (sits-wide (at + 2) (at + 2 + length (print_i i)) _ _ (omega arith) (omega arith) (item-stars (at + 2) i (omega arith)))
  interruption-stars at (braces j n c) h =
      let l = length-append (print_n n) (print_c j c ++ (unbrace_mark ∷ [])) in
      let k = length-append (print_c j c) (unbrace_mark ∷ []) in
      let to = at + 1 + length (print_n n) in
      stars_join at to (at + length (brace_mark ∷ (print_n n ++ (print_c j c ++ (unbrace_mark ∷ []))))) (join_code j) to (placed_n (at + 1) n) (placed_c j to c)
      (stars_n (at + 1) n) (stars_c j to c) (join-no-star j) (omega arith) (omega arith) h
      (sits-wide (at + 1) to _ _ (omega arith) (omega arith) (interruption-stars (at + 1) n (omega arith)))
      (sits-wide to (to + length (print_c j c)) _ _ (omega arith) (omega arith) (chain-stars j to c (omega arith)))

  chain-stars : (j : Join) (at : ℕ) (c : Chain) → at + length (print_c j c) ≤ far
      → Sits at (at + length (print_c j c)) (three_nested (stars_c j at c)) (least nesting (placed_c j at c))
  chain-stars j at (last n) h =
      let l = length-append (join_text j) (print_n n) in
      sits-wide (at + length (join_text j)) (at + length (join_text j) + length (print_n n)) _ _ (omega arith) (omega arith)
      (interruption-stars (at + length (join_text j)) n (omega arith))
  chain-stars j at (next n c) h =
      let l = length-append (join_text j) (print_n n ++ print_c j c) in
      let k = length-append (print_n n) (print_c j c) in
      let from = at + length (join_text j) in
      let to = from + length (print_n n) in
      stars_join at to (at + length (join_text j ++ (print_n n ++ print_c j c))) (join_code j) to (placed_n from n) (placed_c j to c)
      (stars_n from n) (stars_c j to c) (join-no-star j) (omega arith) (omega arith) h
      (sits-wide from to _ _ (omega arith) (omega arith) (interruption-stars from n (omega arith)))
      (sits-wide to (to + length (print_c j c)) _ _ (omega arith) (omega arith) (chain-stars j to c (omega arith)))
