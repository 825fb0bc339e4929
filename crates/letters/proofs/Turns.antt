-- A turn of each loop over a text. A check on what is left of the text, `drop i s`, is its first step and the check on `drop (i + 1) s`, so each
-- invariant says: the whole answer is the answer from i on. Assumes nothing.
use Prim.Native.Nat.{ℕ, suc, ◌+◌, ◌-◌, ◌<◌, ◌≤◌}
use mathlib.Core.Path.{◌≡◌, refl, sym, ap, ◌∙◌}
use mathlib.Core.Bool.{Bool, true, false, cond, not, ◌&&◌}
use mathlib.Core.List.{List, [], ◌∷◌, ◌++◌}
use mathlib.Core.Option.{Option, none, some}
use native.Mathlib.Numerals.{add-one}
use native.Mathlib.Omega.{arith}
use lib.Dec.{eqb, leb}
use lib.ListN.{length, drop, take, get_or, get_elem?, length-take, drop_of_length-le}
use lib.Seq.{drop-cons, slice, slice-cons, get_or-take, get_or-drop}
use borrow.Author.Tests.{leb-false}
use Rattle.paper.specs.Lists.{with_if, has, first_place}
use Rattle.paper.specs.Bytes.{bar_mark}
use Rattle.paper.specs.Grammar.{event_byte}
use Rattle.paper.specs.File.{Listed, listed_from}
use Rattle.paper.specs.Limits.{tokens_from, is_opening, is_closing, open_after, deeper, unused, is_new, ninth_from}

pub drop-one : (s : List ℕ) (i : ℕ) → i < length s → drop i s ≡ get_or s i 0 ∷ drop (i + 1) s
drop-one s i h = drop-cons s i 0 h ∙ ap (λ (n : ℕ). get_or s i 0 ∷ drop n s) (sym (add-one i))

-- a test's two ways
pub cond-true : {A : Type 0} (t : Bool) (x y : A) → t ≡ true → cond t x y ≡ x
cond-true t x y e = ap (λ (u : Bool). cond u x y) e

pub cond-false : {A : Type 0} (t : Bool) (x y : A) → t ≡ false → cond t x y ≡ y
cond-false t x y e = ap (λ (u : Bool). cond u x y) e

-- tokens: the byte at i begins one (t), or does not
module _ (s : List ℕ) (h : Bool) (i c : ℕ) (below : i < length s) (t : Bool) (is : t ≡ not (h && eqb (get_or s i 0) bar_mark)) where
  rest : List ℕ
  rest = tokens_from (not h && eqb (get_or s i 0) bar_mark) (i + 1) (drop (i + 1) s)

  tokens-one : tokens_from h i (drop i s) ≡ with_if t i rest
  unfolding tokens_from rest
  tokens-one = ap (tokens_from h i) (drop-one s i below) ∙ ap (λ (u : Bool). with_if u i rest) (sym is)

  pub token-here : t ≡ true → c ≡ 96 → get_elem? (tokens_from h i (drop i s)) (96 - c) ≡ some i
  token-here e p =
      ap (λ (k : ℕ). get_elem? (tokens_from h i (drop i s)) (96 - k)) p
      ∙ (ap (λ (l : List ℕ). get_elem? l 0) tokens-one ∙ ap (λ (u : Bool). get_elem? (with_if u i rest) 0) e)

  pub token-next : (h' : Bool) → h' ≡ (not h && eqb (get_or s i 0) bar_mark) → t ≡ true → c < 96
      → get_elem? (tokens_from h i (drop i s)) (96 - c) ≡ get_elem? (tokens_from h' (i + 1) (drop (i + 1) s)) (96 - (c + 1))
  unfolding rest
  token-next h' q e p =
      let k : 96 - c ≡ suc (96 - (c + 1)) = omega arith in
      ap (λ (n : ℕ). get_elem? (tokens_from h i (drop i s)) n) k
      ∙ (ap (λ (l : List ℕ). get_elem? l (suc (96 - (c + 1)))) (tokens-one ∙ ap (λ (u : Bool). with_if u i rest) e)
      ∙ ap (λ (u : Bool). get_elem? (tokens_from u (i + 1) (drop (i + 1) s)) (96 - (c + 1))) (sym q))

  pub token-half : (h' : Bool) → h' ≡ (not h && eqb (get_or s i 0) bar_mark) → t ≡ false
      → get_elem? (tokens_from h i (drop i s)) (96 - c) ≡ get_elem? (tokens_from h' (i + 1) (drop (i + 1) s)) (96 - c)
  unfolding rest
  token-half h' q e =
      ap (λ (l : List ℕ). get_elem? l (96 - c)) (tokens-one ∙ ap (λ (u : Bool). with_if u i rest) e)
      ∙ ap (λ (u : Bool). get_elem? (tokens_from u (i + 1) (drop (i + 1) s)) (96 - c)) (sym q)

pub tokens-end : (s : List ℕ) (h : Bool) (i k : ℕ) → length s ≤ i → get_elem? (tokens_from h i (drop i s)) k ≡ none
unfolding tokens_from
tokens-end s h i k p = ap (λ (l : List ℕ). get_elem? (tokens_from h i l) k) (drop_of_length-le s p)

-- brackets and braces
pub deeper-one : (s : List ℕ) (d i : ℕ) → i < length s
    → deeper d i (drop i s) ≡ cond (is_opening (get_or s i 0) && leb 16 d) (some i) (deeper (open_after d (get_or s i 0)) (i + 1) (drop (i + 1) s))
unfolding deeper
deeper-one s d i h = ap (deeper d i) (drop-one s i h)

-- at most 16 are open, where none opens a 17th
open-few-by : (o c : Bool) (d : ℕ) → (o && leb 16 d) ≡ false → d ≤ 16 → cond o (d + 1) (cond c (d - 1) d) ≤ 16
open-few-by true c d e h = omega (arith, leb-false 16 d e)
open-few-by false true d e h = omega arith
open-few-by false false d e h = h

pub open-few : (d b : ℕ) → (is_opening b && leb 16 d) ≡ false → d ≤ 16 → open_after d b ≤ 16
open-few d b e h = open-few-by (is_opening b) (is_closing b) d e h

pub deeper-end : (s : List ℕ) (d i : ℕ) → length s ≤ i → deeper d i (drop i s) ≡ none
unfolding deeper
deeper-end s d i p = ap (deeper d i) (drop_of_length-le s p)

-- the first byte that passes
pub first_one : (p : ℕ → Bool) (s : List ℕ) (i : ℕ) → i < length s
    → first_place p i (drop i s) ≡ cond (p (get_or s i 0)) (some i) (first_place p (i + 1) (drop (i + 1) s))
unfolding first_place
first_one p s i h = ap (first_place p i) (drop-one s i h)

pub first-end : (p : ℕ → Bool) (s : List ℕ) (i : ℕ) → length s ≤ i → first_place p i (drop i s) ≡ none
unfolding first_place
first-end p s i h = ap (first_place p i) (drop_of_length-le s h)

-- the letters of a list
pub unused-one : (v f : List ℕ) (i to : ℕ) → i < to → to ≤ length f
    → unused v (listed_from i (slice i to f)) ≡ cond (has (event_byte (get_or f i 0 - 65)) v) (unused v (listed_from (i + 1) (slice (i + 1) to f))) (some i)
unfolding unused listed_from
unused-one v f i to h k =
    ap (λ (l : List ℕ). unused v (listed_from i l))
    (slice-cons i to f 0 h k ∙ ap (λ (n : ℕ). get_or f i 0 ∷ slice n to f) (sym (add-one i)))

pub slice-end : (f : List ℕ) (i to : ℕ) → to ≤ length f → to ≤ i → slice i to f ≡ []
slice-end f i to k h = drop_of_length-le (take to f) {i = i} (omega (arith, length-take to f))

-- the byte at i, which stands in the part
pub slice_at : (f : List ℕ) (from i to : ℕ) → from ≤ i → i < to → get_or (slice from to f) (i - from) 0 ≡ get_or f i 0
slice_at f from i to p q =
    let k : from + (i - from) ≡ i = omega arith in
    get_or-drop from (take to f) (i - from) 0 ∙ (ap (λ (n : ℕ). get_or (take to f) n 0) k ∙ get_or-take to f i 0 q)

pub unused-end : (v f : List ℕ) (i to : ℕ) → to ≤ length f → to ≤ i → unused v (listed_from i (slice i to f)) ≡ none
unfolding unused listed_from
unused-end v f i to k h = ap (λ (l : List ℕ). unused v (listed_from i l)) (slice-end f i to k h)

-- two lists, one after the other
cond-append : (t : Bool) (p : ℕ) (x y z : Option ℕ) → (x ≡ none → y ≡ z) → ((q : ℕ) → x ≡ some q → y ≡ some q)
    → ((cond t x (some p) ≡ none → cond t y (some p) ≡ z) × ((q : ℕ) → cond t x (some p) ≡ some q → cond t y (some p) ≡ some q))
cond-append true p x y z a b = (a, b)
cond-append false p x y z a b = ((λ e. absurd (let n : ◌≡◌ {A = ℕ} 0 1 = cc in omega arith)), λ q e. e)

pub unused-append : (v : List ℕ) (xs ys : List Listed)
    → ((unused v xs ≡ none → unused v (xs ++ ys) ≡ unused v ys) × ((q : ℕ) → unused v xs ≡ some q → unused v (xs ++ ys) ≡ some q))
unfolding unused
unused-append v [] ys = ((λ e. refl), λ q e. absurd (let n : ◌≡◌ {A = ℕ} 0 1 = cc in omega arith))
unused-append v (x ∷ xs) ys =
    let r = unused-append v xs ys in
    cond-append (has (event_byte x.letter) v) x.at (unused v xs) (unused v (xs ++ ys)) (unused v ys) r.0 r.1

-- different letters
pub ninth-one : (p : ℕ → Bool) (seen s : List ℕ) (i : ℕ) → i < length s
    → ninth_from p seen i (drop i s)
    ≡ cond (is_new p seen (get_or s i 0) && leb 8 (length seen)) (some i)
    (ninth_from p (with_if (is_new p seen (get_or s i 0)) (get_or s i 0) seen) (i + 1) (drop (i + 1) s))
unfolding ninth_from
ninth-one p seen s i h = ap (ninth_from p seen i) (drop-one s i h)

pub ninth-end : (p : ℕ → Bool) (seen s : List ℕ) (i : ℕ) → length s ≤ i → ninth_from p seen i (drop i s) ≡ none
unfolding ninth_from
ninth-end p seen s i h = ap (ninth_from p seen i) (drop_of_length-le s h)
