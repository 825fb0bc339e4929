-- The letters' bytes in the table's order (`letter_bytes`): which bytes stand there (`letter-none`, `none-letter`), and where (`letter_at`); names ascend, so
-- each stands once (`ascending-one`). Assumes nothing.
use Prim.Native.Nat.{ℕ, zero, suc, ◌+◌, ◌-◌, ◌<◌}
use mathlib.Core.Path.{◌≡◌, refl, sym, ap, ap₂, subst, ◌∙◌}
use mathlib.Core.List.{List, [], ◌∷◌, ◌++◌, map}
use mathlib.Core.Logic.{◌⊎◌, inl, inr, ⊎_elim}
use mathlib.Core.Option.{Option, none, some}
use native.Mathlib.Nat.{not-suc-le-zero, le_of_suc-le-suc}
use native.Mathlib.Decide.{dec_lt}
use native.Mathlib.Omega.{arith}
use borrow.Author.Tests.{eqb-true}
use lib.Dec.{T, eqb, eqb→eq, eqb_refl}
use lib.ListN.{length, get_or, length-append, length-map, get_or-append}
use lib.Seq.{get_or-append-add}
use Rattle.paper.specs.Lists.{has}
use Rattle.paper.specs.Grammar.{module_byte, event_byte}
use Rattle.paper.specs.Calls.{index_from, letter_bytes}
use Rattle.paper.proofs.Choices.{clash}
use Rattle.laws.proofs.Letters.{by_cond, false-not, has_here, has_there}
use Rattle.coding.proofs.Letters.{by-or, has_first}
use Rattle.layout.specs.InRange.{Ascending}
use Rattle.claims.specs.Exactly.{IsLetter, of_module, of_event}

-- ---- what stands in a list

has-second : (x : ℕ) (v w : List ℕ) → T (has x w) → T (has x (v ++ w))
has-second x [] w t = t
has-second x (y ∷ v) w t = has_there x y (v ++ w) (has-second x v w t)

has_either : (x : ℕ) (v w : List ℕ) → T (has x (v ++ w)) → T (has x v) ⊎ T (has x w)
unfolding has
has_either x [] w t = inr t
has_either x (y ∷ v) w t =
    by-or (eqb x y) (has x (v ++ w)) t (λ h. inl (has_here x y v h)) (λ h. ⊎_elim (λ k. inl (has_there x y v k)) (λ k. inr k) (has_either x v w h))

has-map : (f : ℕ → ℕ) (x : ℕ) (xs : List ℕ) → T (has x xs) → T (has (f x) (map f xs))
unfolding has
has-map f x [] t = t
has-map f x (y ∷ ys) t =
    by-or (eqb x y) (has x ys) t
    (λ h. has_here (f x) (f y) (map f ys) (subst (λ (z : ℕ). T (eqb (f x) (f z))) (eqb→eq x y h) (eqb_refl (f x))))
    (λ h. has_there (f x) (f y) (map f ys) (has-map f x ys h))

map-has : (f : ℕ → ℕ) (y : ℕ) (xs : List ℕ) → T (has y (map f xs)) → (x : ℕ) × T (has x xs) × (y ≡ f x)
unfolding has
map-has f y [] t = absurd t
map-has f y (x ∷ xs) t =
    by-or (eqb y (f x)) (has y (map f xs)) t (λ h. (x, has_here x x xs (eqb_refl x), eqb→eq y (f x) h))
    (λ h. let w = map-has f y xs h in (w.0, has_there w.0 x xs w.1, w.2))

pub has-at : (xs : List ℕ) (i : ℕ) → i < length xs → T (has (get_or xs i 0) xs)
has-at [] i h = absurd (not-suc-le-zero h)
has-at (x ∷ xs) zero h = has_here x x xs (eqb_refl x)
has-at (x ∷ xs) (suc i) h = has_there (get_or xs i 0) x xs (has-at xs i (le_of_suc-le-suc h))

map_at : (f : ℕ → ℕ) (xs : List ℕ) (i : ℕ) → i < length xs → get_or (map f xs) i 0 ≡ f (get_or xs i 0)
map_at f [] i h = absurd (not-suc-le-zero h)
map_at f (x ∷ xs) zero h = refl
map_at f (x ∷ xs) (suc i) h = map_at f xs i (le_of_suc-le-suc h)

-- ---- where it stands

pub record Stands (x : ℕ) (xs : List ℕ) (k i : ℕ) : Type 0 where
  pub far : ℕ
  pub is : i ≡ k + far
  pub within : far < length xs
  pub there : get_or xs far 0 ≡ x

index_at : (k x : ℕ) (xs : List ℕ) (i : ℕ) → index_from k x xs ≡ some i → Stands x xs k i
unfolding index_from
index_at k x [] i e = clash (cc)
index_at k x (y ∷ ys) i e =
    by_cond (λ (o : Option ℕ). o ≡ some i → Stands x (y ∷ ys) k i) (eqb x y) (some k) (index_from (k + 1) x ys)
    (λ t q. let z : k ≡ i = cc in record { far = 0; is = omega arith; within = omega arith; there = sym (eqb-true x y t) })
    (λ f q.
    let w = index_at (k + 1) x ys i q in
    record { far = suc w.far; is = omega (arith, w.is); within = omega (arith, w.within); there = w.there })
    e

index-has : (k x : ℕ) (xs : List ℕ) → T (has x xs) → index_from k x xs ≡ none → ⊥
unfolding index_from has
index-has k x [] t e = t
index-has k x (y ∷ ys) t e =
    by_cond (λ (o : Option ℕ). o ≡ none → ⊥) (eqb x y) (some k) (index_from (k + 1) x ys) (λ q z. clash (cc))
    (λ q z. by-or (eqb x y) (has x ys) t (false-not (eqb x y) q) (λ h. index-has (k + 1) x ys h z))
    e

-- ---- the letters

letter-has : (ms es : List ℕ) (b : ℕ) → IsLetter ms es b → T (has b (letter_bytes ms es))
unfolding letter_bytes
letter-has ms es b (of_module m h q) =
    has_first b (map module_byte ms) (map event_byte es) (subst (λ (x : ℕ). T (has x (map module_byte ms))) (sym q) (has-map module_byte m ms h))
letter-has ms es b (of_event e h q) =
    has-second b (map module_byte ms) (map event_byte es) (subst (λ (x : ℕ). T (has x (map event_byte es))) (sym q) (has-map event_byte e es h))

-- a letter's byte has a place
pub letter-none : (ms es : List ℕ) (b : ℕ) → IsLetter ms es b → index_from 0 b (letter_bytes ms es) ≡ none → ⊥
letter-none ms es b h e = index-has 0 b (letter_bytes ms es) (letter-has ms es b h) e

-- whose it is
pub data Found (ms es : List ℕ) (b l : ℕ) : Type 0 where
  module_at : l < length ms → b ≡ module_byte (get_or ms l 0) → Found ms es b l
  event_at : (j : ℕ) → l ≡ length ms + j → j < length es → b ≡ event_byte (get_or es j 0) → Found ms es b l

letters-long : (ms es : List ℕ) → length (letter_bytes ms es) ≡ length ms + length es
unfolding letter_bytes
letters-long ms es =
    length-append (map module_byte ms) (map event_byte es) ∙ ap₂ (λ (x y : ℕ). x + y) (length-map ms module_byte) (length-map es event_byte)

pub letter_at : (ms es : List ℕ) (b l : ℕ) → index_from 0 b (letter_bytes ms es) ≡ some l → Found ms es b l
unfolding letter_bytes
letter_at ms es b l e = by (dec_lt l (length ms))
  where
    w : Stands b (letter_bytes ms es) 0 l
    w = index_at 0 b (letter_bytes ms es) l e

    there : get_or (map module_byte ms ++ map event_byte es) l 0 ≡ b
    there = ap (λ (i : ℕ). get_or (map module_byte ms ++ map event_byte es) i 0) (let z : l ≡ w.far = omega (arith, w.is) in z) ∙ w.there

    long : l < length ms + length es
    long = omega (arith, w.is, w.within, letters-long ms es)

    by : Dec (l < length ms) → Found ms es b l
    by (yes h) =
        let k : l < length (map module_byte ms) = omega (arith, length-map ms module_byte) in
        module_at h (sym there ∙ (get_or-append (map module_byte ms) (map event_byte es) 0 l k ∙ map_at module_byte ms l h))
    by (no h) = event_at j i small (sym there ∙ (ap (λ (n : ℕ). get_or (map module_byte ms ++ map event_byte es) n 0) i' ∙ (get_or-append-add (map module_byte ms) (map event_byte es) j 0 ∙ map_at event_byte es j small)))
      where
        j : ℕ
        j = l - length ms

        i : l ≡ length ms + j
        i = omega arith

        i' : l ≡ length (map module_byte ms) + j
        i' = omega (arith, i, length-map ms module_byte)

        small : j < length es
        small = omega (arith, i, long)

-- a byte with a place is a letter's
pub none-letter : (ms es : List ℕ) (b : ℕ) → (IsLetter ms es b → ⊥) → index_from 0 b (letter_bytes ms es) ≡ none
none-letter ms es b f = by (index_from 0 b (letter_bytes ms es)) refl
  where
    its : (l : ℕ) → Found ms es b l → IsLetter ms es b
    its l (module_at h q) = of_module (get_or ms l 0) (has-at ms l h) q
    its l (event_at j i h q) = of_event (get_or es j 0) (has-at es j h) q

    by : (o : Option ℕ) → index_from 0 b (letter_bytes ms es) ≡ o → o ≡ none
    by none q = refl
    by (some l) q = absurd (f (its l (letter_at ms es b l q)))

-- ---- names ascend, so each stands once

ascending-below : (ns : List ℕ) → Ascending ns → (i d : ℕ) → suc (i + d) < length ns → get_or ns i 0 < get_or ns (suc (i + d)) 0
ascending-below ns a i zero h = subst (λ (k : ℕ). get_or ns i 0 < get_or ns (suc k) 0) (let z : i ≡ i + 0 = omega arith in z) (a.above i (omega arith))
ascending-below ns a i (suc d) h =
    let z : suc (i + d) ≡ i + suc d = omega arith in
    let k = ascending-below ns a i d (omega arith) in
    let m = a.above (suc (i + d)) (omega arith) in
    subst (λ (k : ℕ). get_or ns i 0 < get_or ns (suc k) 0) z (omega (arith, k, m))

pub ascending-one : (ns : List ℕ) → Ascending ns → (i j : ℕ) → i < length ns → j < length ns → get_or ns i 0 ≡ get_or ns j 0 → i ≡ j
ascending-one ns a i j hi hj e = by (dec_lt i j) (dec_lt j i)
  where
    apart : (i j : ℕ) → i < j → j < length ns → get_or ns i 0 < get_or ns j 0
    apart i j h k =
        let z : suc (i + (j - suc i)) ≡ j = omega arith in
        subst (λ (n : ℕ). get_or ns i 0 < get_or ns n 0) z (ascending-below ns a i (j - suc i) (omega arith))

    by : Dec (i < j) → Dec (j < i) → i ≡ j
    by (yes h) k = absurd (omega (arith, apart i j h hj, e))
    by (no h) (yes k) = absurd (omega (arith, apart j i k hi, e))
    by (no h) (no k) = omega arith
