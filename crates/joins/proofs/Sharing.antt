-- No. 13 and 14. Two sides share a letter that counts exactly where some letter that counts is used on both, which is where the sets of the two sides
-- meet. Assumes nothing.
use Prim.Native.Nat.{ℕ, zero, suc, ◌+◌, ◌-◌, ◌<◌}
use mathlib.Core.Path.{◌≡◌, refl, sym, ap, ap₂, ◌∙◌}
use mathlib.Core.Bool.{Bool, true, false, not, ◌&&◌, ◌||◌}
use mathlib.Core.List.{List, [], ◌∷◌}
use native.Mathlib.Omega.{arith}
use lib.Bits.{bit_and}
use lib.Dec.{eqb}
use borrow.Author.Tests.{eqb-true, eq-eqb}
use Rattle.paper.specs.Lists.{has}
use Rattle.paper.specs.Limits.{share}
use Rattle.laws.specs.Placed.{Tree}
use Rattle.stars.specs.Nodes.{is_bars, sharing}
use Rattle.stars.proofs.Least.{fold}
use Rattle.joins.specs.Sets.{sharing_any}
use Rattle.joins.proofs.Uses.{is_alpha}
use Rattle.joins.proofs.Joins.{Says}
use Rattle.joins.proofs.Sets.{any, sets-meet}

-- tests on booleans
pub both_true : (a b : Bool) → (a && b) ≡ true → (a ≡ true) × (b ≡ true)
both_true true b e = (refl, e)
both_true false b e = absurd (let z : false ≡ true = e in let o : ◌≡◌ {A = ℕ} 0 1 = cc in omega arith)

pub true-both : (a b : Bool) → a ≡ true → b ≡ true → (a && b) ≡ true
true-both a b p q = ap (λ (x : Bool). x && b) p ∙ q

pub or_right : (a b : Bool) → b ≡ true → (a || b) ≡ true
or_right true b e = refl
or_right false b e = e

or_left : (a b : Bool) → a ≡ true → (a || b) ≡ true
or_left a b e = ap (λ (x : Bool). x || b) e

same_tests : (a b : Bool) → (a ≡ true → b ≡ true) → (b ≡ true → a ≡ true) → a ≡ b
same_tests true b f g = sym (f refl)
same_tests false true f g = g refl
same_tests false false f g = refl

-- a number below n that passes
record Finds (f : ℕ → Bool) (n : ℕ) : Type 0 where
  number : ℕ
  few : number < n
  passes : f number ≡ true

any_step : (f : ℕ → Bool) (n : ℕ) (a : Bool) → f 0 ≡ a → (any (λ k. f (suc k)) n ≡ true → Finds (λ k. f (suc k)) n) → (a || any (λ k. f (suc k)) n) ≡ true
    → Finds f (suc n)
any_step f n true e rec p = record { number = 0; few = omega arith; passes = e }
any_step f n false e rec p = let r = rec p in record { number = suc r.number; few = omega (arith, r.few); passes = r.passes }

any-finds : (f : ℕ → Bool) (n : ℕ) → any f n ≡ true → Finds f n
unfolding any
any-finds f zero e = absurd (let z : false ≡ true = e in let o : ◌≡◌ {A = ℕ} 0 1 = cc in omega arith)
any-finds f (suc n) e = any_step f n (f 0) refl (any-finds (λ k. f (suc k)) n) e

any-has : (f : ℕ → Bool) (n k : ℕ) → k < n → f k ≡ true → any f n ≡ true
unfolding any
any-has f zero k h p = absurd (omega arith)
any-has f (suc n) zero h p = or_left (f 0) (any (λ k. f (suc k)) n) p
any-has f (suc n) (suc k) h p = or_right (f 0) (any (λ k. f (suc k)) n) (any-has (λ k. f (suc k)) n k (omega arith) p)

any_same : (f g : ℕ → Bool) (n : ℕ) → ((k : ℕ) → k < n → f k ≡ g k) → any f n ≡ any g n
unfolding any
any_same f g zero h = refl
any_same f g (suc n) h =
    ap₂ (λ (x y : Bool). x || y) (h 0 (omega arith)) (any_same (λ k. f (suc k)) (λ k. g (suc k)) n (λ k p. h (suc k) (omega arith)))

-- the letters that count, by number from a base
pub record Picks (base : ℕ) (pr on : ℕ → Bool) : Type 0 where
  pub picked : (x : ℕ) → pr x ≡ true → (x - base < 26) × (base + (x - base) ≡ x) × (on (x - base) ≡ true)
  pub counted : (k : ℕ) → k < 26 → on k ≡ true → pr (base + k) ≡ true

record Shares (pr : ℕ → Bool) (v w : List ℕ) : Type 0 where
  letter : ℕ
  counts : pr letter ≡ true
  in_left : has letter v ≡ true
  in_right : has letter w ≡ true

eqb_same : (x : ℕ) → eqb x x ≡ true
eqb_same x = eq-eqb x x refl

share-step : (pr : ℕ → Bool) (x : ℕ) (v w : List ℕ) (a : Bool) → (pr x && has x w) ≡ a → (share pr v w ≡ true → Shares pr v w) → (a || share pr v w) ≡ true
    → Shares pr (x ∷ v) w
unfolding has
share-step pr x v w true e rec p =
    let b = both_true (pr x) (has x w) e in
    record { letter = x; counts = b.0; in_left = or_left (eqb x x) (has x v) (eqb_same x); in_right = b.1 }
share-step pr x v w false e rec p =
    let r = rec p in
    record { letter = r.letter; counts = r.counts; in_left = or_right (eqb r.letter x) (has r.letter v) r.in_left; in_right = r.in_right }

share-finds : (pr : ℕ → Bool) (v w : List ℕ) → share pr v w ≡ true → Shares pr v w
unfolding share
share-finds pr [] w e = absurd (let z : false ≡ true = e in let o : ◌≡◌ {A = ℕ} 0 1 = cc in omega arith)
share-finds pr (x ∷ v) w e = share-step pr x v w (pr x && has x w) refl (share-finds pr v w) e

share-has-step : (pr : ℕ → Bool) (y x : ℕ) (v w : List ℕ) (t : Bool) → eqb y x ≡ t → pr y ≡ true → (t || has y v) ≡ true → has y w ≡ true
    → (has y v ≡ true → share pr v w ≡ true) → (pr x && has x w || share pr v w) ≡ true
share-has-step pr y x v w true e p l r rec =
    let k : y ≡ x = eqb-true y x e in
    or_left (pr x && has x w) (share pr v w) (true-both (pr x) (has x w) (ap pr (sym k) ∙ p) (ap (λ (z : ℕ). has z w) (sym k) ∙ r))
share-has-step pr y x v w false e p l r rec = or_right (pr x && has x w) (share pr v w) (rec l)

share-has : (pr : ℕ → Bool) (y : ℕ) (v w : List ℕ) → pr y ≡ true → has y v ≡ true → has y w ≡ true → share pr v w ≡ true
unfolding share has
share-has pr y [] w p l r = absurd (let z : false ≡ true = l in let o : ◌≡◌ {A = ℕ} 0 1 = cc in omega arith)
share-has pr y (x ∷ v) w p l r = share-has-step pr y x v w (eqb y x) refl p l r (λ k. share-has pr y v w p k r)

share-any : (base : ℕ) (pr on : ℕ → Bool) → Picks base pr on → (v w : List ℕ)
    → share pr v w ≡ any (λ k. on k && (has (base + k) v && has (base + k) w)) 26
share-any base pr on picks v w =
    same_tests (share pr v w) (any (λ k. on k && (has (base + k) v && has (base + k) w)) 26)
    (λ e.
    let s = share-finds pr v w e in
    let x = s.letter in
    let i = picks.picked x s.counts in
    any-has (λ k. on k && (has (base + k) v && has (base + k) w)) 26 (x - base) i.0
    (true-both (on (x - base)) (has (base + (x - base)) v && has (base + (x - base)) w) i.2
    (true-both (has (base + (x - base)) v) (has (base + (x - base)) w) (ap (λ (y : ℕ). has y v) i.1 ∙ s.in_left)
    (ap (λ (y : ℕ). has y w) i.1 ∙ s.in_right))))
    (λ e.
    let f = any-finds (λ k. on k && (has (base + k) v && has (base + k) w)) 26 e in
    let k = f.number in
    let a = both_true (on k) (has (base + k) v && has (base + k) w) f.passes in
    let b = both_true (has (base + k) v) (has (base + k) w) a.1 in
    share-has pr (base + k) v w (picks.counted k f.few a.0) b.0 b.1)

-- a letter that counts and is used on both sides
both-on : (o a b : Bool) → (o && (a && b)) ≡ ((o && a) && (o && b))
both-on true a b = refl
both-on false a b = refl

-- the text's test is the pass's
pub text-any : (base : ℕ) (pr on : ℕ → Bool) → Picks base pr on → ((k : ℕ) → k < 26 → is_alpha (base + k) ≡ true)
    → (v w : List ℕ) (t u : Tree) (c : ℕ) → is_bars c ≡ true → Says v t → Says w u
    → share pr v w ≡ (is_bars c && not (eqb (bit_and (fold (sharing_any base on) t) (fold (sharing_any base on) u)) 0))
text-any base pr on picks alpha v w t u c e x y =
    share-any base pr on picks v w
    ∙ (any_same (λ k. on k && (has (base + k) v && has (base + k) w))
    (λ k. (on k && fold (sharing (base + k)) t) && (on k && fold (sharing (base + k)) u)) 26
    (λ k h.
    ap₂ (λ (a b : Bool). on k && (a && b)) (x (base + k) (alpha k h)) (y (base + k) (alpha k h))
    ∙ both-on (on k) (fold (sharing (base + k)) t) (fold (sharing (base + k)) u))
    ∙ (sym (sets-meet base on alpha t u)
    ∙ ap (λ (a : Bool). a && not (eqb (bit_and (fold (sharing_any base on) t) (fold (sharing_any base on) u)) 0)) (sym e)))
