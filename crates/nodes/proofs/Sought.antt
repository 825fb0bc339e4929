-- What `find` finds: a node with the columns asked for, and where it answers the number of nodes there is none. By steps of the search. Assumes nothing.
use Prim.Native.Nat.{ℕ, zero, suc, ◌+◌, ◌-◌, ◌≤◌, ◌<◌}
use mathlib.Core.Bool.{Bool, true, false, ◌&&◌}
use mathlib.Core.List.{List}
use mathlib.Core.Path.{◌≡◌, refl, sym, ap, ◌∙◌}
use native.Mathlib.Omega.{arith}
use lib.Dec.{eqb}
use borrow.Author.Tests.{eqb-true, eq-eqb}
use Rattle.laws.specs.Nodes.{kind, left, right, letter, count}
use Rattle.nodes.specs.Made.{is, seek, find}
use Rattle.nodes.proofs.Choice.{by-eq, and_first, and_second}

-- node i has the columns k, l, r, a
pub record Has (P : List ℕ) (k l r a i : ℕ) : Type 0 where
  pub its_kind : kind P i ≡ k
  pub its_left : left P i ≡ l
  pub its_right : right P i ≡ r
  pub its_letter : letter P i ≡ a

pub is-has : (P : List ℕ) (k l r a i : ℕ) → is P k l r a i ≡ true → Has P k l r a i
is-has P k l r a i e =
    let ks = eqb (kind P i) k in
    let ls = eqb (left P i) l in
    let rs = eqb (right P i) r in
    let ts = eqb (letter P i) a in
    let e₂ = and_second ks (ls && (rs && ts)) e in
    let e₃ = and_second ls (rs && ts) e₂ in
    record {
      its_kind = eqb-true (kind P i) k (and_first ks (ls && (rs && ts)) e);
      its_left = eqb-true (left P i) l (and_first ls (rs && ts) e₂);
      its_right = eqb-true (right P i) r (and_first rs ts e₃);
      its_letter = eqb-true (letter P i) a (and_second rs ts e₃);
    }

pub has-is : (P : List ℕ) (k l r a i : ℕ) → Has P k l r a i → is P k l r a i ≡ true
has-is P k l r a i h =
    rw (eq-eqb (kind P i) k h.its_kind, eq-eqb (left P i) l h.its_left, eq-eqb (right P i) r h.its_right, eq-eqb (letter P i) a h.its_letter)

module _ (P : List ℕ) (k l r a : ℕ) where
  -- one step of the search, by its test
  step-yes : (i n : ℕ) → is P k l r a i ≡ true → seek P k l r a i (suc n) ≡ i
  unfolding seek
  step-yes i n e = rw e

  step-no : (i n : ℕ) → is P k l r a i ≡ false → seek P k l r a i (suc n) ≡ seek P k l r a (i + 1) n
  unfolding seek
  step-no i n e = rw e

  pub seek-ends : (i n : ℕ) → seek P k l r a i n ≤ i + n
  unfolding seek
  seek-ends i zero = omega arith
  seek-ends i (suc n) = go (is P k l r a i) refl (seek-ends (i + 1) n)
    where
      go : (b : Bool) → is P k l r a i ≡ b → seek P k l r a (i + 1) n ≤ i + 1 + n → seek P k l r a i (suc n) ≤ i + suc n
      go true e f = omega (arith, step-yes i n e)
      go false e f = omega (arith, step-no i n e)

  pub seek_finds : (i n : ℕ) → seek P k l r a i n < i + n → is P k l r a (seek P k l r a i n) ≡ true
  unfolding seek
  seek_finds i zero h = absurd (omega arith)
  seek_finds i (suc n) h = go (is P k l r a i) refl (seek_finds (i + 1) n)
    where
      go : (b : Bool) → is P k l r a i ≡ b → (seek P k l r a (i + 1) n < i + 1 + n → is P k l r a (seek P k l r a (i + 1) n) ≡ true)
          → is P k l r a (seek P k l r a i (suc n)) ≡ true
      go true e f = rw (step-yes i n e) e
      go false e f = rw (step-no i n e) (f (omega (arith, step-no i n e, h)))

  pub seek-none : (i n : ℕ) → i + n ≤ seek P k l r a i n → (j : ℕ) → i ≤ j → j < i + n → is P k l r a j ≡ true → ⊥
  unfolding seek
  seek-none i zero h j u v e = omega arith
  seek-none i (suc n) h j u v e = go (is P k l r a i) refl (λ x y. seek-none (i + 1) n x j y)
    where
      go : (b : Bool) → is P k l r a i ≡ b → (i + 1 + n ≤ seek P k l r a (i + 1) n → i + 1 ≤ j → j < i + 1 + n → is P k l r a j ≡ true → ⊥) → ⊥
      go true f g = omega (arith, step-yes i n f)
      go false f g =
          by-eq j i
          (λ z.
          let w : ◌≡◌ {A = Bool} true false = sym e ∙ (ap (λ (x : ℕ). is P k l r a x) z ∙ f) in
          let y : ◌≡◌ {A = ℕ} 0 1 = cc in
          omega arith)
          (λ z. g (omega (arith, step-no i n f, h)) (omega arith) (omega arith) e)

  -- the search from i to n: found at i, not there, or over
  pub seek-here : (i n : ℕ) → i < n → is P k l r a i ≡ true → seek P k l r a i (n - i) ≡ i
  seek-here i n h e = let z : n - i ≡ suc (n - (i + 1)) = omega arith in rw z (step-yes i (n - (i + 1)) e)

  pub seek-next : (i n : ℕ) → i < n → is P k l r a i ≡ false → seek P k l r a i (n - i) ≡ seek P k l r a (i + 1) (n - (i + 1))
  seek-next i n h e = let z : n - i ≡ suc (n - (i + 1)) = omega arith in rw z (step-no i (n - (i + 1)) e)

  pub seek-over : (i n : ℕ) → n ≤ i → seek P k l r a i (n - i) ≡ i
  unfolding seek
  seek-over i n h = let z : n - i ≡ 0 = omega arith in rw z

  pub find-ends : find P k l r a ≤ count P
  find-ends = omega (arith, seek-ends 0 (count P))

  pub find-has : find P k l r a < count P → Has P k l r a (find P k l r a)
  find-has h = is-has P k l r a (find P k l r a) (seek_finds 0 (count P) (omega arith))

  pub find_none : count P ≤ find P k l r a → (j : ℕ) → j < count P → Has P k l r a j → ⊥
  find_none h j v e = seek-none 0 (count P) (omega arith) j (omega arith) (omega arith) (has-is P k l r a j e)
