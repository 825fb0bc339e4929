-- The first number that passes a test, and with it the node of a term or of an interruption: where some node is it, the first such node is found and
-- is it, so the tests `over` say exactly what `Over` says. Assumes nothing.
use Prim.Native.Nat.{ℕ, zero, suc, ◌+◌, ◌≤◌, ◌<◌}
use mathlib.Core.Bool.{Bool, true}
use mathlib.Core.List.{List}
use mathlib.Core.Path.{◌≡◌, sym, subst}
use native.Mathlib.Decide.{ℕ_discrete}
use native.Mathlib.Omega.{arith}
use lib.Dec.{T, leb, ltb, leb→le, ltb→lt}
use borrow.Author.Tests.{le-leb, lt-ltb}
use Rattle.paper.specs.Term.{Term, Intr, Left, Mod, One, Seq, Par, Star, Act, gone, still, eq_t, Intr-discrete}
use Rattle.paper.proofs.Equal.{and_left, and_right, and_both, yes-is, is-yes, eq_t-sound, eq_t-complete}
use Rattle.laws.specs.Nodes.{kind, count, tree, intr}
use Rattle.laws.proofs.Letters.{by_cond}
use Rattle.coding.specs.Units.{first, eq_i, is_term, is_intr, node_of, intr_of, IsTerm, IsIntr, Over, OverL, over, over_l}

pub holds : (b : Bool) → b ≡ true → T b
holds b e = subst T (sym e) tt

first_passes : (f : ℕ → Bool) (i n : ℕ) → first f i n < i + n → T (f (first f i n))
unfolding first
first_passes f i zero h = absurd (omega arith)
first_passes f i (suc n) h =
    by_cond (λ r. r < i + suc n → T (f r)) (f i) i (first f (i + 1) n) (λ e l. holds (f i) e) (λ e l. first_passes f (i + 1) n (omega arith)) h

first_found : (f : ℕ → Bool) (i n j : ℕ) → i ≤ j → j < i + n → T (f j) → first f i n ≤ j
unfolding first
first_found f i zero j a h t = absurd (omega arith)
first_found f i (suc n) j a h t =
    by_cond (λ r. r ≤ j) (f i) i (first f (i + 1) n) (λ e. a)
    (λ e.
    let d : (i ≡ j → ⊥) = λ q. subst T e (subst (λ (k : ℕ). T (f k)) (sym q) t) in
    first_found f (i + 1) n j (omega arith) (omega arith) t)

-- the same tree, tested
eq_i-sound : (i j : Intr) → T (eq_i i j) → i ≡ j
unfolding eq_i
eq_i-sound i j t = yes-is (Intr-discrete ℕ_discrete i j) t

eq_i-complete : (i j : Intr) → i ≡ j → T (eq_i i j)
unfolding eq_i
eq_i-complete i j p = is-yes (Intr-discrete ℕ_discrete i j) p

module _ (P : List ℕ) where
  pub node-found : {t : Term} → IsTerm P t → node_of P t < count P
  unfolding node_of
  node-found {t} n =
      let j = n.0 in
      let ok : T (is_term P t j) =
      and_both (leb (kind P j) 5) (eq_t (tree P j) t) (holds (leb (kind P j) 5) (le-leb (kind P j) 5 n.1.1.0)) (eq_t-complete (tree P j) t n.1.1.1)
      in
      omega (arith, first_found (is_term P t) 0 (count P) j (omega arith) (omega (arith, n.1.0)) ok)

  pub node_is : (t : Term) → node_of P t < count P → (kind P (node_of P t) ≤ 5) × (tree P (node_of P t) ≡ t)
  unfolding node_of
  node_is t h =
      let j = node_of P t in
      let ok = first_passes (is_term P t) 0 (count P) (omega arith) in (
        leb→le (kind P j) 5 (and_left (leb (kind P j) 5) (eq_t (tree P j) t) ok),
        eq_t-sound (tree P j) t (and_right (leb (kind P j) 5) (eq_t (tree P j) t) ok),
      )

  pub intr-found : {i : Intr} → IsIntr P i → intr_of P i < count P
  unfolding intr_of
  intr-found {i} n =
      let j = n.0 in
      let ok : T (is_intr P i j) =
      and_both (ltb 5 (kind P j)) (eq_i (intr P j) i) (holds (ltb 5 (kind P j)) (lt-ltb 5 (kind P j) n.1.1.0)) (eq_i-complete (intr P j) i n.1.1.1)
      in
      omega (arith, first_found (is_intr P i) 0 (count P) j (omega arith) (omega (arith, n.1.0)) ok)

  pub intr-is : (i : Intr) → intr_of P i < count P → (5 < kind P (intr_of P i)) × (intr P (intr_of P i) ≡ i)
  unfolding intr_of
  intr-is i h =
      let j = intr_of P i in
      let ok = first_passes (is_intr P i) 0 (count P) (omega arith) in (
        ltb→lt 5 (kind P j) (and_left (ltb 5 (kind P j)) (eq_i (intr P j) i) ok),
        eq_i-sound (intr P j) i (and_right (ltb 5 (kind P j)) (eq_i (intr P j) i) ok),
      )

  term-tested : (t : Term) → T (ltb (node_of P t) (count P)) → IsTerm P t
  term-tested t h = let l = ltb→lt (node_of P t) (count P) h in (node_of P t, (l, node_is t l))

  intr-tested : (i : Intr) → T (ltb (intr_of P i) (count P)) → IsIntr P i
  intr-tested i h = let l = ltb→lt (intr_of P i) (count P) h in (intr_of P i, (l, intr-is i l))

  test-term : (t : Term) → IsTerm P t → T (ltb (node_of P t) (count P))
  test-term t n = holds _ (lt-ltb (node_of P t) (count P) (node-found n))

  test-intr : (i : Intr) → IsIntr P i → T (ltb (intr_of P i) (count P))
  test-intr i n = holds _ (lt-ltb (intr_of P i) (count P) (intr-found n))

module _ (P ms : List ℕ) where
  over-sound : (t : Term) → T (over P ms t) → Over P ms t
  unfolding over Over
  over-sound (Mod m) h = h
  over-sound One h = tt
  over-sound (Seq x y) h = (over-sound x (and_left (over P ms x) _ h), term-tested P y (and_right (over P ms x) _ h))
  over-sound (Par x y) h = (over-sound x (and_left (over P ms x) _ h), over-sound y (and_right (over P ms x) _ h))
  over-sound (Star x) h = (over-sound x (and_left (over P ms x) _ h), term-tested P (Star x) (and_right (over P ms x) _ h))
  over-sound (Act x i) h = (over-sound x (and_left (over P ms x) _ h), intr-tested P i (and_right (over P ms x) _ h))

  over-complete : (t : Term) → Over P ms t → T (over P ms t)
  unfolding over Over
  over-complete (Mod m) h = h
  over-complete One h = tt
  over-complete (Seq x y) h = and_both (over P ms x) _ (over-complete x h.0) (test-term P y h.1)
  over-complete (Par x y) h = and_both (over P ms x) _ (over-complete x h.0) (over-complete y h.1)
  over-complete (Star x) h = and_both (over P ms x) _ (over-complete x h.0) (test-term P (Star x) h.1)
  over-complete (Act x i) h = and_both (over P ms x) _ (over-complete x h.0) (test-intr P i h.1)

  pub over_l-sound : (r : Left) → T (over_l P ms r) → OverL P ms r
  unfolding over_l OverL
  over_l-sound gone h = tt
  over_l-sound (still t) h = over-sound t h

  pub over_l-complete : (r : Left) → OverL P ms r → T (over_l P ms r)
  unfolding over_l OverL
  over_l-complete gone h = tt
  over_l-complete (still t) h = over-complete t h
