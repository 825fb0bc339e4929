-- What the contracts ask is met: the table and the word of the program `a/E.` have all of it (`table`, `word-right`, `says`).
-- A bound on every entry is one computed test over the 768 (`bound`); the four nodes are of four different kinds. Assumes nothing.
use Prim.Native.Nat.{ℕ, zero, suc, ◌+◌, ◌-◌, ◌*◌, ◌≤◌, ◌<◌}
use mathlib.Core.Bool.{Bool, true, false, ◌&&◌, cond}
use mathlib.Core.List.{List, [], ◌∷◌, ◌++◌}
use mathlib.Core.Logic.{⊎_elim}
use mathlib.Core.Path.{◌≡◌, refl, ap, sym, ◌∙◌, subst}
use native.Mathlib.Nat.{add-zero}
use native.Mathlib.Omega.{arith}
use lib.Dec.{eqb, leb}
use lib.ListN.{get_or, length, replicate, get_or-eq_default}
use borrow.Author.Tests.{leb-true}
use Rattle.paper.specs.Term.{Mod, Act, Event}
use Rattle.laws.specs.Nodes.{Nodes, kind, left, right, letter, count, intr, tree_from, as_intr}
use Rattle.words.specs.Word.{mark, apply, terms, Fine, Right}
use Rattle.words.specs.Pieces.{Table}
use Rattle.words.proofs.Marks.{by-lt, clash}
use Rattle.words.proofs.Distinct.{Columnar, apart}

-- node 0 is `1`, node 1 the module a, node 2 the event E, node 3 a/E
abbrev pub nodes : List ℕ
nodes =
    1 ∷ 0 ∷ 6 ∷ 5 ∷ (replicate 188 0 ++ 0 ∷ 0 ∷ 0 ∷ 1 ∷ (replicate 188 0 ++ 0 ∷ 0 ∷ 0 ∷ 2 ∷ (replicate 188 0 ++ 4 ∷ 0 ∷ 4 ∷ 0 ∷ replicate 188 0)))

unfoldable all : (ℕ → ℕ → Bool) → ℕ → List ℕ → Bool
all f k [] = true
all f k (x ∷ xs) = f k x && all f (suc k) xs

and_l : (a b : Bool) → (a && b) ≡ true → a ≡ true
and_l true b e = refl
and_l false b e = e

and_r : (a b : Bool) → (a && b) ≡ true → b ≡ true
and_r true b e = e
and_r false b e = clash cc

all-at : (f : ℕ → ℕ → Bool) (k : ℕ) (l : List ℕ) (i : ℕ) → all f k l ≡ true → i < length l → f (k + i) (get_or l i 0) ≡ true
unfolding all
all-at f k [] i t h = absurd (omega arith)
all-at f k (x ∷ xs) zero t h = rw (add-zero k) (and_l (f k x) (all f (suc k) xs) t)
all-at f k (x ∷ xs) (suc i) t h =
    let r = all-at f (suc k) xs i (and_r (f k x) (all f (suc k) xs) t) (omega arith) in
    let z : suc k + i ≡ k + suc i = omega arith in
    rw z at r

bound : (g : ℕ → ℕ) (j : ℕ) → all (λ k x. leb x (g k)) 0 nodes ≡ true → get_or nodes j 0 ≤ g j
bound g j t =
    by-lt j 768
    (λ h.
    let r = all-at (λ k x. leb x (g k)) 0 nodes j t h in
    let z : 0 + j ≡ j = omega arith in
    leb-true (get_or nodes j 0) (g j) (rw z at r))
    (λ h. let z : get_or nodes j 0 ≡ 0 = get_or-eq_default nodes 0 {n = j} h in omega (arith, z))

-- what holds of each of the four
by-node : (A : ℕ → Type 0) (i : ℕ) → i < count nodes → A 0 → A 1 → A 2 → A 3 → A i
by-node A i h a b c d =
    by-lt i 1 (λ l. let z : 0 ≡ i = omega arith in subst A z a) λ l.
    by-lt i 2 (λ m. let z : 1 ≡ i = omega arith in subst A z b) λ m.
    by-lt i 3 (λ n. let z : 2 ≡ i = omega arith in subst A z c) λ n.
    let z : 3 ≡ i = omega arith in subst A z d

-- no node is of kind n but for a/E's
not : (n : ℕ) (A : ℕ → Type 0) → (n ≡ 1 → ⊥) → (n ≡ 0 → ⊥) → (n ≡ 6 → ⊥) → (n ≡ 5 → A 3) → (i : ℕ) → i < count nodes → kind nodes i ≡ n → A i
not n A o z s f i h =
    by-node (λ j. kind nodes j ≡ n → A j) i h (λ k. absurd (o (sym k))) (λ k. absurd (z (sym k))) (λ k. absurd (s (sym k))) (λ k. f (sym k))

pub nodes_are : Nodes nodes
unfolding all
nodes_are =
    record {
      long = refl;
      some = omega arith;
      few = omega arith;
      zeroth = refl;
      lower = λ i. let r = bound (λ k. (k - 193) + (192 - k) * 9) (i + 192) refl in omega (arith, r);
      righter = λ i. let r = bound (λ k. (k - 385) + (384 - k) * 9) (i + 384) refl in omega (arith, r);
      letters = λ i. let r = bound (λ k. 255) (i + 576) refl in omega (arith, r);
      of_seq = not 2 _ (λ z. omega arith) (λ z. omega arith) (λ z. omega arith) (λ z. absurd (omega arith));
      of_par = not 3 _ (λ z. omega arith) (λ z. omega arith) (λ z. omega arith) (λ z. absurd (omega arith));
      of_star = not 4 _ (λ z. omega arith) (λ z. omega arith) (λ z. omega arith) (λ z. absurd (omega arith));
      of_act = not 5 _ (λ z. omega arith) (λ z. omega arith) (λ z. omega arith) (λ z. (omega arith, omega arith));
      of_treat = not 7 _ (λ z. omega arith) (λ z. omega arith) (λ z. omega arith) (λ z. absurd (omega arith));
      of_either = not 8 _ (λ z. omega arith) (λ z. omega arith) (λ z. omega arith) (λ z. absurd (omega arith));
      of_both = not 9 _ (λ z. omega arith) (λ z. omega arith) (λ z. omega arith) (λ z. absurd (omega arith));
    }

-- the node of a kind
abbrev back : ℕ → ℕ
back k = cond (eqb k 1) 0 (cond (eqb k 0) 1 (cond (eqb k 6) 2 3))

back-kind : (i : ℕ) → i < count nodes → i ≡ back (kind nodes i)
back-kind i h = by-node (λ j. j ≡ back (kind nodes j)) i h refl refl refl refl

columns-are : Columnar nodes
columns-are =
    record {
      distinct = λ i j hi hj k l r a. back-kind i hi ∙ ap back k ∙ sym (back-kind j hj);
      ones = λ i h k. back-kind i h ∙ ap back k;
      kinds = λ i h. by-node (λ j. kind nodes j ≤ 9) i h (omega arith) (omega arith) (omega arith) (omega arith);
      no_left =
          λ i h k.
          by-node (λ j. (kind nodes j ≡ 5 → ⊥) → left nodes j ≡ 0) i h (λ n. refl) (λ n. refl) (λ n. refl) (λ n. absurd (n refl))
          (λ f. ⊎_elim (λ a. omega arith) (λ w. ⊎_elim (λ a. omega arith) (λ a. omega arith) w) k);
      no_right =
          λ i h k.
          by-node (λ j. (kind nodes j ≡ 5 → ⊥) → right nodes j ≡ 0) i h (λ n. refl) (λ n. refl) (λ n. refl) (λ n. absurd (n refl))
          (λ f. ⊎_elim (λ a. omega arith) (λ w. ⊎_elim (λ a. omega arith) (λ a. omega arith) w) k);
      no_letter =
          λ i o h k.
          by-node (λ j. 0 < j → (kind nodes j ≡ 6 → ⊥) → letter nodes j ≡ 0) i h (λ p n. absurd (omega arith)) (λ p n. refl) (λ p n. absurd (n refl)) (λ p n. refl) o
          (λ f. ⊎_elim (λ a. omega arith) (λ w. ⊎_elim (λ a. omega arith) (λ w. ⊎_elim (λ a. omega arith) (λ w. ⊎_elim (λ a. omega arith) (λ w. ⊎_elim (λ a. omega arith) (λ a. omega arith) w) w) w) w) k);
    }

pub table : Table nodes
table =
    record {
      nodes = nodes_are;
      apart = apart nodes nodes_are columns-are;
      named = λ i h k. by-node (λ j. kind nodes j ≡ 0 → letter nodes j < 26) i h (λ n. omega arith) (λ n. omega arith) (λ n. omega arith) (λ n. omega arith) k;
    }

-- `/` with node 2, then the module a
abbrev pub word : List ℕ
word = 386 ∷ 770 ∷ []

pub says : terms nodes word ≡ Act (Mod 0) (Event 4) ∷ []
unfolding terms mark apply intr tree_from as_intr
says = refl

pub word-right : Right nodes word
unfolding terms mark apply Right Fine
word-right = ((tt, omega arith), (omega arith, (omega arith, (omega arith, λ e. clash cc))))
