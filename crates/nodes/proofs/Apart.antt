-- Nodes whose columns differ have different trees, and nodes that are added keep the trees of those that are there.
-- A tree shows the kind of its node, and by its kind its letter and the trees of its parts (`same-term`); and these make up the tree (`term-same`).
-- So both go by the sorts of a node's parts, from the lower nodes to the higher. Assumes nothing.
use Prim.Native.Nat.{ℕ, zero, suc, ◌≤◌, ◌<◌}
use mathlib.Core.Bool.{Bool, true, false}
use mathlib.Core.List.{List}
use mathlib.Core.Path.{◌≡◌, refl, sym, ap, ◌∙◌}
use native.Mathlib.Omega.{arith}
use Rattle.paper.specs.Term.{Term, Intr, Mod, One, Seq, Par, Star, Act, Event, Treat, Either, Both}
use Rattle.laws.specs.Nodes.{Apart, kind, left, right, letter, count, tree, intr, as_term, as_intr}
use Rattle.nodes.proofs.Choice.{by-eq}
use Rattle.nodes.proofs.Trees.{tree_is, intr-is}
use Rattle.nodes.proofs.Table.{Sort, none, term, intr as intr_sort, left_sort, right_sort, lettered, Part, Fits, FitsBy, Table, Grows, table-nodes}

unfoldable kind_t : Term → ℕ
kind_t (Mod a) = 0
kind_t One = 1
kind_t (Seq x y) = 2
kind_t (Par x y) = 3
kind_t (Star x) = 4
kind_t (Act x i) = 5

unfoldable kind_i : Intr → ℕ
kind_i (Event a) = 6
kind_i (Treat a t) = 7
kind_i (Either i j) = 8
kind_i (Both i j) = 9

-- what holds at each kind of a term holds of every kind up to 5; and at those of an interruption, from there to 9
pub of-terms : (C : ℕ → Type 0) → C 0 → C 1 → C 2 → C 3 → C 4 → C 5 → (k : ℕ) → k ≤ 5 → C k
of-terms C c₀ c₁ c₂ c₃ c₄ c₅ zero h = c₀
of-terms C c₀ c₁ c₂ c₃ c₄ c₅ (suc zero) h = c₁
of-terms C c₀ c₁ c₂ c₃ c₄ c₅ (suc (suc zero)) h = c₂
of-terms C c₀ c₁ c₂ c₃ c₄ c₅ (suc (suc (suc zero))) h = c₃
of-terms C c₀ c₁ c₂ c₃ c₄ c₅ (suc (suc (suc (suc zero)))) h = c₄
of-terms C c₀ c₁ c₂ c₃ c₄ c₅ (suc (suc (suc (suc (suc zero))))) h = c₅
of-terms C c₀ c₁ c₂ c₃ c₄ c₅ (suc (suc (suc (suc (suc (suc k)))))) h = absurd (omega arith)

pub of-intrs : (C : ℕ → Type 0) → C 6 → C 7 → C 8 → C 9 → (k : ℕ) → 5 < k → k ≤ 9 → C k
of-intrs C c₆ c₇ c₈ c₉ k g h =
    by-eq k 6 (λ e. rw e c₆) (λ d₆. by-eq k 7 (λ e. rw e c₇) (λ d₇. by-eq k 8 (λ e. rw e c₈) (λ d₈. let e : k ≡ 9 = omega arith in rw e c₉)))

term-kind : (k a : ℕ) (x y : Term) (n : Intr) → k ≤ 5 → kind_t (as_term k a x y n) ≡ k
unfolding kind_t as_term
term-kind k a x y n h = of-terms (λ k. kind_t (as_term k a x y n) ≡ k) refl refl refl refl refl refl k h

intr-kind : (k a : ℕ) (x : Term) (m n : Intr) → 5 < k → k ≤ 9 → kind_i (as_intr k a x m n) ≡ k
unfolding kind_i as_intr
intr-kind k a x m n g h = of-intrs (λ k. kind_i (as_intr k a x m n) ≡ k) refl refl refl refl k g h

-- A of a term, B of an interruption
abbrev By : Sort → Type 0 → Type 0 → Type 0
By none A B = Unit {0}
By term A B = A
By intr_sort A B = B

abbrev When : Bool → Type 0 → Type 0
When true A = A
When false A = Unit {0}

-- by the kind: the left parts, the right parts and the letters are the same, as far as there are any
abbrev Alike : ℕ → Type 0 → Type 0 → Type 0 → Type 0 → Type 0 → Type 0
Alike k A B C D E = By (left_sort k) A B × (By (right_sort k) C D × When (lettered k) E)

module _ (B : Type 0) (a b : ℕ) (x x' y y' : Term) (n n' : Intr) where
  same-term : (k : ℕ) → k ≤ 5 → as_term k a x y n ≡ as_term k b x' y' n' → Alike k (x ≡ x') B (y ≡ y') (n ≡ n') (a ≡ b)
  unfolding as_term left_sort right_sort lettered
  same-term =
      of-terms (λ k. as_term k a x y n ≡ as_term k b x' y' n' → Alike k (x ≡ x') B (y ≡ y') (n ≡ n') (a ≡ b))
      (λ e. (tt, (tt, (cc)))) (λ e. (tt, (tt, tt))) (λ e. ((cc), ((cc), tt))) (λ e. ((cc), ((cc), tt))) (λ e. ((cc), (tt, tt)))
      (λ e. ((cc), ((cc), tt)))

  term-same : (k : ℕ) → k ≤ 5 → Alike k (x ≡ x') B (y ≡ y') (n ≡ n') (a ≡ b) → as_term k a x y n ≡ as_term k b x' y' n'
  unfolding as_term left_sort right_sort lettered
  term-same =
      of-terms (λ k. Alike k (x ≡ x') B (y ≡ y') (n ≡ n') (a ≡ b) → as_term k a x y n ≡ as_term k b x' y' n')
      (λ s. cc s.1.1) (λ s. refl) (λ s. cc (s.0, s.1.0)) (λ s. cc (s.0, s.1.0)) (λ s. cc s.0) (λ s. cc (s.0, s.1.0))

module _ (A : Type 0) (a b : ℕ) (y y' : Term) (m m' n n' : Intr) where
  same-intr : (k : ℕ) → 5 < k → k ≤ 9 → as_intr k a y m n ≡ as_intr k b y' m' n' → Alike k A (m ≡ m') (y ≡ y') (n ≡ n') (a ≡ b)
  unfolding as_intr left_sort right_sort lettered
  same-intr =
      of-intrs (λ k. as_intr k a y m n ≡ as_intr k b y' m' n' → Alike k A (m ≡ m') (y ≡ y') (n ≡ n') (a ≡ b))
      (λ e. (tt, (tt, (cc)))) (λ e. (tt, ((cc), (cc)))) (λ e. ((cc), ((cc), tt))) (λ e. ((cc), ((cc), tt)))

  intr-same : (k : ℕ) → 5 < k → k ≤ 9 → Alike k A (m ≡ m') (y ≡ y') (n ≡ n') (a ≡ b) → as_intr k a y m n ≡ as_intr k b y' m' n'
  unfolding as_intr left_sort right_sort lettered
  intr-same =
      of-intrs (λ k. Alike k A (m ≡ m') (y ≡ y') (n ≡ n') (a ≡ b) → as_intr k a y m n ≡ as_intr k b y' m' n')
      (λ s. cc s.1.1) (λ s. cc (s.1.0, s.1.1)) (λ s. cc (s.0, s.1.0)) (λ s. cc (s.0, s.1.0))

-- letters of one kind, the same where the kind has one, are the same
fits-same : (b : Bool) (x y : ℕ) → FitsBy b x → FitsBy b y → When b (x ≡ y) → x ≡ y
fits-same true x y p q e = e
fits-same false x y p q e = p ∙ sym q

module _ (P : List ℕ) (t : Table P) where
  -- from the trees of two nodes of one kind to their columns
  columns-same : (i j : ℕ) → i < count P → j < count P → kind P i ≡ kind P j → left P i ≡ left P j → right P i ≡ right P j
      → When (lettered (kind P i)) (letter P i ≡ letter P j) → i ≡ j
  columns-same i j si sj k l r a =
      by-eq i 0 (λ z. z ∙ sym (t.ones j sj (sym k ∙ (ap (kind P) z ∙ t.zeroth))))
      (λ z.
      by-eq j 0 (λ y. t.ones i si (k ∙ (ap (kind P) y ∙ t.zeroth)) ∙ sym y)
      (λ y.
      let fj : Fits (kind P i) (letter P j) = rw k (t.letters j (omega arith) sj) in
      let b : letter P i ≡ letter P j = fits-same (lettered (kind P i)) (letter P i) (letter P j) (t.letters i (omega arith) si) fj a in
      t.distinct i j (omega arith) si (omega arith) sj (record { its_kind = sym k; its_left = sym l; its_right = sym r; its_letter = sym b })))

  -- below b, equal trees are equal numbers
  abbrev ApartBelow : ℕ → Type 0
  ApartBelow b =
      ((i j : ℕ) → i < b → j < b → i < count P → j < count P → kind P i ≤ 5 → kind P j ≤ 5 → tree P i ≡ tree P j → i ≡ j)
      × ((i j : ℕ) → i < b → j < b → i < count P → j < count P → 5 < kind P i → 5 < kind P j → intr P i ≡ intr P j → i ≡ j)

  part_apart : (b i j : ℕ) (s : Sort) (m n : ℕ) → ApartBelow b → i ≤ b → j ≤ b → i < count P → j < count P → Part P i s m → Part P j s n
      → By s (tree P m ≡ tree P n) (intr P m ≡ intr P n) → m ≡ n
  part_apart b i j none m n f u v si sj p q e = p ∙ sym q
  part_apart b i j term m n f u v si sj p q e = f.0 m n (omega arith) (omega arith) (omega arith) (omega arith) p.1 q.1 e
  part_apart b i j intr_sort m n f u v si sj p q e = f.1 m n (omega arith) (omega arith) (omega arith) (omega arith) p.1 q.1 e

  -- two nodes of one kind whose parts and letters are alike
  alike_same : (b i j : ℕ) → ApartBelow b → i ≤ b → j ≤ b → i < count P → j < count P → kind P i ≡ kind P j
      → Alike (kind P i) (tree P (left P i) ≡ tree P (left P j)) (intr P (left P i) ≡ intr P (left P j)) (tree P (right P i) ≡ tree P (right P j)) (intr P (right P i) ≡ intr P (right P j)) (letter P i ≡ letter P j)
      → i ≡ j
  alike_same b i j f u v si sj k s =
      columns-same i j si sj k
      (part_apart b i j (left_sort (kind P i)) (left P i) (left P j) f u v si sj (t.rows i si).left_fits (rw k (t.rows j sj).left_fits) s.0)
      (part_apart b i j (right_sort (kind P i)) (right P i) (right P j) f u v si sj (t.rows i si).right_fits (rw k (t.rows j sj).right_fits) s.1.0)
      s.1.1

  tree_apart : (b i j : ℕ) → ApartBelow b → i ≤ b → j ≤ b → i < count P → j < count P → kind P i ≤ 5 → kind P j ≤ 5 → tree P i ≡ tree P j → i ≡ j
  tree_apart b i j f u v si sj ki kj e =
      let ns = table-nodes P t in
      let ei = tree_is P ns i in
      let ej = tree_is P ns j in
      let k : kind P i ≡ kind P j =
      sym (term-kind (kind P i) (letter P i) (tree P (left P i)) (tree P (right P i)) (intr P (right P i)) ki)
      ∙ (ap kind_t (sym ei ∙ (e ∙ ej)) ∙ term-kind (kind P j) (letter P j) (tree P (left P j)) (tree P (right P j)) (intr P (right P j)) kj) in
      let d : as_term (kind P i) (letter P i) (tree P (left P i)) (tree P (right P i)) (intr P (right P i)) ≡ as_term (kind P i) (letter P j) (tree P (left P j)) (tree P (right P j)) (intr P (right P j)) =
      sym ei ∙ (e ∙ (ej ∙ ap (λ (x : ℕ). as_term x (letter P j) (tree P (left P j)) (tree P (right P j)) (intr P (right P j))) (sym k))) in
      alike_same b i j f u v si sj k
      (same-term (intr P (left P i) ≡ intr P (left P j)) (letter P i) (letter P j) (tree P (left P i)) (tree P (left P j)) (tree P (right P i)) (tree P (right P j)) (intr P (right P i)) (intr P (right P j)) (kind P i) ki d)

  intr-apart : (b i j : ℕ) → ApartBelow b → i ≤ b → j ≤ b → i < count P → j < count P → 5 < kind P i → 5 < kind P j → intr P i ≡ intr P j → i ≡ j
  intr-apart b i j f u v si sj ki kj e =
      let ns = table-nodes P t in
      let ei = intr-is P ns i in
      let ej = intr-is P ns j in
      let ni = (t.rows i si).known in
      let k : kind P i ≡ kind P j =
      sym (intr-kind (kind P i) (letter P i) (tree P (right P i)) (intr P (left P i)) (intr P (right P i)) ki ni)
      ∙ (ap kind_i (sym ei ∙ (e ∙ ej)) ∙ intr-kind (kind P j) (letter P j) (tree P (right P j)) (intr P (left P j)) (intr P (right P j)) kj (t.rows j sj).known) in
      let d : as_intr (kind P i) (letter P i) (tree P (right P i)) (intr P (left P i)) (intr P (right P i)) ≡ as_intr (kind P i) (letter P j) (tree P (right P j)) (intr P (left P j)) (intr P (right P j)) =
      sym ei ∙ (e ∙ (ej ∙ ap (λ (x : ℕ). as_intr x (letter P j) (tree P (right P j)) (intr P (left P j)) (intr P (right P j))) (sym k))) in
      alike_same b i j f u v si sj k
      (same-intr (tree P (left P i) ≡ tree P (left P j)) (letter P i) (letter P j) (tree P (right P i)) (tree P (right P j)) (intr P (left P i)) (intr P (left P j)) (intr P (right P i)) (intr P (right P j)) (kind P i) ki ni d)

  apart_below : (b : ℕ) → ApartBelow b
  apart_below zero = (λ i j u v si sj ki kj e. absurd (omega arith), λ i j u v si sj ki kj e. absurd (omega arith))
  apart_below (suc b) = (
    λ i j u v si sj ki kj e. tree_apart b i j (apart_below b) (omega arith) (omega arith) si sj ki kj e,
    λ i j u v si sj ki kj e. intr-apart b i j (apart_below b) (omega arith) (omega arith) si sj ki kj e,
  )

  pub table-apart : Apart P
  table-apart =
      record {
        terms = λ i j si sj ki kj e. (apart_below (count P)).0 i j si sj si sj ki kj e;
        intrs = λ i j si sj ki kj e. (apart_below (count P)).1 i j si sj si sj ki kj e;
      }

-- the letter of a node other than node 0 is kept; that of node 0, which has none, counts the nodes
letter-kept : (P Q : List ℕ) → Table P → Grows P Q → (i : ℕ) → i < count P → When (lettered (kind P i)) (letter P i ≡ letter Q i)
unfolding lettered
letter-kept P Q t g i h =
    by-eq i 0 (λ z. rw (z, t.zeroth) tt) (λ z. when (lettered (kind P i)) (sym (g.letters i (omega arith) h)))
  where
    when : {A : Type 0} (b : Bool) → A → When b A
    when true a = a
    when false a = tt

module _ (P Q : List ℕ) (t : Table P) (u : Table Q) (g : Grows P Q) where
  -- below b, trees are kept
  abbrev KeptBelow : ℕ → Type 0
  KeptBelow b =
      ((i : ℕ) → i < b → i < count P → kind P i ≤ 5 → tree P i ≡ tree Q i) × ((i : ℕ) → i < b → i < count P → 5 < kind P i → intr P i ≡ intr Q i)

  part-kept : (b i : ℕ) (s : Sort) (j : ℕ) → KeptBelow b → i ≤ b → i < count P → Part P i s j → By s (tree P j ≡ tree Q j) (intr P j ≡ intr Q j)
  part-kept b i none j f h s p = tt
  part-kept b i term j f h s p = f.0 j (omega arith) (omega arith) p.1
  part-kept b i intr_sort j f h s p = f.1 j (omega arith) (omega arith) p.1

  alike-kept : (b i : ℕ) → KeptBelow b → i ≤ b → i < count P
      → Alike (kind P i) (tree P (left P i) ≡ tree Q (left P i)) (intr P (left P i) ≡ intr Q (left P i)) (tree P (right P i) ≡ tree Q (right P i)) (intr P (right P i) ≡ intr Q (right P i)) (letter P i ≡ letter Q i)
  alike-kept b i f h s = (
    part-kept b i (left_sort (kind P i)) (left P i) f h s (t.rows i s).left_fits,
    (part-kept b i (right_sort (kind P i)) (right P i) f h s (t.rows i s).right_fits, letter-kept P Q t g i s),
  )

  tree-kept : (b i : ℕ) → KeptBelow b → i ≤ b → i < count P → kind P i ≤ 5 → tree P i ≡ tree Q i
  tree-kept b i f h s k =
      tree_is P (table-nodes P t) i
      ∙ (term-same (intr P (left P i) ≡ intr Q (left P i)) (letter P i) (letter Q i) (tree P (left P i)) (tree Q (left P i)) (tree P (right P i)) (tree Q (right P i)) (intr P (right P i)) (intr Q (right P i)) (kind P i) k (alike-kept b i f h s)
      ∙ sym (rw (← g.kinds i s, ← g.lefts i s, ← g.rights i s) (tree_is Q (table-nodes Q u) i)))

  intr-kept : (b i : ℕ) → KeptBelow b → i ≤ b → i < count P → 5 < kind P i → intr P i ≡ intr Q i
  intr-kept b i f h s k =
      intr-is P (table-nodes P t) i
      ∙ (intr-same (tree P (left P i) ≡ tree Q (left P i)) (letter P i) (letter Q i) (tree P (right P i)) (tree Q (right P i)) (intr P (left P i)) (intr Q (left P i)) (intr P (right P i)) (intr Q (right P i)) (kind P i) k (t.rows i s).known (alike-kept b i f h s)
      ∙ sym (rw (← g.kinds i s, ← g.lefts i s, ← g.rights i s) (intr-is Q (table-nodes Q u) i)))

  kept-below : (b : ℕ) → KeptBelow b
  kept-below zero = (λ i h s k. absurd (omega arith), λ i h s k. absurd (omega arith))
  kept-below (suc b) = (λ i h s k. tree-kept b i (kept-below b) (omega arith) s k, λ i h s k. intr-kept b i (kept-below b) (omega arith) s k)

  -- adding nodes keeps the trees of those that are there
  pub grows-tree : (i : ℕ) → i < count P → kind P i ≤ 5 → tree P i ≡ tree Q i
  grows-tree i h k = (kept-below (count P)).0 i h h k

  pub grows-intr : (i : ℕ) → i < count P → 5 < kind P i → intr P i ≡ intr Q i
  grows-intr i h k = (kept-below (count P)).1 i h h k
