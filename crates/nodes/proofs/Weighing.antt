-- The weight of a node from the weights of the nodes below it: by its kind, each part is a term or an interruption, and stands below it. Assumes nothing.
use Prim.Native.Nat.{ℕ, ◌+◌, ◌≤◌, ◌<◌, max}
use mathlib.Core.List.{List}
use mathlib.Core.Path.{◌≡◌, refl, sym, ap, ◌∙◌}
use mathlib.Core.Logic.{◌⊎◌, inl, inr}
use native.Mathlib.Omega.{arith}
use native.Mathlib.Nat.{pos_of_ne-zero}
use lib.ListN.{length, get_or, set, length-set}
use lib.Seq.{get_or-set_same, get_or-set_other}
use borrow.Author.Tests.{le-leb, lt-leb, ne_eqb}
use Rattle.laws.specs.Nodes.{Nodes, kind, left, right, letter, count, tree, intr, as_term, as_intr}
use Rattle.laws.specs.Weight.{weight, weight_i}
use Rattle.nodes.specs.Weights.{node_weight, row_weight, Weighable, Weighed}
use Rattle.nodes.proofs.Choice.{by-lt, by-eq}
use Rattle.nodes.proofs.Trees.{tree_is, intr-is}
use Rattle.nodes.proofs.Apart.{of-terms}

term-weight : (P : List ℕ) (i : ℕ) → kind P i ≤ 5 → node_weight P i ≡ weight (tree P i)
unfolding node_weight
term-weight P i h = rw (le-leb (kind P i) 5 h)

intr-weight : (P : List ℕ) (i : ℕ) → 5 < kind P i → node_weight P i ≡ weight_i (intr P i)
unfolding node_weight
intr-weight P i h = rw (lt-leb (kind P i) 5 h)

module _ (P w : List ℕ) (ns : Nodes P) (i : ℕ) (h : i < count P) (f : (j : ℕ) → j < i → get_or w j 0 ≡ node_weight P j) where
  abbrev l : ℕ
  l = get_or w (left P i) 0

  abbrev r : ℕ
  r = get_or w (right P i) 0

  above : (k : ℕ) → kind P i ≡ k → 1 < k → 0 < i
  above k e d = pos_of_ne-zero (λ z. let y = ap (kind P) z ∙ ns.zeroth in omega arith)

  -- the weight of a part, by its sort
  left-term : 0 < i → kind P (left P i) ≤ 5 → l ≡ weight (tree P (left P i))
  left-term o k = f (left P i) (omega (arith, ns.lower i)) ∙ term-weight P (left P i) k

  left-intr : 0 < i → 5 < kind P (left P i) → l ≡ weight_i (intr P (left P i))
  left-intr o k = f (left P i) (omega (arith, ns.lower i)) ∙ intr-weight P (left P i) k

  right-term : 0 < i → kind P (right P i) ≤ 5 → r ≡ weight (tree P (right P i))
  right-term o k = f (right P i) (omega (arith, ns.righter i)) ∙ term-weight P (right P i) k

  right-intr : 0 < i → 5 < kind P (right P i) → r ≡ weight_i (intr P (right P i))
  right-intr o k = f (right P i) (omega (arith, ns.righter i)) ∙ intr-weight P (right P i) k

  -- the weight of the tree, by the kind k of its node
  abbrev Term-by : ℕ → Type 0
  Term-by k = kind P i ≡ k → weight (as_term k (letter P i) (tree P (left P i)) (tree P (right P i)) (intr P (right P i))) ≡ row_weight k l r

  weight-term : (k : ℕ) → k ≤ 5 → Term-by k
  unfolding weight as_term row_weight
  weight-term =
      of-terms Term-by (λ e. refl) (λ e. refl)
      (λ e. let o = above 2 e (omega arith) in let s = ns.of_seq i h e in rw (left-term o s.0, right-term o s.1))
      (λ e. let o = above 3 e (omega arith) in let s = ns.of_par i h e in rw (left-term o s.0, right-term o s.1))
      (λ e. let o = above 4 e (omega arith) in rw (left-term o (ns.of_star i h e)))
      (λ e. let o = above 5 e (omega arith) in let s = ns.of_act i h e in rw (left-term o s.0, right-intr o s.1))

  abbrev Intr-by : ℕ → Type 0
  Intr-by k = weight_i (as_intr k (letter P i) (tree P (right P i)) (intr P (left P i)) (intr P (right P i))) ≡ row_weight k l r

  weight-treat : kind P i ≡ 7 → Intr-by 7
  unfolding weight as_intr row_weight
  weight-treat e = let o = above 7 e (omega arith) in rw (right-term o (ns.of_treat i h e))

  weight-either : kind P i ≡ 8 → Intr-by 8
  unfolding weight as_intr row_weight
  weight-either e = let o = above 8 e (omega arith) in let s = ns.of_either i h e in rw (left-intr o s.0, right-intr o s.1)

  weight-both : kind P i ≡ 9 → Intr-by 9
  unfolding weight as_intr row_weight
  weight-both e = let o = above 9 e (omega arith) in let s = ns.of_both i h e in rw (left-intr o s.0, right-intr o s.1)

  -- any other is a plain event
  weight-event : (k : ℕ) → 5 < k → (k ≡ 7 → ⊥) → (k ≡ 8 → ⊥) → (k ≡ 9 → ⊥) → Intr-by k
  unfolding weight as_intr row_weight
  weight-event k g d₇ d₈ d₉ =
      rw (ne_eqb k 0 (λ z. omega arith), ne_eqb k 2 (λ z. omega arith), ne_eqb k 3 (λ z. omega arith), ne_eqb k 4 (λ z. omega arith), ne_eqb k 5 (λ z. omega arith), ne_eqb k 7 d₇, ne_eqb k 8 d₈, ne_eqb k 9 d₉)

  weight-intr : 5 < kind P i → Intr-by (kind P i)
  weight-intr g =
      by-eq (kind P i) 7 (λ e. rw e (weight-treat e))
      (λ d₇. by-eq (kind P i) 8 (λ e. rw e (weight-either e)) (λ d₈. by-eq (kind P i) 9 (λ e. rw e (weight-both e)) (λ d₉. weight-event (kind P i) g d₇ d₈ d₉)))

  pub node-weight : node_weight P i ≡ row_weight (kind P i) l r
  node-weight =
      by-lt (kind P i) 6
      (λ u. let k : kind P i ≤ 5 = omega arith in term-weight P i k ∙ (ap weight (tree_is P ns i) ∙ weight-term (kind P i) k refl))
      (λ u. let k : 5 < kind P i = omega arith in intr-weight P i k ∙ (ap weight_i (intr-is P ns i) ∙ weight-intr k))

-- the loop of `weigh`, before node i: v in place of w
pub record Weighing (P w v : List ℕ) (i : ℕ) : Type 0 where
  pub passed : i ≤ count P
  pub long : length v ≡ length w
  pub done : (j : ℕ) → j < i → get_or v j 0 ≡ node_weight P j
  pub rest : (j : ℕ) → i ≤ j → get_or v j 0 ≡ get_or w j 0

pub weighing-start : (P w : List ℕ) → Weighing P w w 0
weighing-start P w = record { passed = omega arith; long = refl; done = λ j h. absurd (omega arith); rest = λ j h. refl }

module _ {P w v : List ℕ} {room i : ℕ} (a : Weighable P room) (g : Weighing P w v i) (h : i < count P) where
  -- what the parts weigh makes up what the node weighs, which fits
  pub weighing-small : row_weight (kind P i) (get_or v (left P i) 0) (get_or v (right P i) 0) ≤ 255
  weighing-small = omega (arith, node-weight P v a.nodes i h g.done, a.small i h)

  pub weighing-next : i < length v → (s : ℕ) → s ≡ row_weight (kind P i) (get_or v (left P i) 0) (get_or v (right P i) 0) → Weighing P w (set v i s) (i + 1)
  weighing-next u s e =
      record {
        passed = omega arith;
        long = simp length-set g.long;
        done =
            λ j k.
            by-eq j i (λ z. rw (z, get_or-set_same v i s 0 u) (e ∙ sym (node-weight P v a.nodes i h g.done)))
            (λ d. get_or-set_other v i j s 0 d ∙ g.done j (omega arith));
        rest = λ j k. get_or-set_other v i j s 0 (λ z. omega arith) ∙ g.rest j (omega arith);
      }

pub weighing-end : {P w v : List ℕ} {i : ℕ} → Weighing P w v i → count P ≤ i → Weighed P w v
weighing-end {P} {w} {v} {i} g h =
    let p = g.passed in
    record { at_nodes = λ j k. g.done j (omega arith); behind = λ j k. g.rest j (omega arith) }

-- what a node weighs, by its kind
pub row-seq : (k l r : ℕ) → k ≡ 2 → row_weight k l r ≡ max (max 1 l + 1) r
unfolding row_weight
row-seq k l r e = rw e

pub row-star : (k l r : ℕ) → k ≡ 4 → row_weight k l r ≡ max 1 l + 1
unfolding row_weight
row-star k l r e = rw e

pub row-act : (k l r : ℕ) → k ≡ 5 → row_weight k l r ≡ max (l + 1) r
unfolding row_weight
row-act k l r e = rw e

-- a `||`, of terms or of interruptions
pub row-beside : (k l r : ℕ) → (k ≡ 3) ⊎ (k ≡ 9) → row_weight k l r ≡ max 1 l + max 1 r + 1
unfolding row_weight
row-beside k l r (inl e) = rw e
row-beside k l r (inr e) = rw e

-- a kind that has no weight
pub row-nothing : (k l r : ℕ) → (k ≡ 0 → ⊥) → (k ≡ 2 → ⊥) → ((k ≡ 3) ⊎ (k ≡ 9) → ⊥) → (k ≡ 4 → ⊥) → (k ≡ 5 → ⊥) → (k ≡ 7 → ⊥) → (k ≡ 8 → ⊥) → row_weight k l r ≡ 0
unfolding row_weight
row-nothing k l r d₀ d₂ d₃ d₄ d₅ d₇ d₈ =
    rw (ne_eqb k 0 d₀, ne_eqb k 2 d₂, ne_eqb k 3 (λ e. d₃ (inl e)), ne_eqb k 4 d₄, ne_eqb k 5 d₅, ne_eqb k 7 d₇, ne_eqb k 8 d₈, ne_eqb k 9 (λ e. d₃ (inr e)))
