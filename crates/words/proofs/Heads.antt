-- Interruptions by their columns, and the events at their heads.
-- Assumes nothing.
use Prim.Native.Nat.{ℕ, ◌<◌}
use mathlib.Core.Bool.{Bool, true, false, ◌||◌}
use mathlib.Core.List.{List}
use mathlib.Core.Logic.{◌⊎◌, inl, inr, ⊎_elim}
use mathlib.Core.Path.{◌≡◌, refl, ap, sym, ◌∙◌}
use native.Mathlib.Nat.{pos_of_ne-zero}
use native.Mathlib.Omega.{arith}
use lib.Dec.{eqb}
use borrow.Author.Tests.{eqb-true, eqb-false}
use Rattle.paper.specs.Term.{Treat, Either, Both}
use Rattle.paper.specs.Running.{heads}
use Rattle.laws.specs.Nodes.{Nodes, kind, left, right, letter, tree, intr}
use Rattle.program.specs.declared.Node.{Node}
use Rattle.program.specs.declared.Node.TheVariants as node
use Rattle.words.specs.Pieces.{node_of, Says}
use Rattle.words.proofs.Marks.{clash}
use Rattle.words.proofs.Trees.{intr-treat, intr-either, intr-both, intr-event}

pub below_i : {P : List ℕ} (i : ℕ) → Nodes P → (kind P i ≡ 1 → ⊥) → (left P i < i) × (right P i < i)
below_i {P} i ns d =
    let p : 0 < i = pos_of_ne-zero (λ z. d (ap (kind P) z ∙ ns.zeroth)) in
    (omega (arith, ns.lower i), omega (arith, ns.righter i))

or-true : (a b : Bool) → a ≡ true → (a || b) ≡ true
or-true true b e = refl
or-true false b e = clash cc

or-false : (a b : Bool) → a ≡ false → (a || b) ≡ b
or-false true b e = clash cc
or-false false b e = refl

module _ {P : List ℕ} (i : ℕ) (ns : Nodes P) where
  pub is-either : {a b : ℕ} → Says P i (node.Either a b) → intr P i ≡ Either (intr P a) (intr P b)
  is-either c = rw (← c.1, ← c.2) (intr-either P ns i c.0)

  pub is-both : {a b : ℕ} → Says P i (node.Both a b) → intr P i ≡ Both (intr P a) (intr P b)
  is-both c = rw (← c.1, ← c.2) (intr-both P ns i c.0)

  pub is-treat : {e t : ℕ} → Says P i (node.Treat e t) → intr P i ≡ Treat e (tree P t)
  is-treat c = rw (← c.1, ← c.2) (intr-treat P ns i c.0)

  -- any other node has its own letter at its head
  pub heads-letter : (n : Node) → n ≡ node_of P i → ((a b : ℕ) → n ≡ node.Either a b → ⊥) → ((a b : ℕ) → n ≡ node.Both a b → ⊥) → (x k : ℕ) → k ≡ letter P i → eqb x k ≡ heads x (intr P i)
  unfolding heads node_of
  heads-letter n o n₈ n₉ x k q = by-treat (eqb (kind P i) 7) refl
    where
      by-treat : (b : Bool) → eqb (kind P i) 7 ≡ b → eqb x k ≡ heads x (intr P i)
      by-treat true e = rw (q, intr-treat P ns i (eqb-true (kind P i) 7 e))
      by-treat false e =
          rw (q, intr-event P ns i (eqb-false (kind P i) 7 e) (λ z. n₈ (left P i) (right P i) (o ∙ rw z)) (λ z. n₉ (left P i) (right P i) (o ∙ rw z)))

-- a join, whose heads are those of both its parts
module _ {P : List ℕ} {a b : ℕ} {n : Node} (i : ℕ) (ns : Nodes P) (c : Says P i n) (e : (n ≡ node.Either a b) ⊎ (n ≡ node.Both a b)) where
  pub join-below : (a < i) × (b < i)
  join-below = ⊎_elim (λ q. below 8 (rw q at c) (λ z. omega arith)) (λ q. below 9 (rw q at c) (λ z. omega arith)) e
    where
      below : (k : ℕ) → (kind P i ≡ k) × (left P i ≡ a) × (right P i ≡ b) → (k ≡ 1 → ⊥) → (a < i) × (b < i)
      below k d o = let l = below_i i ns (λ z. o (sym d.0 ∙ z)) in (omega (arith, d.1), omega (arith, d.2))

  heads-join : (x : ℕ) → heads x (intr P i) ≡ (heads x (intr P a) || heads x (intr P b))
  unfolding heads
  heads-join x =
      ⊎_elim (λ q. rw (is-either i ns (rw q at c))) (λ q. rw (is-both i ns (rw q at c))) e

  pub heads-left : (x k : ℕ) {r : Bool} → k ≡ a → r ≡ heads x (intr P k) → r ≡ true → r ≡ heads x (intr P i)
  heads-left x k q r t =
      t ∙ sym (heads-join x ∙ or-true (heads x (intr P a)) (heads x (intr P b)) (rw q at (sym r ∙ t)))

  pub heads-right : (x k l : ℕ) {r s : Bool} → k ≡ a → l ≡ b → r ≡ heads x (intr P k) → r ≡ false → s ≡ heads x (intr P l) → s ≡ heads x (intr P i)
  heads-right x k l p q r t s =
      rw q at s ∙ sym (heads-join x ∙ or-false (heads x (intr P a)) (heads x (intr P b)) (rw p at (sym r ∙ t)))

-- the test of a join by its kind: `|` or `||`, or neither
module _ {k : ℕ} {b : Bool} (came : ((k ≡ 8) × (b ≡ eqb k 8)) ⊎ ((k ≡ 8 → ⊥) × (b ≡ eqb k 9))) where
  pub is_join : b ≡ true → (k ≡ 8) ⊎ (k ≡ 9)
  is_join t = ⊎_elim (λ w. inl w.0) (λ w. inr (eqb-true k 9 (sym w.1 ∙ t))) came

  pub no-either : b ≡ false → k ≡ 8 → ⊥
  no-either t = ⊎_elim (λ w z. eqb-false k 8 (sym w.1 ∙ t) z) (λ w. w.0) came

  pub no_both : b ≡ false → k ≡ 9 → ⊥
  no_both t = ⊎_elim (λ w z. eqb-false k 8 (sym w.1 ∙ t) w.0) (λ w. eqb-false k 9 (sym w.1 ∙ t)) came

-- the same, where each of the two tests stands by itself
pub joins-one : {k : ℕ} → (k ≡ 8) ⊎ ((k ≡ 8 → ⊥) × (k ≡ 9)) → (k ≡ 8) ⊎ (k ≡ 9)
joins-one e = ⊎_elim (λ w. inl w) (λ w. inr w.1) e
