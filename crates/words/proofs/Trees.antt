-- A node's tree by its columns. Parts stand below their node, so more fuel than the node's number changes nothing (`tree_from-same`).
-- Assumes nothing.
use Prim.Native.Nat.{ℕ, zero, suc, ◌≤◌, ◌<◌}
use mathlib.Core.Bool.{Bool, true, false}
use mathlib.Core.List.{List}
use mathlib.Core.Logic.{◌↔◌}
use mathlib.Core.Path.{◌≡◌, refl}
use native.Mathlib.Omega.{arith}
use borrow.Author.Tests.{ne_eqb}
use Rattle.std.specs.Bool.{IsTrue}
use Rattle.paper.specs.Term.{Mod, One, Seq, Par, Star, Act, Event, Treat, Either, Both}
use Rattle.laws.specs.Nodes.{Nodes, kind, left, right, letter, tree, intr, tree_from, intr_from, as_term, as_intr}
use Rattle.program.specs.declared.Node.{Node}
use Rattle.program.specs.declared.Node.TheVariants as node
use Rattle.program.specs.Rows.{kind_in}
use Rattle.words.specs.Pieces.{Says}
use Rattle.words.proofs.Marks.{by-lt, clash}

module _ (P : List ℕ) (ns : Nodes P) where
  mutual
    unfolding tree_from as_term as_intr

    tree_from-same : (f g i : ℕ) → i ≤ f → i ≤ g → tree_from f P i ≡ tree_from g P i
    tree_from-same zero zero i a b = refl
    tree_from-same zero (suc g) i a b = let e : i ≡ 0 = omega arith in rw (e, ns.zeroth)
    tree_from-same (suc f) zero i a b = let e : i ≡ 0 = omega arith in rw (e, ns.zeroth)
    tree_from-same (suc f) (suc g) i a b =
        let l = ns.lower i in
        let r = ns.righter i in
        rw (tree_from-same f g (left P i) (omega arith) (omega arith), tree_from-same f g (right P i) (omega arith) (omega arith), intr_from-same f g (right P i) (omega arith) (omega arith))

    intr_from-same : (f g i : ℕ) → i ≤ f → i ≤ g → intr_from f P i ≡ intr_from g P i
    intr_from-same zero zero i a b = refl
    intr_from-same zero (suc g) i a b = let e : i ≡ 0 = omega arith in rw (e, ns.zeroth)
    intr_from-same (suc f) zero i a b = let e : i ≡ 0 = omega arith in rw (e, ns.zeroth)
    intr_from-same (suc f) (suc g) i a b =
        let l = ns.lower i in
        let r = ns.righter i in
        rw (tree_from-same f g (right P i) (omega arith) (omega arith), intr_from-same f g (left P i) (omega arith) (omega arith), intr_from-same f g (right P i) (omega arith) (omega arith))

  -- a node's tree by its columns
  pub tree_is : (i : ℕ) → tree P i ≡ as_term (kind P i) (letter P i) (tree P (left P i)) (tree P (right P i)) (intr P (right P i))
  unfolding tree intr tree_from as_term
  tree_is zero = rw ns.zeroth
  tree_is (suc i) =
      let l = ns.lower (suc i) in
      let r = ns.righter (suc i) in
      rw (tree_from-same i (left P (suc i)) (left P (suc i)) (omega arith) (omega arith), tree_from-same i (right P (suc i)) (right P (suc i)) (omega arith) (omega arith), intr_from-same i (right P (suc i)) (right P (suc i)) (omega arith) (omega arith))

  pub tree-seq : (i : ℕ) → kind P i ≡ 2 → tree P i ≡ Seq (tree P (left P i)) (tree P (right P i))
  unfolding as_term
  tree-seq i k = rw (tree_is i, k)

  pub tree-par : (i : ℕ) → kind P i ≡ 3 → tree P i ≡ Par (tree P (left P i)) (tree P (right P i))
  unfolding as_term
  tree-par i k = rw (tree_is i, k)

  pub tree-star : (i : ℕ) → kind P i ≡ 4 → tree P i ≡ Star (tree P (left P i))
  unfolding as_term
  tree-star i k = rw (tree_is i, k)

  pub tree-act : (i : ℕ) → kind P i ≡ 5 → tree P i ≡ Act (tree P (left P i)) (intr P (right P i))
  unfolding as_term
  tree-act i k = rw (tree_is i, k)

  pub tree-mod : (i : ℕ) → kind P i ≡ 0 → tree P i ≡ Mod (letter P i)
  unfolding as_term
  tree-mod i k = rw (tree_is i, k)

  pub tree-one : (i : ℕ) → (kind P i ≡ 0 → ⊥) → (kind P i ≡ 2 → ⊥) → (kind P i ≡ 3 → ⊥) → (kind P i ≡ 4 → ⊥) → (kind P i ≡ 5 → ⊥) → tree P i ≡ One
  unfolding as_term
  tree-one i a b c d e =
      rw (tree_is i, ne_eqb (kind P i) 0 a, ne_eqb (kind P i) 2 b, ne_eqb (kind P i) 3 c, ne_eqb (kind P i) 4 d, ne_eqb (kind P i) 5 e)

module _ (P : List ℕ) (ns : Nodes P) where
  pub intr-is : (i : ℕ) → intr P i ≡ as_intr (kind P i) (letter P i) (tree P (right P i)) (intr P (left P i)) (intr P (right P i))
  unfolding tree intr tree_from as_intr
  intr-is zero = rw ns.zeroth
  intr-is (suc i) =
      let l = ns.lower (suc i) in
      let r = ns.righter (suc i) in
      rw (tree_from-same P ns i (right P (suc i)) (right P (suc i)) (omega arith) (omega arith), intr_from-same P ns i (left P (suc i)) (left P (suc i)) (omega arith) (omega arith), intr_from-same P ns i (right P (suc i)) (right P (suc i)) (omega arith) (omega arith))

  pub intr-treat : (i : ℕ) → kind P i ≡ 7 → intr P i ≡ Treat (letter P i) (tree P (right P i))
  unfolding as_intr
  intr-treat i k = rw (intr-is i, k)

  pub intr-either : (i : ℕ) → kind P i ≡ 8 → intr P i ≡ Either (intr P (left P i)) (intr P (right P i))
  unfolding as_intr
  intr-either i k = rw (intr-is i, k)

  pub intr-both : (i : ℕ) → kind P i ≡ 9 → intr P i ≡ Both (intr P (left P i)) (intr P (right P i))
  unfolding as_intr
  intr-both i k = rw (intr-is i, k)

  pub intr-event : (i : ℕ) → (kind P i ≡ 7 → ⊥) → (kind P i ≡ 8 → ⊥) → (kind P i ≡ 9 → ⊥) → intr P i ≡ Event (letter P i)
  unfolding as_intr
  intr-event i a b c = rw (intr-is i, ne_eqb (kind P i) 7 a, ne_eqb (kind P i) 8 b, ne_eqb (kind P i) 9 c)

-- the nodes of terms
pub term-kind : (P : List ℕ) (j : ℕ) (n : Node) → Says P j n → (kind_in n ≤ 5 → kind P j ≤ 5) × (kind P j ≤ 5 → kind_in n ≤ 5)
term-kind P j (node.Module a) c = (λ h. omega (arith, c.0), λ h. omega arith)
term-kind P j node.One c = (λ h. omega (arith, c), λ h. omega arith)
term-kind P j (node.Sequence x y) c = (λ h. omega (arith, c.0), λ h. omega arith)
term-kind P j (node.Par x y) c = (λ h. omega (arith, c.0), λ h. omega arith)
term-kind P j (node.Star x) c = (λ h. omega (arith, c.0), λ h. omega arith)
term-kind P j (node.Act x i) c = (λ h. omega (arith, c.0), λ h. omega arith)
term-kind P j (node.Event e) c = (λ h. absurd (omega arith), λ h. absurd (omega (arith, c.0)))
term-kind P j (node.Treat e t) c = (λ h. absurd (omega arith), λ h. absurd (omega (arith, c.0)))
term-kind P j (node.Either i k) c = (λ h. absurd (omega arith), λ h. absurd (omega (arith, c.0)))
term-kind P j (node.Both i k) c = (λ h. absurd (omega arith), λ h. absurd (omega (arith, c.0)))

-- what the test of a term's node says of its kind
module _ (P : List ℕ) (j : ℕ) (n : Node) {v : Bool} (c : Says P j n) (e : IsTrue v ↔ (kind_in n ≤ 5)) where
  pub kind-of : v ≡ true → kind P j ≤ 5
  kind-of t = (term-kind P j n c).0 (e.0 t)

  pub kind-over : v ≡ false → 5 < kind P j
  kind-over f =
      by-lt (kind P j) 6 (λ l. let t : v ≡ true = e.1 ((term-kind P j n c).1 (omega arith)) in clash cc) (λ h. h)
