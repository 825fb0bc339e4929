-- The tree of a node by its columns. The parts of a node stand below it, so its own number is fuel enough for each of them.
--     tree_is P ns i        the term of node i, by its columns and the trees of its parts; `intr-is` the interruption
-- Assumes nothing.
use Prim.Native.Nat.{ℕ, zero, suc, ◌≤◌}
use mathlib.Core.List.{List}
use mathlib.Core.Path.{◌≡◌, refl}
use native.Mathlib.Omega.{arith}
use Rattle.laws.specs.Nodes.{Nodes, kind, left, right, letter, tree, intr, tree_from, intr_from, as_term, as_intr}

module _ (P : List ℕ) (ns : Nodes P) where
  mutual
    unfolding tree_from as_term as_intr

    -- more fuel does no harm
    tree-fuel : (f g i : ℕ) → i ≤ f → i ≤ g → tree_from f P i ≡ tree_from g P i
    tree-fuel zero zero i a b = refl
    tree-fuel zero (suc g) i a b = let e : i ≡ 0 = omega arith in rw (e, ns.zeroth)
    tree-fuel (suc f) zero i a b = let e : i ≡ 0 = omega arith in rw (e, ns.zeroth)
    tree-fuel (suc f) (suc g) i a b =
        let l = ns.lower i in
        let r = ns.righter i in
        rw (tree-fuel f g (left P i) (omega arith) (omega arith), tree-fuel f g (right P i) (omega arith) (omega arith), intr-fuel f g (right P i) (omega arith) (omega arith))

    intr-fuel : (f g i : ℕ) → i ≤ f → i ≤ g → intr_from f P i ≡ intr_from g P i
    intr-fuel zero zero i a b = refl
    intr-fuel zero (suc g) i a b = let e : i ≡ 0 = omega arith in rw (e, ns.zeroth)
    intr-fuel (suc f) zero i a b = let e : i ≡ 0 = omega arith in rw (e, ns.zeroth)
    intr-fuel (suc f) (suc g) i a b =
        let l = ns.lower i in
        let r = ns.righter i in
        rw (tree-fuel f g (right P i) (omega arith) (omega arith), intr-fuel f g (left P i) (omega arith) (omega arith), intr-fuel f g (right P i) (omega arith) (omega arith))

  pub tree_is : (i : ℕ) → tree P i ≡ as_term (kind P i) (letter P i) (tree P (left P i)) (tree P (right P i)) (intr P (right P i))
  unfolding tree intr tree_from as_term
  tree_is zero = rw ns.zeroth
  tree_is (suc i) =
      let l = ns.lower (suc i) in
      let r = ns.righter (suc i) in
      rw (tree-fuel i (left P (suc i)) (left P (suc i)) (omega arith) (omega arith), tree-fuel i (right P (suc i)) (right P (suc i)) (omega arith) (omega arith), intr-fuel i (right P (suc i)) (right P (suc i)) (omega arith) (omega arith))

  pub intr-is : (i : ℕ) → intr P i ≡ as_intr (kind P i) (letter P i) (tree P (right P i)) (intr P (left P i)) (intr P (right P i))
  unfolding tree intr tree_from as_intr
  intr-is zero = rw ns.zeroth
  intr-is (suc i) =
      let l = ns.lower (suc i) in
      let r = ns.righter (suc i) in
      rw (tree-fuel i (right P (suc i)) (right P (suc i)) (omega arith) (omega arith), intr-fuel i (left P (suc i)) (left P (suc i)) (omega arith) (omega arith), intr-fuel i (right P (suc i)) (right P (suc i)) (omega arith) (omega arith))
