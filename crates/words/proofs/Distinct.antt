-- Nodes with different columns have different trees: to keep equal trees at equal numbers (`Apart`) it is enough to keep equal columns at
-- equal numbers (`Columnar`). By induction on the nodes' numbers, one case a kind. Assumes nothing.
use Prim.Native.Nat.{ℕ, zero, suc, ◌+◌, ◌≤◌, ◌<◌}
use mathlib.Core.List.{List}
use mathlib.Core.Logic.{◌⊎◌, inl, inr}
use mathlib.Core.Path.{◌≡◌, ap, sym, ◌∙◌}
use native.Mathlib.Nat.{pos_of_ne-zero}
use native.Mathlib.Omega.{arith}
use Rattle.paper.specs.Term.{Term, Intr, Mod, One, Seq, Par, Star, Act, Event, Treat, Either, Both}
use Rattle.laws.specs.Nodes.{Nodes, Apart, kind, left, right, letter, count, tree, intr}
use Rattle.words.proofs.Marks.{by-lt}
use Rattle.words.proofs.Trees.{tree-seq, tree-par, tree-star, tree-act, tree-mod, tree-one, intr-treat, intr-either, intr-both, intr-event}

unfoldable tag : Term → ℕ
tag (Mod a) = 0
tag One = 1
tag (Seq x y) = 2
tag (Par x y) = 3
tag (Star x) = 4
tag (Act x i) = 5

unfoldable tag_i : Intr → ℕ
tag_i (Event a) = 6
tag_i (Treat a t) = 7
tag_i (Either i j) = 8
tag_i (Both i j) = 9

-- the columns of no two nodes are the same, and a column that a node's kind does not use is 0
pub record Columnar (P : List ℕ) : Type 0 where
  pub distinct : (i j : ℕ) → i < count P → j < count P → kind P i ≡ kind P j → left P i ≡ left P j → right P i ≡ right P j → letter P i ≡ letter P j → i ≡ j
  pub ones : (i : ℕ) → i < count P → kind P i ≡ 1 → i ≡ 0
  pub kinds : (i : ℕ) → i < count P → kind P i ≤ 9
  pub no_left : (i : ℕ) → i < count P → (kind P i ≡ 0) ⊎ ((kind P i ≡ 6) ⊎ (kind P i ≡ 7)) → left P i ≡ 0
  pub no_right : (i : ℕ) → i < count P → (kind P i ≡ 0) ⊎ ((kind P i ≡ 4) ⊎ (kind P i ≡ 6)) → right P i ≡ 0
  pub no_letter : (i : ℕ) → 0 < i → i < count P → (kind P i ≡ 2) ⊎ ((kind P i ≡ 3) ⊎ ((kind P i ≡ 4) ⊎ ((kind P i ≡ 5) ⊎ ((kind P i ≡ 8) ⊎ (kind P i ≡ 9))))) → letter P i ≡ 0

-- one of six
by-six : {A : Type 0} (b k : ℕ) → b ≤ k → k ≤ b + 5 → (k ≡ b → A) → (k ≡ b + 1 → A) → (k ≡ b + 2 → A) → (k ≡ b + 3 → A) → (k ≡ b + 4 → A) → (k ≡ b + 5 → A) → A
by-six b k h l f0 f1 f2 f3 f4 f5 =
    by-lt k (b + 1) (λ p. f0 (omega arith)) λ p.
    by-lt k (b + 2) (λ q. f1 (omega arith)) λ q.
    by-lt k (b + 3) (λ r. f2 (omega arith)) λ r.
    by-lt k (b + 4) (λ s. f3 (omega arith)) λ s.
    by-lt k (b + 5) (λ t. f4 (omega arith)) λ t.
    f5 (omega arith)

module _ (P : List ℕ) (ns : Nodes P) (cs : Columnar P) where
  above : (i : ℕ) → (kind P i ≡ 1 → ⊥) → 0 < i
  above i d = pos_of_ne-zero (λ z. d (ap (kind P) z ∙ ns.zeroth))

  tag_is : (i : ℕ) → kind P i ≤ 5 → tag (tree P i) ≡ kind P i
  unfolding tag
  tag_is i h =
      by-six 0 (kind P i) (omega arith) h
      (λ k. rw (tree-mod P ns i k, k))
      (λ k. rw (tree-one P ns i (λ z. omega arith) (λ z. omega arith) (λ z. omega arith) (λ z. omega arith) (λ z. omega arith), k))
      (λ k. rw (tree-seq P ns i k, k))
      (λ k. rw (tree-par P ns i k, k))
      (λ k. rw (tree-star P ns i k, k))
      (λ k. rw (tree-act P ns i k, k))

  tag_i-is : (i : ℕ) → i < count P → 5 < kind P i → tag_i (intr P i) ≡ kind P i
  unfolding tag_i
  tag_i-is i si h =
      let l = cs.kinds i si in
      by-six 4 (kind P i) (omega arith) (omega arith)
      (λ k. absurd (omega arith))
      (λ k. absurd (omega arith))
      (λ k. rw (intr-event P ns i (λ z. omega arith) (λ z. omega arith) (λ z. omega arith), k))
      (λ k. rw (intr-treat P ns i k, k))
      (λ k. rw (intr-either P ns i k, k))
      (λ k. rw (intr-both P ns i k, k))

  mutual
    same-tree : (b i j : ℕ) → i < b → j < b → i < count P → j < count P → kind P i ≤ 5 → kind P j ≤ 5 → tree P i ≡ tree P j → i ≡ j
    same-tree zero i j a c si sj ki kj e = absurd (omega arith)
    same-tree (suc b) i j a c si sj ki kj e =
        let kk : kind P i ≡ kind P j = sym (tag_is i ki) ∙ ap tag e ∙ tag_is j kj in
        let li = ns.lower i in
        let lj = ns.lower j in
        let ri = ns.righter i in
        let rj = ns.righter j in
        by-six 0 (kind P i) (omega arith) ki
        (λ k.
        let q : kind P j ≡ 0 = sym kk ∙ k in
        let t : Mod (letter P i) ≡ Mod (letter P j) = sym (tree-mod P ns i k) ∙ e ∙ tree-mod P ns j q in
        cs.distinct i j si sj kk (cs.no_left i si (inl k) ∙ sym (cs.no_left j sj (inl q))) (cs.no_right i si (inl k) ∙ sym (cs.no_right j sj (inl q))) (cc))
        (λ k. cs.ones i si k ∙ sym (cs.ones j sj (sym kk ∙ k)))
        (λ k.
        let q : kind P j ≡ 2 = sym kk ∙ k in
        let pi = above i (λ z. omega arith) in
        let pj = above j (λ z. omega arith) in
        let t : Seq (tree P (left P i)) (tree P (right P i)) ≡ Seq (tree P (left P j)) (tree P (right P j)) = sym (tree-seq P ns i k) ∙ e ∙ tree-seq P ns j q in
        let oi = ns.of_seq i si k in
        let oj = ns.of_seq j sj q in
        cs.distinct i j si sj kk (same-tree b (left P i) (left P j) (omega arith) (omega arith) (omega arith) (omega arith) oi.0 oj.0 (cc)) (same-tree b (right P i) (right P j) (omega arith) (omega arith) (omega arith) (omega arith) oi.1 oj.1 (cc)) (cs.no_letter i pi si (inl (k)) ∙ sym (cs.no_letter j pj sj (inl (q)))))
        (λ k.
        let q : kind P j ≡ 3 = sym kk ∙ k in
        let pi = above i (λ z. omega arith) in
        let pj = above j (λ z. omega arith) in
        let t : Par (tree P (left P i)) (tree P (right P i)) ≡ Par (tree P (left P j)) (tree P (right P j)) = sym (tree-par P ns i k) ∙ e ∙ tree-par P ns j q in
        let oi = ns.of_par i si k in
        let oj = ns.of_par j sj q in
        cs.distinct i j si sj kk (same-tree b (left P i) (left P j) (omega arith) (omega arith) (omega arith) (omega arith) oi.0 oj.0 (cc)) (same-tree b (right P i) (right P j) (omega arith) (omega arith) (omega arith) (omega arith) oi.1 oj.1 (cc)) (cs.no_letter i pi si (inr (inl (k))) ∙ sym (cs.no_letter j pj sj (inr (inl (q))))))
        (λ k.
        let q : kind P j ≡ 4 = sym kk ∙ k in
        let pi = above i (λ z. omega arith) in
        let pj = above j (λ z. omega arith) in
        let t : Star (tree P (left P i)) ≡ Star (tree P (left P j)) = sym (tree-star P ns i k) ∙ e ∙ tree-star P ns j q in
        let oi = ns.of_star i si k in
        let oj = ns.of_star j sj q in
        cs.distinct i j si sj kk (same-tree b (left P i) (left P j) (omega arith) (omega arith) (omega arith) (omega arith) oi oj (cc)) (cs.no_right i si (inr (inl k)) ∙ sym (cs.no_right j sj (inr (inl q)))) (cs.no_letter i pi si (inr (inr (inl (k)))) ∙ sym (cs.no_letter j pj sj (inr (inr (inl (q)))))))
        (λ k.
        let q : kind P j ≡ 5 = sym kk ∙ k in
        let pi = above i (λ z. omega arith) in
        let pj = above j (λ z. omega arith) in
        let t : Act (tree P (left P i)) (intr P (right P i)) ≡ Act (tree P (left P j)) (intr P (right P j)) = sym (tree-act P ns i k) ∙ e ∙ tree-act P ns j q in
        let oi = ns.of_act i si k in
        let oj = ns.of_act j sj q in
        cs.distinct i j si sj kk (same-tree b (left P i) (left P j) (omega arith) (omega arith) (omega arith) (omega arith) oi.0 oj.0 (cc)) (same-intr b (right P i) (right P j) (omega arith) (omega arith) (omega arith) (omega arith) oi.1 oj.1 (cc)) (cs.no_letter i pi si (inr (inr (inr (inl (k))))) ∙ sym (cs.no_letter j pj sj (inr (inr (inr (inl (q))))))))

    same-intr : (b i j : ℕ) → i < b → j < b → i < count P → j < count P → 5 < kind P i → 5 < kind P j → intr P i ≡ intr P j → i ≡ j
    same-intr zero i j a c si sj ki kj e = absurd (omega arith)
    same-intr (suc b) i j a c si sj ki kj e =
        let kk : kind P i ≡ kind P j = sym (tag_i-is i si ki) ∙ ap tag_i e ∙ tag_i-is j sj kj in
        let li = ns.lower i in
        let lj = ns.lower j in
        let ri = ns.righter i in
        let rj = ns.righter j in
        let l = cs.kinds i si in
        by-six 4 (kind P i) (omega arith) (omega arith)
        (λ k. absurd (omega arith))
        (λ k. absurd (omega arith))
        (λ k.
        let q : kind P j ≡ 6 = sym kk ∙ k in
        let ei = intr-event P ns i (λ z. omega arith) (λ z. omega arith) (λ z. omega arith) in
        let ej = intr-event P ns j (λ z. omega arith) (λ z. omega arith) (λ z. omega arith) in
        let t : Event (letter P i) ≡ Event (letter P j) = sym ei ∙ e ∙ ej in
        cs.distinct i j si sj kk (cs.no_left i si (inr (inl k)) ∙ sym (cs.no_left j sj (inr (inl q)))) (cs.no_right i si (inr (inr k)) ∙ sym (cs.no_right j sj (inr (inr q)))) (cc))
        (λ k.
        let q : kind P j ≡ 7 = sym kk ∙ k in
        let pi = above i (λ z. omega arith) in
        let pj = above j (λ z. omega arith) in
        let t : Treat (letter P i) (tree P (right P i)) ≡ Treat (letter P j) (tree P (right P j)) = sym (intr-treat P ns i k) ∙ e ∙ intr-treat P ns j q in
        let oi = ns.of_treat i si k in
        let oj = ns.of_treat j sj q in
        cs.distinct i j si sj kk (cs.no_left i si (inr (inr k)) ∙ sym (cs.no_left j sj (inr (inr q)))) (same-tree b (right P i) (right P j) (omega arith) (omega arith) (omega arith) (omega arith) oi oj (cc)) (cc))
        (λ k.
        let q : kind P j ≡ 8 = sym kk ∙ k in
        let pi = above i (λ z. omega arith) in
        let pj = above j (λ z. omega arith) in
        let t : Either (intr P (left P i)) (intr P (right P i)) ≡ Either (intr P (left P j)) (intr P (right P j)) = sym (intr-either P ns i k) ∙ e ∙ intr-either P ns j q in
        let oi = ns.of_either i si k in
        let oj = ns.of_either j sj q in
        cs.distinct i j si sj kk (same-intr b (left P i) (left P j) (omega arith) (omega arith) (omega arith) (omega arith) oi.0 oj.0 (cc)) (same-intr b (right P i) (right P j) (omega arith) (omega arith) (omega arith) (omega arith) oi.1 oj.1 (cc)) (cs.no_letter i pi si (inr (inr (inr (inr (inl (k)))))) ∙ sym (cs.no_letter j pj sj (inr (inr (inr (inr (inl (q)))))))))
        (λ k.
        let q : kind P j ≡ 9 = sym kk ∙ k in
        let pi = above i (λ z. omega arith) in
        let pj = above j (λ z. omega arith) in
        let t : Both (intr P (left P i)) (intr P (right P i)) ≡ Both (intr P (left P j)) (intr P (right P j)) = sym (intr-both P ns i k) ∙ e ∙ intr-both P ns j q in
        let oi = ns.of_both i si k in
        let oj = ns.of_both j sj q in
        cs.distinct i j si sj kk (same-intr b (left P i) (left P j) (omega arith) (omega arith) (omega arith) (omega arith) oi.0 oj.0 (cc)) (same-intr b (right P i) (right P j) (omega arith) (omega arith) (omega arith) (omega arith) oi.1 oj.1 (cc)) (cs.no_letter i pi si (inr (inr (inr (inr (inr (k)))))) ∙ sym (cs.no_letter j pj sj (inr (inr (inr (inr (inr (q)))))))))

  -- so a reader that keeps the columns apart keeps the trees apart
  pub apart : Apart P
  apart =
      record { terms = λ i j si sj ki kj e. same-tree (count P) i j si sj si sj ki kj e; intrs = λ i j si sj ki kj e. same-intr (count P) i j si sj si sj ki kj e }
