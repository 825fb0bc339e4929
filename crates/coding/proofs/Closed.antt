-- No rule leaves the written set. What a rewriting leaves right of the walk was there before, or is a part of such a part; and the parts of a node
-- are nodes (`node_over`, `hit-over`). Weight, memory and stopped set are kept as `laws` has it, and at the end memory and set are empty.
-- Assumes nothing.
use Prim.Native.Nat.{ℕ, zero, suc, ◌≤◌, ◌<◌}
use mathlib.Core.List.{List, []}
use mathlib.Core.Path.{◌≡◌, refl, sym, ap, subst, ◌∙◌}
use native.Mathlib.Nat.{pos_of_ne-zero}
use native.Mathlib.Omega.{arith}
use lib.Dec.{T}
use Rattle.paper.specs.Lists.{has}
use Rattle.paper.specs.Term.{Term, Intr, Left, Mod, One, Seq, Par, Star, Act, Event, Treat, Either, Both, gone, still, eq_t}
use Rattle.paper.specs.Rewriting.{Letter, completion, occurrence, ends, strikes, seq_l, par_l, act_l, star_l, hit, rewritten, completed, taken}
use Rattle.paper.specs.Settling.{Held, settled}
use Rattle.paper.specs.Reaction.{Program, State, start_of, moved, stopped_after, reaction}
use Rattle.paper.specs.Discovery.{Among, letters}
use Rattle.paper.proofs.Choices.{clash}
use Rattle.paper.proofs.Settles.{Quiet, settled-quiet}
use Rattle.laws.specs.Nodes.{Nodes, kind, left, right, letter, count, tree, intr}
use Rattle.laws.specs.Weight.{weight_l}
use Rattle.laws.proofs.Kept.{both_ways, side_l, reaction-keeps}
use Rattle.laws.proofs.Reached.{by-occurred, memory-none, moved-memory, own-none, stopped-own}
use Rattle.laws.proofs.Weighs.{reaction-weighs}
use Rattle.nodes.proofs.Apart.{of-terms}
use Rattle.nodes.proofs.Choice.{by-eq}
use Rattle.words.proofs.Trees.{tree-mod, tree-one, tree-seq, tree-par, tree-star, tree-act, intr-treat, intr-either, intr-both, intr-event}
use Rattle.coding.specs.Units.{IsTerm, IsIntr, Over, OverL}
use Rattle.coding.specs.Written.{nodes_of, Written}
use Rattle.coding.proofs.Fit.{Fit}

-- ---- parts of nodes are nodes

module _ (P : List ℕ) (ns : Nodes P) where
  -- a node that is not `1` is not node 0
  above : (i : ℕ) → (kind P i ≡ 1 → ⊥) → 0 < i
  above i d = pos_of_ne-zero (λ z. d (ap (kind P) z ∙ ns.zeroth))

  -- an interruption is of one of four kinds
  by_kind : {A : Type 0} (j : ℕ) → (kind P j ≡ 7 → A) → (kind P j ≡ 8 → A) → (kind P j ≡ 9 → A) → (intr P j ≡ Event (letter P j) → A) → A
  by_kind j a b c d =
      by-eq (kind P j) 7 a (λ n₇. by-eq (kind P j) 8 b (λ n₈. by-eq (kind P j) 9 c (λ n₉. d (intr-event P ns j n₇ n₈ n₉))))

  treat-part : {e : ℕ} {t : Term} → IsIntr P (Treat e t) → IsTerm P t
  treat-part {e} {t} n =
      let j = n.0 in
      let q = n.1.1.1 in
      let h = n.1.0 in
      by_kind j
      (λ k.
      let s : Treat (letter P j) (tree P (right P j)) ≡ Treat e t = sym (intr-treat P ns j k) ∙ q in
      let r = ns.righter j in
      (right P j, (omega arith, (ns.of_treat j h k, cc))))
      (λ k. let s = sym (intr-either P ns j k) ∙ q in clash cc)
      (λ k. let s = sym (intr-both P ns j k) ∙ q in clash cc)
      (λ k. let s = sym k ∙ q in clash cc)

  -- the two sides of a join
  sides : (j : ℕ) → j < count P → (5 < kind P (left P j)) × (5 < kind P (right P j)) → IsIntr P (intr P (left P j)) × IsIntr P (intr P (right P j))
  sides j h o =
      let l = ns.lower j in
      let r = ns.righter j in
      ((left P j, (omega arith, (o.0, refl))), (right P j, (omega arith, (o.1, refl))))

  either-parts : {i₁ i₂ : Intr} → IsIntr P (Either i₁ i₂) → IsIntr P i₁ × IsIntr P i₂
  either-parts {i₁} {i₂} n =
      let j = n.0 in
      let q = n.1.1.1 in
      by_kind j
      (λ k. let s = sym (intr-treat P ns j k) ∙ q in clash cc)
      (λ k.
      let s : Either (intr P (left P j)) (intr P (right P j)) ≡ Either i₁ i₂ = sym (intr-either P ns j k) ∙ q in
      let a : intr P (left P j) ≡ i₁ = cc in
      let b : intr P (right P j) ≡ i₂ = cc in
      rw (← a, ← b) (sides j n.1.0 (ns.of_either j n.1.0 k)))
      (λ k. let s = sym (intr-both P ns j k) ∙ q in clash cc)
      (λ k. let s = sym k ∙ q in clash cc)

  both-parts : {i₁ i₂ : Intr} → IsIntr P (Both i₁ i₂) → IsIntr P i₁ × IsIntr P i₂
  both-parts {i₁} {i₂} n =
      let j = n.0 in
      let q = n.1.1.1 in
      by_kind j
      (λ k. let s = sym (intr-treat P ns j k) ∙ q in clash cc)
      (λ k. let s = sym (intr-either P ns j k) ∙ q in clash cc)
      (λ k.
      let s : Both (intr P (left P j)) (intr P (right P j)) ≡ Both i₁ i₂ = sym (intr-both P ns j k) ∙ q in
      let a : intr P (left P j) ≡ i₁ = cc in
      let b : intr P (right P j) ≡ i₂ = cc in
      rw (← a, ← b) (sides j n.1.0 (ns.of_both j n.1.0 k)))
      (λ k. let s = sym k ∙ q in clash cc)

module _ (P ms : List ℕ) (ns : Nodes P) (owned : (i : ℕ) → i < count P → kind P i ≡ 0 → T (has (letter P i) ms)) where
  -- below b, the term of a node is over the nodes
  node_over : (b i : ℕ) → i < b → i < count P → kind P i ≤ 5 → Over P ms (tree P i)
  unfolding Over
  node_over zero i u h k = absurd (omega arith)
  node_over (suc b) i u h k =
      let l = ns.lower i in
      let r = ns.righter i in
      of-terms (λ n. kind P i ≡ n → Over P ms (tree P i))
      (λ e. rw (tree-mod P ns i e) (owned i h e))
      (λ e. rw (tree-one P ns i (λ z. omega arith) (λ z. omega arith) (λ z. omega arith) (λ z. omega arith) (λ z. omega arith)) tt)
      (λ e.
      let o = above P ns i (λ z. omega arith) in
      let s = ns.of_seq i h e in
      rw (tree-seq P ns i e) (node_over b (left P i) (omega arith) (omega arith) s.0, (right P i, (omega arith, (s.1, refl)))))
      (λ e.
      let o = above P ns i (λ z. omega arith) in
      let s = ns.of_par i h e in
      rw (tree-par P ns i e) (node_over b (left P i) (omega arith) (omega arith) s.0, node_over b (right P i) (omega arith) (omega arith) s.1))
      (λ e.
      let o = above P ns i (λ z. omega arith) in
      rw (tree-star P ns i e) (node_over b (left P i) (omega arith) (omega arith) (ns.of_star i h e), (i, (h, (k, tree-star P ns i e)))))
      (λ e.
      let o = above P ns i (λ z. omega arith) in
      let s = ns.of_act i h e in
      rw (tree-act P ns i e) (node_over b (left P i) (omega arith) (omega arith) s.0, (right P i, (omega arith, (s.1, refl)))))
      (kind P i) k refl

  pub term-over : {t : Term} → IsTerm P t → Over P ms t
  term-over n = subst (Over P ms) n.1.1.1 (node_over (count P) n.0 n.1.0 n.1.0 n.1.1.0)

  -- ---- rewriting, join by join

  seq_l-over : (r : Left) (y : Term) → OverL P ms r → IsTerm P y → OverL P ms (seq_l r y)
  unfolding OverL Over
  seq_l-over gone y h n = term-over n
  seq_l-over (still x) y h n = (h, n)

  par_l-over : (r s : Left) → OverL P ms r → OverL P ms s → OverL P ms (par_l r s)
  unfolding OverL Over
  par_l-over gone s h k = k
  par_l-over (still x) gone h k = h
  par_l-over (still x) (still y) h k = (h, k)

  act_l-over : (r : Left) (i : Intr) → OverL P ms r → IsIntr P i → OverL P ms (act_l r i)
  unfolding OverL Over
  act_l-over gone i h n = tt
  act_l-over (still x) i h n = (h, n)

  star_l-over : (r : Left) (x : Term) → OverL P ms r → Over P ms (Star x) → OverL P ms (star_l r x)
  unfolding OverL Over star_l
  star_l-over gone x h o = o
  star_l-over (still y) x h o = both_ways (OverL P ms) (eq_t y x) (still (Star x)) (still (Seq y (Star x))) o (h, o.1)

  side_l-over : (l : Letter) (i : Intr) → IsIntr P i → OverL P ms (hit l i) → OverL P ms (side_l l i)
  unfolding OverL Over
  side_l-over l i n h = both_ways (OverL P ms) (strikes l i) (hit l i) (still (Act One i)) h (tt, n)

  hit-over : (l : Letter) (i : Intr) → IsIntr P i → OverL P ms (hit l i)
  unfolding OverL hit
  hit-over l (Event f) n = tt
  hit-over l (Treat f t) n = term-over (treat-part P ns n)
  hit-over l (Either i j) n =
      let w = either-parts P ns n in
      both_ways (OverL P ms) (strikes l i) (hit l i) (hit l j) (hit-over l i w.0) (hit-over l j w.1)
  hit-over l (Both i j) n =
      let w = both-parts P ns n in
      par_l-over (side_l l i) (side_l l j) (side_l-over l i w.0 (hit-over l i w.0)) (side_l-over l j w.1 (hit-over l j w.1))

  pub rewritten-over : (l : Letter) (t : Term) → OverL P ms (still t) → OverL P ms (rewritten l t)
  unfolding OverL Over rewritten
  rewritten-over l (Mod n) h = both_ways (OverL P ms) (ends l n) gone (still (Mod n)) tt h
  rewritten-over l One h = tt
  rewritten-over l (Seq x y) h = seq_l-over (rewritten l x) y (rewritten-over l x h.0) h.1
  rewritten-over l (Par x y) h = par_l-over (rewritten l x) (rewritten l y) (rewritten-over l x h.0) (rewritten-over l y h.1)
  rewritten-over l (Star x) h = star_l-over (rewritten l x) x (rewritten-over l x h.0) h
  rewritten-over l (Act x i) h =
      both_ways (OverL P ms) (strikes l i) (hit l i) (act_l (rewritten l x) i) (hit-over l i h.1) (act_l-over (rewritten l x) i (rewritten-over l x h.0) h.1)

-- ---- at the end

-- settling that comes to the end empties the memory
settled-end : (h : Held) → Quiet h.left h.memory → h.left ≡ gone → h.memory ≡ []
settled-end h q e = subst (λ (r : Left). Quiet r h.memory) e q

moved-end : (p : Program) (l : Letter) (r : Left) (m : List ℕ) → (r ≡ gone → m ≡ []) → (moved p l r m).left ≡ gone → (moved p l r m).memory ≡ []
unfolding moved
moved-end p (completion a) gone m h e = h refl
moved-end p (occurrence x) gone m h e = h refl
moved-end p (completion a) (still t) m h e = settled-end (settled (completed a t) m) (settled-quiet (completed a t) m) e
moved-end p (occurrence x) (still t) m h e =
    by-occurred p x t m (λ z. z.left ≡ gone → z.memory ≡ []) (settled-end (settled (taken x t) m) (settled-quiet (taken x t) m)) (λ q. clash (cc)) (λ f n u q. clash (cc)) e

-- ---- the set

module _ (p : Program) (f : Fit p) where
  pub start_in : Written p (start_of p)
  unfolding start_of OverL weight_l
  start_in =
      record {
        over = term-over (nodes_of p) p.modules f.nodes f.owned f.root;
        light = f.light;
        memory = memory-none p;
        stopped = own-none p;
        ended = λ e. clash (cc);
      }

  pub step_in : (s : State) (l : Letter) → Written p s → Among l (letters p) → Written p (reaction p l s).state
  unfolding reaction stopped_after
  step_in s l w a =
      let r = (moved p l s.left s.memory).left in
      record {
        over = reaction-keeps (OverL (nodes_of p) p.modules) (rewritten-over (nodes_of p) p.modules f.nodes f.owned) p l s w.over;
        light = omega (arith, reaction-weighs p l s, w.light);
        memory = moved-memory p l s.left s.memory a w.memory;
        stopped = stopped-own p l s r;
        ended = λ e. (moved-end p l s.left s.memory (λ q. (w.ended q).0) e, rw e);
      }
