-- The parts of a node from those of the nodes below it: each of its own parts is a term or an interruption, and stands below it.
-- Capped numbers below give the capped number above (`counted`). Assumes nothing.
use Prim.Native.Nat.{ℕ, suc, ◌+◌, ◌≤◌, ◌<◌}
use mathlib.Core.Bool.{Bool, true, false}
use mathlib.Core.List.{List}
use mathlib.Core.Path.{◌≡◌, refl, sym, ap, ◌∙◌}
use native.Mathlib.Omega.{arith}
use lib.Dec.{eqb}
use lib.ListN.{get_or}
use borrow.Author.Tests.{le-leb, lt-leb, ne_eqb, eqb-true, eqb-false}
use Rattle.paper.specs.Term.{parts, parts_i}
use Rattle.laws.specs.Nodes.{Nodes, kind, left, right, letter, count, tree, intr}
use Rattle.program.specs.declared.Node.{Node}
use Rattle.program.specs.declared.Node.TheVariants.{Module, One, Sequence, Par, Star, Act, Event, Treat, Either, Both}
use Rattle.program.specs.Rows.{kind_in, left_in, right_in}
use Rattle.words.specs.Pieces.{node_of, Says}
use Rattle.words.proofs.Marks.{by-lt, clash}
use Rattle.words.proofs.Heads.{below_i}
use Rattle.words.proofs.Trees.{tree-seq, tree-par, tree-star, tree-act, tree-mod, tree-one, intr-treat, intr-either, intr-both, intr-event}
use Rattle.parts.specs.Parts.{capped, node_parts, row_parts}

pub term-parts : (P : List ℕ) (i : ℕ) → kind P i ≤ 5 → node_parts P i ≡ parts (tree P i)
unfolding node_parts
term-parts P i h = rw (le-leb (kind P i) 5 h)

pub intr-parts : (P : List ℕ) (i : ℕ) → 5 < kind P i → node_parts P i ≡ parts_i (intr P i)
unfolding node_parts
intr-parts P i h = rw (lt-leb (kind P i) 5 h)

module _ (P : List ℕ) (ns : Nodes P) (i : ℕ) (h : i < count P) where
  node_seq : (x y : ℕ) → Says P i (Sequence x y) → node_parts P i ≡ suc (node_parts P x + node_parts P y)
  unfolding parts
  node_seq x y c =
      let s = ns.of_seq i h c.0 in
      term-parts P i (omega (arith, c.0)) ∙ (ap parts (tree-seq P ns i c.0) ∙ omega (arith, term-parts P (left P i) s.0, term-parts P (right P i) s.1, ap (node_parts P) c.1, ap (node_parts P) c.2))

  node-par : (x y : ℕ) → Says P i (Par x y) → node_parts P i ≡ suc (node_parts P x + node_parts P y)
  unfolding parts
  node-par x y c =
      let s = ns.of_par i h c.0 in
      term-parts P i (omega (arith, c.0)) ∙ (ap parts (tree-par P ns i c.0) ∙ omega (arith, term-parts P (left P i) s.0, term-parts P (right P i) s.1, ap (node_parts P) c.1, ap (node_parts P) c.2))

  node-star : (x : ℕ) → Says P i (Star x) → node_parts P i ≡ suc (node_parts P x)
  unfolding parts
  node-star x c =
      term-parts P i (omega (arith, c.0)) ∙ (ap parts (tree-star P ns i c.0) ∙ omega (arith, term-parts P (left P i) (ns.of_star i h c.0), ap (node_parts P) c.1))

  node-act : (x y : ℕ) → Says P i (Act x y) → node_parts P i ≡ suc (node_parts P x + node_parts P y)
  unfolding parts
  node-act x y c =
      let s = ns.of_act i h c.0 in
      term-parts P i (omega (arith, c.0)) ∙ (ap parts (tree-act P ns i c.0) ∙ omega (arith, term-parts P (left P i) s.0, intr-parts P (right P i) s.1, ap (node_parts P) c.1, ap (node_parts P) c.2))

  node-treat : (e t : ℕ) → Says P i (Treat e t) → node_parts P i ≡ suc (suc (node_parts P t))
  unfolding parts
  node-treat e t c =
      intr-parts P i (omega (arith, c.0)) ∙ (ap parts_i (intr-treat P ns i c.0) ∙ omega (arith, term-parts P (right P i) (ns.of_treat i h c.0), ap (node_parts P) c.2))

  node-either : (x y : ℕ) → Says P i (Either x y) → node_parts P i ≡ suc (node_parts P x + node_parts P y)
  unfolding parts
  node-either x y c =
      let s = ns.of_either i h c.0 in
      intr-parts P i (omega (arith, c.0)) ∙ (ap parts_i (intr-either P ns i c.0) ∙ omega (arith, intr-parts P (left P i) s.0, intr-parts P (right P i) s.1, ap (node_parts P) c.1, ap (node_parts P) c.2))

  node-both : (x y : ℕ) → Says P i (Both x y) → node_parts P i ≡ suc (node_parts P x + node_parts P y)
  unfolding parts
  node-both x y c =
      let s = ns.of_both i h c.0 in
      intr-parts P i (omega (arith, c.0)) ∙ (ap parts_i (intr-both P ns i c.0) ∙ omega (arith, intr-parts P (left P i) s.0, intr-parts P (right P i) s.1, ap (node_parts P) c.1, ap (node_parts P) c.2))

  node-mod : (a : ℕ) → Says P i (Module a) → node_parts P i ≡ 1
  unfolding parts
  node-mod a c = term-parts P i (omega (arith, c.0)) ∙ ap parts (tree-mod P ns i c.0)

  node-one : Says P i One → node_parts P i ≡ 1
  unfolding parts
  node-one c =
      term-parts P i (omega (arith, c)) ∙ ap parts (tree-one P ns i (λ z. omega arith) (λ z. omega arith) (λ z. omega arith) (λ z. omega arith) (λ z. omega arith))

  node-event : (e : ℕ) → Event e ≡ node_of P i → Says P i (Event e) → node_parts P i ≡ 1
  unfolding parts node_of
  node-event e o c =
      intr-parts P i c.0
      ∙ ap parts_i (intr-event P ns i
      (λ z. let q : Event e ≡ Treat (letter P i) (right P i) = o ∙ rw z in clash cc)
      (λ z. let q : Event e ≡ Either (left P i) (right P i) = o ∙ rw z in clash cc)
      (λ z. let q : Event e ≡ Both (left P i) (right P i) = o ∙ rw z in clash cc))

  -- where the nodes below i have their parts in v, capped
  module _ (v : List ℕ) (done : (j : ℕ) → j < i → get_or v j 0 ≡ capped (node_parts P j)) where
    below : (kind P i ≡ 1 → ⊥) → (get_or v (left P i) 0 ≡ capped (node_parts P (left P i))) × (get_or v (right P i) 0 ≡ capped (node_parts P (right P i)))
    below d = let l = below_i i ns d in (done (left P i) l.0, done (right P i) l.1)

    both-parts : {x y : ℕ} → (kind P i ≡ 1 → ⊥) → left P i ≡ x → right P i ≡ y → node_parts P i ≡ suc (node_parts P x + node_parts P y) → capped (suc (get_or v x 0 + get_or v y 0)) ≡ capped (node_parts P i)
    both-parts {x} {y} d a b e =
        let l = below d in
        omega (arith, e, l.0, l.1, ap (node_parts P) a, ap (node_parts P) b, ap (λ (n : ℕ). get_or v n 0) a, ap (λ (n : ℕ). get_or v n 0) b)

    pub counted : (n : Node) → n ≡ node_of P i → Says P i n → capped (row_parts (kind_in n) (get_or v (left_in n) 0) (get_or v (right_in n) 0)) ≡ capped (node_parts P i)
    unfolding row_parts
    counted (Module a) o c = ap capped (sym (node-mod a c))
    counted One o c = ap capped (sym (node-one c))
    counted (Sequence x y) o c = both-parts (λ z. omega (arith, c.0)) c.1 c.2 (node_seq x y c)
    counted (Par x y) o c = both-parts (λ z. omega (arith, c.0)) c.1 c.2 (node-par x y c)
    counted (Star x) o c =
        let l = below (λ z. omega (arith, c.0)) in
        omega (arith, node-star x c, l.0, ap (node_parts P) c.1, ap (λ (n : ℕ). get_or v n 0) c.1)
    counted (Act x y) o c = both-parts (λ z. omega (arith, c.0)) c.1 c.2 (node-act x y c)
    counted (Event e) o c = ap capped (sym (node-event e o c))
    counted (Treat e t) o c =
        let l = below (λ z. omega (arith, c.0)) in
        omega (arith, node-treat e t c, l.1, ap (node_parts P) c.2, ap (λ (n : ℕ). get_or v n 0) c.2)
    counted (Either x y) o c = both-parts (λ z. omega (arith, c.0)) c.1 c.2 (node-either x y c)
    counted (Both x y) o c = both-parts (λ z. omega (arith, c.0)) c.1 c.2 (node-both x y c)

by-eq : {A : Type 0} (m n : ℕ) → (m ≡ n → A) → ((m ≡ n → ⊥) → A) → A
by-eq {A} m n f g = go (eqb m n) refl
  where
    go : (b : Bool) → eqb m n ≡ b → A
    go true e = f (eqb-true m n e)
    go false e = g (eqb-false m n e)

-- ---- a row, by its kind
pub row-terms : (k l r : ℕ) → 2 ≤ k → k < 4 → row_parts k l r ≡ suc (l + r)
unfolding row_parts
row-terms k l r a b =
    by-eq k 2 (λ e. rw e) (λ d. let e : k ≡ 3 = omega arith in rw e)

pub row-act : (k l r : ℕ) → k ≡ 5 → row_parts k l r ≡ suc (l + r)
unfolding row_parts
row-act k l r e = rw e

pub row-intrs : (k l r : ℕ) → 8 ≤ k → k < 10 → row_parts k l r ≡ suc (l + r)
unfolding row_parts
row-intrs k l r a b =
    by-eq k 8 (λ e. rw e) (λ d. let e : k ≡ 9 = omega arith in rw e)

pub row-star : (k l r : ℕ) → k ≡ 4 → row_parts k l r ≡ suc l
unfolding row_parts
row-star k l r e = rw e

pub row-treat : (k l r : ℕ) → k ≡ 7 → row_parts k l r ≡ suc (suc r)
unfolding row_parts
row-treat k l r e = rw e

-- a name, `1`, or no kind at all
pub row-leaf : (k l r : ℕ) → (2 ≤ k → k < 10 → k ≡ 6) → row_parts k l r ≡ 1
unfolding row_parts
row-leaf k l r h =
    let d : (n : ℕ) → 2 ≤ n → n < 10 → (n ≡ 6 → ⊥) → k ≡ n → ⊥ = λ n a b z e. z (sym e ∙ h (omega arith) (omega arith)) in
    rw (
      ne_eqb k 2 (d 2 (omega arith) (omega arith) (λ z. omega arith)),
      ne_eqb k 3 (d 3 (omega arith) (omega arith) (λ z. omega arith)),
      ne_eqb k 5 (d 5 (omega arith) (omega arith) (λ z. omega arith)),
      ne_eqb k 8 (d 8 (omega arith) (omega arith) (λ z. omega arith)),
      ne_eqb k 9 (d 9 (omega arith) (omega arith) (λ z. omega arith)),
      ne_eqb k 4 (d 4 (omega arith) (omega arith) (λ z. omega arith)),
      ne_eqb k 7 (d 7 (omega arith) (omega arith) (λ z. omega arith)),
    )

-- ---- a node, by its columns
module _ (P : List ℕ) (ns : Nodes P) (i : ℕ) (h : i < count P) where
  abbrev l : ℕ
  l = node_parts P (left P i)

  abbrev r : ℕ
  r = node_parts P (right P i)

  abbrev Goal : Type 0
  Goal = node_parts P i ≡ row_parts (kind P i) l r

  event-row : 5 < kind P i → (kind P i ≡ 7 → ⊥) → (kind P i ≡ 8 → ⊥) → (kind P i ≡ 9 → ⊥) → Goal
  unfolding parts
  event-row g d₇ d₈ d₉ =
      intr-parts P i g ∙ (ap parts_i (intr-event P ns i d₇ d₈ d₉) ∙ sym (row-leaf (kind P i) l r (λ a b. omega arith)))

  term-row : kind P i ≤ 5 → Goal
  term-row k =
      by-eq (kind P i) 0 (λ e. node-mod P ns i h (letter P i) (e, refl) ∙ sym (row-leaf (kind P i) l r (λ a b. omega arith))) λ d₀.
      by-eq (kind P i) 1 (λ e. node-one P ns i h e ∙ sym (row-leaf (kind P i) l r (λ a b. omega arith))) λ d₁.
      by-eq (kind P i) 2 (λ e. node_seq P ns i h (left P i) (right P i) (e, refl, refl) ∙ sym (row-terms (kind P i) l r (omega arith) (omega arith))) λ d₂.
      by-eq (kind P i) 3 (λ e. node-par P ns i h (left P i) (right P i) (e, refl, refl) ∙ sym (row-terms (kind P i) l r (omega arith) (omega arith))) λ d₃.
      by-eq (kind P i) 4 (λ e. node-star P ns i h (left P i) (e, refl) ∙ sym (row-star (kind P i) l r e)) λ d₄.
      let e : kind P i ≡ 5 = omega arith in
      node-act P ns i h (left P i) (right P i) (e, refl, refl) ∙ sym (row-act (kind P i) l r e)

  intr-row : 5 < kind P i → Goal
  intr-row k =
      by-eq (kind P i) 7 (λ e. node-treat P ns i h (letter P i) (right P i) (e, refl, refl) ∙ sym (row-treat (kind P i) l r e)) λ d₇.
      by-eq (kind P i) 8 (λ e. node-either P ns i h (left P i) (right P i) (e, refl, refl) ∙ sym (row-intrs (kind P i) l r (omega arith) (omega arith))) λ d₈.
      by-eq (kind P i) 9 (λ e. node-both P ns i h (left P i) (right P i) (e, refl, refl) ∙ sym (row-intrs (kind P i) l r (omega arith) (omega arith))) λ d₉.
      event-row k d₇ d₈ d₉

  pub node-parts : Goal
  node-parts = by-lt (kind P i) 6 (λ k. term-row (omega arith)) (λ k. intr-row (omega arith))
