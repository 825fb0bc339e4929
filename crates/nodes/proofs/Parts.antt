-- Every node of a program's table but node 0 means a part of the program, so its letter is one of the program's names, and it weighs no more than the program.
-- By the steps from a part to what it is a part of. Assumes nothing.
--     made-module, made-event       the letter of a module, of an event, with a treatment or without
--     made-weight                   the weight of each node
--     made-weighable                of a program within 96 tokens each fits a byte
use Prim.Native.Nat.{ℕ, ◌≤◌, ◌<◌}
use mathlib.Core.Bool.{Bool, true, false, ◌||◌}
use mathlib.Core.List.{List}
use mathlib.Core.Logic.{◌⊎◌, ⊎_elim}
use mathlib.Core.Path.{◌≡◌, refl, sym, ap, subst, ◌∙◌}
use native.Mathlib.Omega.{arith}
use lib.Dec.{T, eqb}
use lib.ListN.{length}
use borrow.Author.Tests.{eq-eqb, le-leb, lt-leb}
use Rattle.paper.specs.Grammar.{Sequence, printed}
use Rattle.paper.specs.Limits.{tokens}
use Rattle.paper.specs.Term.{term_s}
use Rattle.laws.specs.Names.{uses, uses_i, nowhere, uses_module, uses_event}
use Rattle.laws.specs.Nodes.{Nodes, kind, right, letter, count, tree, intr, as_term, as_intr}
use Rattle.laws.specs.Placed.{size, placed_s}
use Rattle.laws.specs.Weight.{weight, weight_i}
use Rattle.laws.proofs.Tokens.{room-below}
use Rattle.nodes.specs.Made.{made}
use Rattle.nodes.specs.Weights.{node_weight, Weighable}
use Rattle.nodes.proofs.Choice.{by-eq}
use Rattle.nodes.proofs.Trees.{tree_is, intr-is}
use Rattle.nodes.proofs.Table.{table-nodes}
use Rattle.nodes.proofs.Means.{Meaning, a_term, an_intr, Under, of_seq₁, of_seq₂, of_par₁, of_par₂, under_star, of_act₁, of_act₂, of_treat₁, of_treat₂, of_either₁, of_either₂, of_both₁, of_both₂, PartOf, itself, inside}
use Rattle.nodes.proofs.Grown.{Says, SaysPart}
use Rattle.nodes.proofs.Laws.{start-count, made-stands, made-root, size_below}

abbrev weight_m : Meaning → ℕ
weight_m (a_term x) = weight x
weight_m (an_intr i) = weight_i i

under-weight : {u v : Meaning} → Under u v → weight_m u ≤ weight_m v
unfolding weight
under-weight of_seq₁ = omega arith
under-weight of_seq₂ = omega arith
under-weight of_par₁ = omega arith
under-weight of_par₂ = omega arith
under-weight under_star = omega arith
under-weight of_act₁ = omega arith
under-weight of_act₂ = omega arith
under-weight of_treat₁ = omega arith
under-weight of_treat₂ = omega arith
under-weight of_either₁ = omega arith
under-weight of_either₂ = omega arith
under-weight of_both₁ = omega arith
under-weight of_both₂ = omega arith

part-weight : {u v : Meaning} → PartOf u v → weight_m u ≤ weight_m v
part-weight itself = omega arith
part-weight (inside d p) = omega (arith, under-weight d, part-weight p)

in_left : (a b : Bool) → T a → T (a || b)
in_left true b t = tt
in_left false b t = absurd t

in_right : (a b : Bool) → T b → T (a || b)
in_right true b t = tt
in_right false b t = t

module _ (f g : ℕ → Bool) where
  abbrev uses_m : Meaning → Bool
  uses_m (a_term x) = uses f g x
  uses_m (an_intr i) = uses_i f g i

  under-uses : {u v : Meaning} → Under u v → T (uses_m u) → T (uses_m v)
  unfolding uses
  under-uses (of_seq₁ {x} {y}) t = in_left (uses f g x) (uses f g y) t
  under-uses (of_seq₂ {x} {y}) t = in_right (uses f g x) (uses f g y) t
  under-uses (of_par₁ {x} {y}) t = in_left (uses f g x) (uses f g y) t
  under-uses (of_par₂ {x} {y}) t = in_right (uses f g x) (uses f g y) t
  under-uses under_star t = t
  under-uses (of_act₁ {x} {i}) t = in_right (uses_i f g i) (uses f g x) t
  under-uses (of_act₂ {x} {i}) t = in_left (uses_i f g i) (uses f g x) t
  under-uses (of_treat₁ {e} {x}) t = in_left (g e) (uses f g x) t
  under-uses (of_treat₂ {e} {x}) t = in_right (g e) (uses f g x) t
  under-uses (of_either₁ {i} {j}) t = in_left (uses_i f g i) (uses_i f g j) t
  under-uses (of_either₂ {i} {j}) t = in_right (uses_i f g i) (uses_i f g j) t
  under-uses (of_both₁ {i} {j}) t = in_left (uses_i f g i) (uses_i f g j) t
  under-uses (of_both₂ {i} {j}) t = in_right (uses_i f g i) (uses_i f g j) t

  part-uses : {u v : Meaning} → PartOf u v → T (uses_m u) → T (uses_m v)
  part-uses itself t = t
  part-uses (inside d p) t = under-uses d (part-uses p t)

-- a name is itself
same_name : (a : ℕ) → T (eqb a a)
same_name a = subst T (sym (eq-eqb a a refl)) tt

module _ (at : ℕ) (q : Sequence) (few : size (placed_s at q) ≤ 189) where
  abbrev P : List ℕ
  P = (made (placed_s at q)).table

  ns : Nodes P
  ns = table-nodes P (made-stands at q few).table_of

  -- every node but node 0 means a part of the program
  pub made-part : (i : ℕ) → 0 < i → i < count P → SaysPart P i (a_term (term_s q))
  made-part i o h = (made-stands at q few).parts i (omega (arith, start-count)) h

  module-uses : (i : ℕ) (w : Meaning) → kind P i ≡ 0 → Says P i w → T (uses_m (eqb (letter P i)) nowhere w)
  unfolding uses as_term
  module-uses i (a_term x) k s = rw (← s.1, tree_is P ns i, k) (same_name (letter P i))
  module-uses i (an_intr j) k s = absurd (omega (arith, s.0))

  pub made-module : (i : ℕ) → i < count P → kind P i ≡ 0 → T (uses_module (letter P i) (term_s q))
  made-module i h k =
      let o : (i ≡ 0 → ⊥) = λ z. let y = ap (kind P) z ∙ (made-stands at q few).table_of.zeroth in omega (arith, k) in
      let p = made-part i (by-eq i 0 (λ z. absurd (o z)) (λ d. omega arith)) h in
      part-uses (eqb (letter P i)) nowhere p.1.0 (module-uses i p.0 k p.1.1)

  plain-uses : (i : ℕ) → kind P i ≡ 6 → T (uses_i nowhere (eqb (letter P i)) (intr P i))
  unfolding uses as_intr
  plain-uses i k = rw (intr-is P ns i, k) (same_name (letter P i))

  treat-uses : (i : ℕ) → kind P i ≡ 7 → T (uses_i nowhere (eqb (letter P i)) (intr P i))
  unfolding uses as_intr
  treat-uses i k =
      rw (intr-is P ns i, k)
      (in_left (eqb (letter P i) (letter P i)) (uses nowhere (eqb (letter P i)) (tree P (right P i))) (same_name (letter P i)))

  event-uses : (i : ℕ) (w : Meaning) → (kind P i ≡ 6) ⊎ (kind P i ≡ 7) → Says P i w → T (uses_m nowhere (eqb (letter P i)) w)
  event-uses i (a_term x) k s = absurd (⊎_elim (λ e. omega (arith, s.0)) (λ e. omega (arith, s.0)) k)
  event-uses i (an_intr j) k s = rw (← s.1) (⊎_elim (plain-uses i) (treat-uses i) k)

  pub made-event : (i : ℕ) → i < count P → (kind P i ≡ 6) ⊎ (kind P i ≡ 7) → T (uses_event (letter P i) (term_s q))
  made-event i h k =
      let o : (i ≡ 0 → ⊥) = λ z. let y = ap (kind P) z ∙ (made-stands at q few).table_of.zeroth in ⊎_elim (λ e. omega (arith, y)) (λ e. omega (arith, y)) k in
      let p = made-part i (by-eq i 0 (λ z. absurd (o z)) (λ d. omega arith)) h in
      part-uses nowhere (eqb (letter P i)) p.1.0 (event-uses i p.0 k p.1.1)

  says-weight : (i : ℕ) (w : Meaning) → Says P i w → node_weight P i ≡ weight_m w
  unfolding node_weight
  says-weight i (a_term x) s = rw (le-leb (kind P i) 5 s.0) (ap weight s.1)
  says-weight i (an_intr j) s = rw (lt-leb (kind P i) 5 s.0) (ap weight_i s.1)

  pub made-weight : (i : ℕ) → i < count P → node_weight P i ≤ weight (term_s q)
  unfolding node_weight weight as_term
  made-weight i h =
      by-eq i 0 (λ z. let t = (made-stands at q few).table_of.zeroth in rw (z, t, tree_is P ns 0, t) (omega arith))
      (λ d. let p = made-part i (omega arith) h in omega (arith, says-weight i p.0 p.1.1, part-weight p.1.0))

-- what `weigh` asks
pub made-weighable : (at : ℕ) (q : Sequence) → length (tokens at (printed q)) ≤ 96 → Weighable (made (placed_s at q)).table 192
made-weighable at q h =
    let few = size_below at q h in
    let r = made-root at q few in
    record { nodes = r.nodes; places = omega (arith, r.few); small = λ i u. omega (arith, made-weight at q few i u, room-below at q) }
