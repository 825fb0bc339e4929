-- A right word is determined by the terms that it says: equal terms are equal words.
-- Unit by unit: of two units that say the same term with fine parts, both are the same, since equal trees are equal nodes. Assumes nothing.
use Prim.Native.Nat.{ℕ, ◌≤◌}
use mathlib.Core.List.{List, [], ◌∷◌}
use mathlib.Core.Path.{◌≡◌, refl, ap, sym, ◌∙◌}
use native.Mathlib.Omega.{arith}
use lib.ListN.{length}
use Rattle.paper.specs.Term.{Term, Star}
use Rattle.laws.specs.Nodes.{Nodes, Apart, tree}
use Rattle.words.specs.Word.{Mark, u_seq, u_star, u_act, u_wait, u_one, u_par, u_mod, mark, hd, tl, apply, terms, Fine, Right}
use Rattle.words.proofs.Marks.{clash, unmark, unmark-mark}
use Rattle.words.proofs.Trees.{tree-star}

cons_same : (x y : List Term) → 1 ≤ length x → 1 ≤ length y → hd x ≡ hd y → tl x ≡ tl y → x ≡ y
cons_same [] y a b p q = absurd (omega arith)
cons_same (x ∷ xs) [] a b p q = absurd (omega arith)
cons_same (x ∷ xs) (y ∷ ys) a b p q = cc

pub tl-long : (x : List Term) → 2 ≤ length x → 1 ≤ length (tl x)
tl-long [] a = absurd (omega arith)
tl-long (x ∷ xs) a = omega arith

abbrev Same : Mark → Mark → List Term → List Term → Type 0
Same m m' x y = (m ≡ m') × (x ≡ y)

pub filled : (P : List ℕ) (m : Mark) (x : List Term) → apply P m x ≡ [] → ⊥
unfolding apply
filled P (u_seq j) x e = clash cc
filled P (u_star j) x e = clash cc
filled P (u_act j) x e = clash cc
filled P (u_wait j) x e = clash cc
filled P u_one x e = clash cc
filled P u_par x e = clash cc
filled P (u_mod a) x e = clash cc

module _ (P : List ℕ) (ns : Nodes P) (ap' : Apart P) where
  unit-inj : (m m' : Mark) (x y : List Term) → Fine P m x → Fine P m' y → apply P m x ≡ apply P m' y → Same m m' x y
  unfolding apply Fine
  unit-inj (u_seq j) (u_seq k) x y f g e = (ap u_seq (ap'.terms j k f.1.0 g.1.0 f.1.1 g.1.1 (cc)), cons_same x y f.0 g.0 (cc) (cc))
  unit-inj (u_seq j) (u_star k) x y f g e = clash cc
  unit-inj (u_seq j) (u_act k) x y f g e = clash cc
  unit-inj (u_seq j) (u_wait k) x y f g e = clash cc
  unit-inj (u_seq j) u_one x y f g e = clash cc
  unit-inj (u_seq j) u_par x y f g e = clash cc
  unit-inj (u_seq j) (u_mod k) x y f g e = clash cc
  unit-inj (u_star j) (u_seq k) x y f g e = clash cc
  unit-inj (u_star j) (u_star k) x y f g e =
      let h : hd x ≡ hd y = cc in
      let t : tree P j ≡ tree P k = tree-star P ns j f.1.1.0 ∙ ap Star (sym f.1.1.1 ∙ h ∙ g.1.1.1) ∙ sym (tree-star P ns k g.1.1.0) in
      (ap u_star (ap'.terms j k f.1.0 g.1.0 (omega (arith, f.1.1.0)) (omega (arith, g.1.1.0)) t), cons_same x y f.0 g.0 h (cc))
  unit-inj (u_star j) (u_act k) x y f g e = clash cc
  unit-inj (u_star j) (u_wait k) x y f g e = clash cc
  unit-inj (u_star j) u_one x y f g e = clash cc
  unit-inj (u_star j) u_par x y f g e = clash cc
  unit-inj (u_star j) (u_mod k) x y f g e = clash cc
  unit-inj (u_act j) (u_seq k) x y f g e = clash cc
  unit-inj (u_act j) (u_star k) x y f g e = clash cc
  unit-inj (u_act j) (u_act k) x y f g e = (ap u_act (ap'.intrs j k f.1.0 g.1.0 f.1.1.0 g.1.1.0 (cc)), cons_same x y f.0 g.0 (cc) (cc))
  unit-inj (u_act j) (u_wait k) x y f g e = absurd (f.1.1.1 (cc))
  unit-inj (u_act j) u_one x y f g e = clash cc
  unit-inj (u_act j) u_par x y f g e = clash cc
  unit-inj (u_act j) (u_mod k) x y f g e = clash cc
  unit-inj (u_wait j) (u_seq k) x y f g e = clash cc
  unit-inj (u_wait j) (u_star k) x y f g e = clash cc
  unit-inj (u_wait j) (u_act k) x y f g e = absurd (g.1.1.1 (cc))
  unit-inj (u_wait j) (u_wait k) x y f g e = (ap u_wait (ap'.intrs j k f.0 g.0 f.1 g.1 (cc)), (cc))
  unit-inj (u_wait j) u_one x y f g e = clash cc
  unit-inj (u_wait j) u_par x y f g e = clash cc
  unit-inj (u_wait j) (u_mod k) x y f g e = clash cc
  unit-inj u_one (u_seq k) x y f g e = clash cc
  unit-inj u_one (u_star k) x y f g e = clash cc
  unit-inj u_one (u_act k) x y f g e = clash cc
  unit-inj u_one (u_wait k) x y f g e = clash cc
  unit-inj u_one u_one x y f g e = (refl, (cc))
  unit-inj u_one u_par x y f g e = clash cc
  unit-inj u_one (u_mod k) x y f g e = clash cc
  unit-inj u_par (u_seq k) x y f g e = clash cc
  unit-inj u_par (u_star k) x y f g e = clash cc
  unit-inj u_par (u_act k) x y f g e = clash cc
  unit-inj u_par (u_wait k) x y f g e = clash cc
  unit-inj u_par u_one x y f g e = clash cc
  unit-inj u_par u_par x y f g e = (refl, cons_same x y (omega arith) (omega arith) (cc) (cons_same (tl x) (tl y) (tl-long x f) (tl-long y g) (cc) (cc)))
  unit-inj u_par (u_mod k) x y f g e = clash cc
  unit-inj (u_mod j) (u_seq k) x y f g e = clash cc
  unit-inj (u_mod j) (u_star k) x y f g e = clash cc
  unit-inj (u_mod j) (u_act k) x y f g e = clash cc
  unit-inj (u_mod j) (u_wait k) x y f g e = clash cc
  unit-inj (u_mod j) u_one x y f g e = clash cc
  unit-inj (u_mod j) u_par x y f g e = clash cc
  unit-inj (u_mod j) (u_mod k) x y f g e = ((cc), (cc))

  nonempty : (u : ℕ) (x : List Term) → apply P (mark u) x ≡ [] → ⊥
  nonempty u x e = filled P (mark u) x e

  pub inj : (us vs : List ℕ) → Right P us → Right P vs → terms P us ≡ terms P vs → us ≡ vs
  unfolding terms Right
  inj [] [] h k e = refl
  inj [] (v ∷ vs) h k e = absurd (nonempty v (terms P vs) (sym e))
  inj (u ∷ us) [] h k e = absurd (nonempty u (terms P us) e)
  inj (u ∷ us) (v ∷ vs) h k e =
      let s = unit-inj (mark u) (mark v) (terms P us) (terms P vs) h.1 k.1 e in
      let p : u ≡ v = sym (unmark-mark u) ∙ ap unmark s.0 ∙ unmark-mark v in
      let q : us ≡ vs = inj us vs h.0 k.0 s.1 in
      cc
