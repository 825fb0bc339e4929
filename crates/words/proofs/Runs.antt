-- Which modules run, unit by unit: a module's own unit makes it run, and no other unit changes what runs after it.
-- Assumes nothing.
use Prim.Native.Nat.{ℕ, ◌+◌, ◌-◌, ◌≤◌, ◌<◌}
use mathlib.Core.Bool.{Bool, true, false, ◌||◌}
use mathlib.Core.List.{List, [], ◌∷◌}
use mathlib.Core.Path.{◌≡◌, refl, ap, sym, ◌∙◌}
use native.Mathlib.Numerals.{add-one}
use native.Mathlib.Omega.{arith}
use borrow.Author.Tests.{eq-eqb, ne_eqb, eqb-true, eqb-false}
use lib.Dec.{eqb}
use lib.ListN.{get_or, length, take, drop, drop_of_length-le}
use lib.Seq.{drop-cons}
use Rattle.std.proofs.lemmas.List.{take_rest}
use Rattle.std.specs.List.{list_any}
use Rattle.paper.specs.Term.{Term}
use Rattle.paper.specs.Running.{runs}
use Rattle.words.specs.declared.Unit.TheVariants.{Module}
use Rattle.words.specs.Word.{Mark, u_seq, u_star, u_act, u_wait, u_one, u_par, u_mod, mark, apply, terms, Fine, Right, any_runs}
use Rattle.words.proofs.Marks.{mark-mod, mark-number, unmark, unmark-mark}

or_assoc : (a b c : Bool) → ((a || b) || c) ≡ (a || (b || c))
or_assoc true b c = refl
or_assoc false b c = refl

-- a unit that is not the module's changes nothing
runs_other : (P : List ℕ) (m : ℕ) (k : Mark) (st : List Term) → (k ≡ u_mod m → ⊥) → Fine P k st → any_runs m (apply P k st) ≡ any_runs m st
unfolding any_runs apply Fine runs
runs_other P m (u_seq j) [] d f = absurd (omega arith)
runs_other P m (u_seq j) (x ∷ st) d f = refl
runs_other P m (u_star j) [] d f = absurd (omega arith)
runs_other P m (u_star j) (x ∷ st) d f = refl
runs_other P m (u_act j) [] d f = absurd (omega arith)
runs_other P m (u_act j) (x ∷ st) d f = refl
runs_other P m (u_wait j) st d f = refl
runs_other P m u_one st d f = refl
runs_other P m u_par [] d f = absurd (omega arith)
runs_other P m u_par (x ∷ []) d f = absurd (omega arith)
runs_other P m u_par (x ∷ y ∷ st) d f = or_assoc (runs m x) (runs m y) (any_runs m st)
runs_other P m (u_mod a) st d f = rw (ne_eqb m a (λ e. d (ap u_mod (sym e))))

module _ (P : List ℕ) (m : ℕ) where
  unit_any : (u : ℕ) (st : List Term) (rest b : Bool) → Fine P (mark u) st → rest ≡ any_runs m st → eqb u (770 + m) ≡ b → (b || rest) ≡ any_runs m (apply P (mark u) st)
  unfolding any_runs apply runs unmark
  unit_any u st rest true f r t =
      rw (eqb-true u (770 + m) t, mark-number (Module m) tt, eq-eqb m m refl)
  unit_any u st rest false f r t =
      let k : mark u ≡ u_mod m → ⊥ = λ e. eqb-false u (770 + m) t (sym (unmark-mark u) ∙ ap unmark e) in
      r ∙ sym (runs_other P m (mark u) st k f)

  any-units : (w : List ℕ) → Right P w → list_any (λ u. eqb u (770 + m)) w ≡ any_runs m (terms P w)
  unfolding Right any_runs terms
  any-units [] r = refl
  any-units (u ∷ us) r = unit_any u (terms P us) _ (eqb u (770 + m)) r.1 (any-units us r.0) refl

  -- a module runs exactly when its unit is one of the word's
  pub runs_any : (S : List ℕ) (s k : ℕ) → k ≡ 770 + m → Right P (drop s S) → list_any (λ u. eqb u k) (take (length S - s) (drop s S)) ≡ any_runs m (terms P (drop s S))
  runs_any S s k q r = rw (q, take_rest) (any-units (drop s S) r)

-- the same from place i on, for a pass over the units
module _ (P S : List ℕ) (m i : ℕ) (h : i < length S) where
  cons : drop i S ≡ get_or S i 0 ∷ drop (i + 1) S
  cons = drop-cons S i 0 h ∙ ap (λ (n : ℕ). get_or S i 0 ∷ drop n S) (sym (add-one i))

  pub runs_here : get_or S i 0 ≡ m + 770 → any_runs m (terms P (drop i S)) ≡ true
  unfolding any_runs apply terms runs
  runs_here q =
      let z : get_or S i 0 - 770 ≡ m = omega arith in
      rw (cons, mark-mod (get_or S i 0) (omega arith), z, eq-eqb m m refl)

  pub runs_on : Right P (drop i S) → (get_or S i 0 ≡ m + 770 → ⊥) → Right P (drop (i + 1) S) × (any_runs m (terms P (drop i S)) ≡ any_runs m (terms P (drop (i + 1) S)))
  unfolding Right terms unmark
  runs_on r d =
      let c = rw cons at r in
      let k : mark (get_or S i 0) ≡ u_mod m → ⊥ = λ e. d (sym (unmark-mark (get_or S i 0)) ∙ ap unmark e ∙ omega arith) in
      (c.0, rw cons (runs_other P m (mark (get_or S i 0)) (terms P (drop (i + 1) S)) k c.1))

pub runs-end : (P S : List ℕ) (m i : ℕ) → length S ≤ i → any_runs m (terms P (drop i S)) ≡ false
unfolding any_runs terms
runs-end P S m i h = rw (drop_of_length-le S h)
