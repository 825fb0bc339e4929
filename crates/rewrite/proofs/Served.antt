-- One turn of settling. Where no stored event is armed, settling leaves all as it is; else it is settling of what the oldest armed one leaves,
-- with that one out of the memory: the rules' count of turns is the number of stored events, which falls by one. Assumes nothing.
use Prim.Native.Nat.{ℕ, ◌≤◌, ◌<◌}
use mathlib.Core.List.{List, [], ◌∷◌}
use mathlib.Core.Option.{none, some}
use mathlib.Core.Path.{◌≡◌, refl, ap, sym, ◌∙◌}
use native.Mathlib.Omega.{arith}
use lib.ListN.{get_or, length, drop, take, length-take}
use lib.Seq.{get_or-take}
use Rattle.paper.specs.Term.{Term, gone, still}
use Rattle.paper.specs.Lists.{without}
use Rattle.paper.specs.Rewriting.{occurrence, rewritten, taken}
use Rattle.paper.specs.Settling.{Held, held, oldest, settle, settled}
use Rattle.paper.proofs.Settles.{oldest-leaves}
use Rattle.words.specs.Word.{terms}
use Rattle.words.specs.Pieces.{top}
use Rattle.words.proofs.Marks.{clash}
use Rattle.rewrite.specs.Steps.{Stands, state}
use Rattle.rewrite.specs.Stored.{lead, removed, Rests}
use Rattle.rewrite.specs.declared.Settled.{Settled}
use Rattle.rewrite.proofs.Standing.{state-still, state-gone, state-terms}
use Rattle.rewrite.proofs.Leading.{lead-most, removed-without, oldest-some, oldest-none}

-- what rests in a state rests in an equal one
pub rests-by : {P W : List ℕ} {h k : Held} (r : Settled) → Rests P W r h → h ≡ k → Rests P W r k
rests-by r x e = (x.0, (x.1.0 ∙ e, x.1.1))

settled-gone : (m : List ℕ) → settled gone m ≡ held gone []
unfolding settled settle
settled-gone [] = refl
settled-gone (x ∷ m) = refl

settled-none : (t : Term) (m : List ℕ) → oldest t m ≡ none → settled (still t) m ≡ held (still t) m
unfolding settled settle
settled-none t [] q = refl
settled-none t (x ∷ m) q = rw q

settled-some : (t : Term) (m : List ℕ) (e : ℕ) → oldest t m ≡ some e → settled (still t) m ≡ settled (taken e t) (without e m)
unfolding settled settle oldest
settled-some t [] e q = clash cc
settled-some t (x ∷ m) e q =
    let l : length (without e (x ∷ m)) ≡ length m = omega (arith, oldest-leaves t (x ∷ m) e q) in
    rw (q, l)

-- at the end the memory is empty
pub ended : {P W : List ℕ} {s : ℕ} (m : List ℕ) → Stands P W s → 96 ≤ s → held (state P W s) [] ≡ settled (state P W s) m
ended m st h = rw (state-gone st h) (sym (settled-gone m))

module _ {P W : List ℕ} {s : ℕ} (st : Stands P W s) (h : s < 96) (ev : List ℕ) (n k : ℕ) (l : n ≤ length ev) (q : k ≡ lead (terms P (drop s W)) (take n ev)) where
  abbrev t : Term
  t = top P W s

  size : length (take n ev) ≡ n
  size = simp length-take (omega arith)

  place : k ≡ lead (t ∷ []) (take n ev)
  place = q ∙ ap (λ (ts : List Term). lead ts (take n ev)) (state-terms st h)

  pub lead-small : k ≤ n
  lead-small = omega (arith, place, size, lead-most (t ∷ []) (take n ev))

  pub quiet : k ≡ n → held (state P W s) (take n ev) ≡ settled (state P W s) (take n ev)
  quiet z =
      let o : oldest t (take n ev) ≡ none = oldest-none t (take n ev) (omega (arith, place, size)) in
      rw (state-still st h) (sym (settled-none t (take n ev) o))

  pub served : {m : List ℕ} (W' : List ℕ) (r : ℕ) → (k ≡ n → ⊥) → state P W' r ≡ rewritten (occurrence (get_or ev k 0)) t → m ≡ removed k (take n ev) → settled (state P W' r) m ≡ settled (state P W s) (take n ev)
  served {m} W' r d w g =
      let small : k < n = omega (arith, d, lead-small) in
      let inside : lead (t ∷ []) (take n ev) < length (take n ev) = omega (arith, place, size) in
      let event : get_or (take n ev) (lead (t ∷ []) (take n ev)) 0 ≡ get_or ev k 0 = ap (λ (i : ℕ). get_or (take n ev) i 0) (sym place) ∙ get_or-take n ev k 0 small in
      let o : oldest t (take n ev) ≡ some (get_or ev k 0) = oldest-some t (take n ev) inside ∙ ap some event in
      let less : m ≡ without (get_or ev k 0) (take n ev) = g ∙ ap (λ (i : ℕ). removed i (take n ev)) place ∙ removed-without (t ∷ []) (take n ev) inside ∙ ap (λ (e : ℕ). without e (take n ev)) event in
      rw (w, less, state-still st h) (sym (settled-some t (take n ev) (get_or ev k 0) o))
