-- Which events are armed, unit by unit: those at the head of an `Act` or a `Wait`, and those armed after it.
-- Assumes nothing.
use Prim.Native.Nat.{ℕ, zero, suc, ◌+◌, ◌-◌, ◌≤◌, ◌<◌}
use mathlib.Core.Bool.{Bool, true, false, ◌||◌}
use mathlib.Core.List.{List, [], ◌∷◌}
use mathlib.Core.Path.{◌≡◌, refl, ap, sym, ◌∙◌}
use native.Mathlib.Numerals.{add-one}
use native.Mathlib.Omega.{arith}
use lib.ListN.{get_or, length, take, drop, drop_of_length-le}
use lib.Seq.{drop-cons}
use Rattle.std.proofs.lemmas.List.{take_rest}
use Rattle.std.specs.List.{list_any}
use Rattle.paper.specs.Term.{Term}
use Rattle.paper.specs.Running.{armed, heads}
use Rattle.laws.specs.Nodes.{count, intr}
use Rattle.words.specs.Word.{Mark, u_seq, u_star, u_act, u_wait, u_one, u_par, u_mod, mark, apply, terms, Fine, Right, any_armed, arms}
use Rattle.words.specs.Unit.{unit_mark, HasEvent}
use Rattle.words.specs.declared.Unit.{Unit as Given}
use Rattle.words.specs.declared.Unit.TheVariants.{Sequence, Star, Act, Wait, One, Par, Module}
use Rattle.words.proofs.Marks.{by-lt, clash, mark-seq, mark-star, mark-act, mark-wait, mark-one, mark-par, mark-mod}

or_assoc : (a b c : Bool) → ((a || b) || c) ≡ (a || (b || c))
or_assoc true b c = refl
or_assoc false b c = refl

or-none : (a c : Bool) → ((a || false) || c) ≡ (a || c)
or-none true c = refl
or-none false c = refl

armed-unit : (P : List ℕ) (e : ℕ) (k : Mark) (st : List Term) → Fine P k st → any_armed e (apply P k st) ≡ (arms P e k || any_armed e st)
unfolding any_armed apply Fine armed arms
armed-unit P e (u_seq j) [] f = absurd (omega arith)
armed-unit P e (u_seq j) (x ∷ st) f = refl
armed-unit P e (u_star j) [] f = absurd (omega arith)
armed-unit P e (u_star j) (x ∷ st) f = refl
armed-unit P e (u_act j) [] f = absurd (omega arith)
armed-unit P e (u_act j) (x ∷ st) f = or_assoc (heads e (intr P j)) (armed e x) (any_armed e st)
armed-unit P e (u_wait j) st f = or-none (heads e (intr P j)) (any_armed e st)
armed-unit P e u_one st f = refl
armed-unit P e u_par [] f = absurd (omega arith)
armed-unit P e u_par (x ∷ []) f = absurd (omega arith)
armed-unit P e u_par (x ∷ y ∷ st) f = or_assoc (armed e x) (armed e y) (any_armed e st)
armed-unit P e (u_mod a) st f = refl

module _ (P : List ℕ) (e : ℕ) where
  any-units : (w : List ℕ) → Right P w → list_any (λ u. arms P e (mark u)) w ≡ any_armed e (terms P w)
  unfolding Right any_armed terms
  any-units [] r = refl
  any-units (u ∷ us) r =
      ap (λ (b : Bool). arms P e (mark u) || b) (any-units us r.0) ∙ sym (armed-unit P e (mark u) (terms P us) r.1)

  -- an event is armed exactly when one of the word's units arms it
  pub armed_any : (S : List ℕ) (s : ℕ) → Right P (drop s S) → list_any (λ u. arms P e (mark u)) (take (length S - s) (drop s S)) ≡ any_armed e (terms P (drop s S))
  armed_any S s r = rw take_rest (any-units (drop s S) r)

-- each unit of a right word is fine before some terms
fine-at : (P w : List ℕ) (k d : ℕ) → Right P w → k < length w → (st : List Term) × Fine P (mark (get_or w k d)) st
unfolding Right
fine-at P [] k d r h = absurd (omega arith)
fine-at P (u ∷ us) zero d r h = (terms P us, r.1)
fine-at P (u ∷ us) (suc k) d r h = fine-at P us k d r.0 (omega arith)

fine-event : (P : List ℕ) (u : Given) (st : List Term) → Fine P (unit_mark u) st → HasEvent P u
unfolding Fine
fine-event P (Sequence j) st f = tt
fine-event P (Star j) st f = tt
fine-event P (Act i) st f = f.1.0
fine-event P (Wait i) st f = f.0
fine-event P One st f = tt
fine-event P Par st f = tt
fine-event P (Module m) st f = tt

-- so its interruption is one of the table's
pub event-at : (P S : List ℕ) (s n k : ℕ) → Right P (drop s S) → k < length (drop s S) → n ≡ get_or (drop s S) k n → (u : Given) → unit_mark u ≡ mark n → HasEvent P u
event-at P S s n k r h e u q =
    let f = fine-at P (drop s S) k n r h in fine-event P u f.0 (rw q (rw (sym e) at f.1))

-- the same unit by unit, by the number of each
module _ (P : List ℕ) (e u : ℕ) where
  pub arms-low : u < 384 → false ≡ arms P e (mark u)
  unfolding arms
  arms-low h = by-lt u 192 (λ l. rw (mark-seq u l)) (λ l. rw (mark-star u l h))

  pub arms-act : 384 ≤ u → u < 576 → heads e (intr P (u - 384)) ≡ arms P e (mark u)
  unfolding arms
  arms-act l h = rw (mark-act u l h)

  pub arms-wait : 576 ≤ u → u < 768 → heads e (intr P (u - 576)) ≡ arms P e (mark u)
  unfolding arms
  arms-wait l h = rw (mark-wait u l h)

  pub arms-high : 768 ≤ u → false ≡ arms P e (mark u)
  unfolding arms
  arms-high h =
      by-lt u 769 (λ l. let q : u ≡ 768 = omega arith in rw (q, mark-one)) λ l.
      by-lt u 770 (λ g. let q : u ≡ 769 = omega arith in rw (q, mark-par)) λ g.
      rw (mark-mod u g)

or-true : (a b : Bool) → a ≡ true → (a || b) ≡ true
or-true true b e = refl
or-true false b e = clash cc

or-false : (a b : Bool) → a ≡ false → (a || b) ≡ b
or-false true b e = clash cc
or-false false b e = refl

module _ (P S : List ℕ) (e i : ℕ) (h : i < length S) (r : Right P (drop i S)) where
  cons : drop i S ≡ get_or S i 0 ∷ drop (i + 1) S
  cons = drop-cons S i 0 h ∙ ap (λ (n : ℕ). get_or S i 0 ∷ drop n S) (sym (add-one i))

  pub right-on : Right P (drop (i + 1) S)
  unfolding Right
  right-on = (rw cons at r).0

  fine : Fine P (mark (get_or S i 0)) (terms P (drop (i + 1) S))
  unfolding Right
  fine = (rw cons at r).1

  split : any_armed e (terms P (drop i S)) ≡ (arms P e (mark (get_or S i 0)) || any_armed e (terms P (drop (i + 1) S)))
  unfolding terms
  split = rw cons (armed-unit P e (mark (get_or S i 0)) (terms P (drop (i + 1) S)) fine)

  pub act-small : 384 ≤ get_or S i 0 → get_or S i 0 < 576 → get_or S i 0 - 384 < count P
  unfolding Fine
  act-small l g = (rw (mark-act (get_or S i 0) l g) at fine).1.0

  pub wait-small : 576 ≤ get_or S i 0 → get_or S i 0 < 768 → get_or S i 0 - 576 < count P
  unfolding Fine
  wait-small l g = (rw (mark-wait (get_or S i 0) l g) at fine).0

  pub armed-here : {v : Bool} → v ≡ arms P e (mark (get_or S i 0)) → v ≡ true → any_armed e (terms P (drop i S)) ≡ true
  armed-here a t = split ∙ or-true (arms P e (mark (get_or S i 0))) (any_armed e (terms P (drop (i + 1) S))) (sym a ∙ t)

  pub armed-on : {v : Bool} → v ≡ arms P e (mark (get_or S i 0)) → v ≡ false → any_armed e (terms P (drop i S)) ≡ any_armed e (terms P (drop (i + 1) S))
  armed-on a t = split ∙ or-false (arms P e (mark (get_or S i 0))) (any_armed e (terms P (drop (i + 1) S))) (sym a ∙ t)

pub armed-end : (P S : List ℕ) (e i : ℕ) → length S ≤ i → any_armed e (terms P (drop i S)) ≡ false
unfolding any_armed terms
armed-end P S e i h = rw (drop_of_length-le S h)
