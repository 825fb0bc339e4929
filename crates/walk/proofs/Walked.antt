-- The pass over a word from its end: from place i on each unit may stand, and the stack has the weights of the terms there (`Walked`).
-- Assumes nothing.
use Prim.Native.Nat.{ℕ, zero, suc, ◌+◌, ◌-◌, ◌≤◌, ◌<◌}
use mathlib.Core.List.{List, [], ◌∷◌, ◌++◌}
use mathlib.Core.Path.{◌≡◌, refl, sym, ap, subst, ◌∙◌}
use native.Mathlib.Omega.{arith}
use lib.Dec.{T}
use lib.ListN.{length, drop, get_or, length-append, length-drop, length-map, drop_of_length-le}
use lib.Seq.{drop-cons, drop-drop}
use borrow.Author.Tests.{lt-ltb, le-ltb}
use Rattle.std.proofs.Common.{Some, None}
use Rattle.std.proofs.lemmas.List.{reverse-append, length-reverse}
use Rattle.paper.specs.Lists.{has}
use Rattle.paper.specs.Term.{Term}
use Rattle.laws.specs.Weight.{weight}
use Rattle.words.specs.Word.{Mark, u_seq, u_star, u_act, u_wait, u_one, u_par, u_mod, mark, arity, hd, apply, terms, Right}
use Rattle.words.proofs.Marks.{by-lt, mark-mod, unmark, unmark-mark}
use Rattle.words.proofs.Reading.{fine-deep, drop-one, drop-two}
use Rattle.walk.specs.Judging.{Placed, May, Sound, Judged, Lights, Stacked, Behind}
use Rattle.walk.proofs.Units.{lights-drop}

-- a unit's term stands in front of those that it does not take
pub apply-cons : (P : List ℕ) (m : Mark) (ts : List Term) → apply P m ts ≡ hd (apply P m ts) ∷ drop (arity m) ts
unfolding apply
apply-cons P (u_seq j) ts = rw (drop-one ts)
apply-cons P (u_star j) ts = rw (drop-one ts)
apply-cons P (u_act j) ts = rw (drop-one ts)
apply-cons P (u_wait j) ts = refl
apply-cons P u_one ts = refl
apply-cons P u_par ts = rw (drop-two ts)
apply-cons P (u_mod a) ts = refl

pub sound-right : (P ms us : List ℕ) → Sound P ms us → Right P us
unfolding Sound Right
sound-right P ms [] s = tt
sound-right P ms (u ∷ us) s = (sound-right P ms us s.0, s.1.fine)

sound-drop : (P ms : List ℕ) (k : ℕ) (us : List ℕ) → Sound P ms us → Sound P ms (drop k us)
unfolding Sound
sound-drop P ms zero us s = s
sound-drop P ms (suc k) [] s = s
sound-drop P ms (suc k) (u ∷ us) s = sound-drop P ms k us s.0

-- ---- where a unit may stand

placed-may : {P ms : List ℕ} {u : ℕ} {ts : List Term} → Placed P ms (mark u) ts → weight (hd (apply P (mark u) ts)) ≤ 96 → May P ms u ts
placed-may {P} {ms} {u} {ts} p l = record {
  fine = p.fine;
  own = by-lt u 770 (λ h. rw (lt-ltb u 770 h) tt) (λ h. rw (le-ltb u 770 h) (p.own (u - 770) (mark-mod u h)));
  light = l;
}

may-placed : {P ms : List ℕ} {u : ℕ} {ts : List Term} → May P ms u ts → Placed P ms (mark u) ts
unfolding unmark
may-placed {P} {ms} {u} {ts} y = record {
  fine = y.fine;
  own = λ a e.
      let z : u ≡ 770 + a = sym (unmark-mark u) ∙ ap unmark e in
      let d : u - 770 ≡ a = omega arith in
      subst (λ (n : ℕ). T (has n ms)) d (rw (le-ltb u 770 (omega arith)) at y.own);
}

-- ---- the pass

-- from place i on each unit may stand, and the stack xs has the weights of the terms there
pub record Walked (P ms W : List ℕ) (i : ℕ) (xs : List ℕ) : Type 0 where
  pub sound : Sound P ms (drop i W)
  pub light : Lights (terms P (drop i W))
  pub stacked : Stacked xs (terms P (drop i W))
  pub few : length xs + i ≤ 96

pub walked_none : (P ms W : List ℕ) → length W ≡ 96 → Walked P ms W 96 []
unfolding Sound Lights terms
walked_none P ms W k =
    let e : drop 96 W ≡ [] = drop_of_length-le W {i = 96} (omega arith) in
    record { sound = rw e tt; light = rw e tt; stacked = rw e refl; few = omega arith }

stack-long : {P ms W : List ℕ} {i : ℕ} {xs : List ℕ} → Walked P ms W i xs → length xs ≡ length (terms P (drop i W))
stack-long {P} {ms} {W} {i} {xs} w = omega (arith, length-reverse xs, ap length w.stacked, length-map (terms P (drop i W)) weight)

-- at the unit before place i
pub again : {P ms W : List ℕ} {i : ℕ} {xs : List ℕ} → Walked P ms W i xs → 0 < i → Walked P ms W (i - 1 + 1) xs
again {P} {ms} {W} {i} {xs} w h = let z : i ≡ i - 1 + 1 = omega arith in subst (λ (n : ℕ). Walked P ms W n xs) z w

module _ {P ms W xs : List ℕ} (j : ℕ) (w : Walked P ms W (j + 1) xs) (long : length W ≡ 96) where
  abbrev ts : List Term
  ts = terms P (drop (j + 1) W)

  abbrev u : ℕ
  u = get_or W j 0

  cons : drop j W ≡ u ∷ drop (j + 1) W
  cons =
      let z : suc j ≡ j + 1 = omega arith in
      drop-cons W j 0 (omega (arith, w.few)) ∙ ap (λ (n : ℕ). u ∷ drop n W) z

  pub behind : Behind P W j xs
  behind = record {
    right = sound-right P ms (drop (j + 1) W) w.sound;
    long = long;
    here = omega (arith, w.few);
    light = w.light;
    stacked = w.stacked;
  }

  its-may : (s : ℕ) → s ≤ j → Sound P ms (drop s W) → May P ms u ts
  unfolding Sound
  its-may s h o =
      let z : s + (j - s) ≡ j = omega arith in
      let e : drop (j - s) (drop s W) ≡ u ∷ drop (j + 1) W = drop-drop (j - s) s W ∙ ap (λ (n : ℕ). drop n W) z ∙ cons in
      let k : Sound P ms (u ∷ drop (j + 1) W) = rw e at (sound-drop P ms (j - s) (drop s W) o) in
      k.1

  pub walked-not : (s : ℕ) → s ≤ j → Judged P ms (mark u) ts None → Sound P ms (drop s W) → ⊥
  walked-not s h n o = n (may-placed (its-may s h o))

  pub walked-heavy : (s v : ℕ) → s ≤ j → Judged P ms (mark u) ts (Some v) → 96 < v → Sound P ms (drop s W) → ⊥
  walked-heavy s v h y k o = let l = (its-may s h o).light in omega (arith, y.1)

  -- the unit's parts are there
  pub fits : {v n : ℕ} → Judged P ms (mark u) ts (Some v) → n ≡ arity (mark u) → n ≤ length xs
  fits y q = omega (arith, stack-long w, fine-deep P (mark u) ts y.0.fine)

  pub walked_more : (v : ℕ) (ys : List ℕ) → Judged P ms (mark u) ts (Some v) → v ≤ 96 → Stacked ys (drop (arity (mark u)) ts) → Walked P ms W j (ys ++ v ∷ [])
  unfolding Sound Lights terms
  walked_more v ys y h t =
      let k : ℕ = arity (mark u) in
      let a : terms P (drop j W) ≡ hd (apply P (mark u) ts) ∷ drop k ts = ap (terms P) cons ∙ apply-cons P (mark u) ts in
      record {
        sound = rw cons (w.sound, placed-may y.0 (omega (arith, y.1)));
        light = rw a (omega (arith, y.1), lights-drop k ts w.light);
        stacked = reverse-append ys (v ∷ []) ∙ rw (a, y.1) (ap (λ (l : List ℕ). weight (hd (apply P (mark u) ts)) ∷ l) t);
        few = omega (arith, w.few, stack-long w, length-append ys (v ∷ []), length-reverse ys, ap length t, length-map (drop k ts) weight, length-drop k ts);
      }

  pub room : (ys : List ℕ) → Stacked ys (drop (arity (mark u)) ts) → length ys < 96
  room ys t = omega (arith, w.few, stack-long w, length-reverse ys, ap length t, length-map (drop (arity (mark u)) ts) weight, length-drop (arity (mark u)) ts)

-- the whole word
module _ {P ms W : List ℕ} {s : ℕ} {xs : List ℕ} (w : Walked P ms W s xs) where
  pub walked-sound : length xs ≤ 1 → Sound P ms (drop s W) × (length (terms P (drop s W)) ≤ 1)
  walked-sound h = (w.sound, omega (arith, stack-long w))

  pub walked-two : 1 < length xs → Sound P ms (drop s W) × (length (terms P (drop s W)) ≤ 1) → ⊥
  walked-two h x = let l = x.1 in omega (arith, stack-long w)
