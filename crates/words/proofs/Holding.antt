-- What a list holds: a right word says its own terms whatever follows it, so pieces are put one before the other (`joined`) and units in
-- front (`front`). The word of `1` is one unit, and `/` before it takes its place (`faced`). Assumes nothing.
use Prim.Native.Nat.{ℕ, zero, suc, ◌+◌, ◌-◌, ◌≤◌, ◌<◌}
use mathlib.Core.List.{List, [], ◌∷◌, ◌++◌, append_assoc}
use mathlib.Core.Logic.{⊎_elim}
use mathlib.Core.Path.{◌≡◌, refl, ap, sym, ◌∙◌}
use native.Mathlib.Nat.{add-zero}
use native.Mathlib.Omega.{arith}
use lib.ListN.{get_or, length, take, drop, set, length-append}
use lib.Seq.{set_split, drop_at, length-take-le, get_or-drop, drop-drop}
use Rattle.paper.specs.Term.{Term, One, Act}
use Rattle.laws.specs.Nodes.{Nodes, kind, count, intr}
use Rattle.words.specs.Word.{Mark, u_seq, u_star, u_act, u_wait, u_one, u_par, u_mod, mark, hd, tl, apply, terms, Fine, Right, Holds}
use Rattle.words.specs.Pieces.{Faced}
use Rattle.words.proofs.Marks.{clash, mark-act, mark-wait, mark-one, mark-one-only, says-one}

apply-app : (P : List ℕ) (m : Mark) (st zs : List Term) → Fine P m st → apply P m (st ++ zs) ≡ apply P m st ++ zs
unfolding apply Fine
apply-app P (u_seq j) [] zs h = absurd (omega arith)
apply-app P (u_seq j) (x ∷ st) zs h = refl
apply-app P (u_star j) [] zs h = absurd (omega arith)
apply-app P (u_star j) (x ∷ st) zs h = refl
apply-app P (u_act j) [] zs h = absurd (omega arith)
apply-app P (u_act j) (x ∷ st) zs h = refl
apply-app P (u_wait j) st zs h = refl
apply-app P u_one st zs h = refl
apply-app P u_par [] zs h = absurd (omega arith)
apply-app P u_par (x ∷ []) zs h = absurd (omega arith)
apply-app P u_par (x ∷ y ∷ st) zs h = refl
apply-app P (u_mod a) st zs h = refl

fine-app : (P : List ℕ) (m : Mark) (st zs : List Term) → Fine P m st → Fine P m (st ++ zs)
unfolding Fine
fine-app P (u_seq j) [] zs h = absurd (omega arith)
fine-app P (u_seq j) (x ∷ st) zs h = (omega arith, h.1)
fine-app P (u_star j) [] zs h = absurd (omega arith)
fine-app P (u_star j) (x ∷ st) zs h = (omega arith, h.1)
fine-app P (u_act j) [] zs h = absurd (omega arith)
fine-app P (u_act j) (x ∷ st) zs h = (omega arith, h.1)
fine-app P (u_wait j) st zs h = h
fine-app P u_one st zs h = tt
fine-app P u_par st zs h = omega (arith, length-append st zs)
fine-app P (u_mod a) st zs h = h

-- a right word says its own terms, whatever follows it
pub terms-app : (P us vs : List ℕ) → Right P us → terms P (us ++ vs) ≡ terms P us ++ terms P vs
unfolding terms Right
terms-app P [] vs h = refl
terms-app P (u ∷ us) vs h = rw (terms-app P us vs h.0) (apply-app P (mark u) (terms P us) (terms P vs) h.1)

pub right-app : (P us vs : List ℕ) → Right P us → Right P vs → Right P (us ++ vs)
unfolding terms Right
right-app P [] vs h k = k
right-app P (u ∷ us) vs h k =
    (right-app P us vs h.0 k, rw (terms-app P us vs h.0) (fine-app P (mark u) (terms P us) (terms P vs) h.1))

-- ## what is held

pub nothing : (P D : List ℕ) (a : ℕ) → Holds P D D a a []
unfolding Right terms
nothing P D a = record { word = []; is = refl; ok = tt; says = refl; long = omega arith }

-- one unit more in front
pub front : {P D₀ D D' : List ℕ} {r e b : ℕ} {ts : List Term} (u : ℕ) → Holds P D₀ D e b ts → r + 1 ≡ e → drop r D' ≡ u ∷ drop e D → Fine P (mark u) ts → Holds P D₀ D' r b (apply P (mark u) ts)
unfolding Right terms
front {P} u h q d f =
    record { word = u ∷ h.word; is = rw (d, h.is); ok = (h.ok, rw h.says f); says = rw h.says; long = omega (arith, h.long) }

-- two words, one before the other
pub joined : {P D₀ D D' : List ℕ} {a m b : ℕ} {xs ys : List Term} → Holds P D D' a m xs → Holds P D₀ D m b ys → Holds P D₀ D' a b (xs ++ ys)
joined {P} h k =
    record {
      word = h.word ++ k.word;
      is = rw (append_assoc, ← k.is) h.is;
      ok = right-app P h.word k.word h.ok k.ok;
      says = rw (terms-app P h.word k.word h.ok, h.says, k.says);
      long = omega (arith, length-append h.word k.word, h.long, k.long);
    }

-- a store in front of place e
pub fronted : (D : List ℕ) (e u : ℕ) → 1 ≤ e → e ≤ length D → drop (e - 1) (set D (e - 1) u) ≡ u ∷ drop e D
fronted D zero u h k = absurd (omega arith)
fronted D (suc e) u h k =
    let z : suc e - 1 ≡ e = omega arith in
    rw (z, set_split D e u, drop_at (take e D) (u ∷ drop (suc e) D) e (length-take-le e D (omega arith)))

-- `/` before a word: what `put_act` does
module _ (P D₀ D D' : List ℕ) (e r b i : ℕ) (t : Term) (ts : List Term) (ns : Nodes P) (hi : i < count P) (ki : 5 < kind P i) where
  faced-word : (word : List ℕ) → drop e D ≡ word ++ drop b D₀ → Right P word → terms P word ≡ t ∷ ts → b ≡ e + length word → Faced D D' e r i → Holds P D₀ D' r b (Act t (intr P i) ∷ ts)
  unfolding terms Right apply Fine
  faced-word [] is ok says long f = clash cc
  faced-word (u ∷ us) is ok says long f =
      let at : get_or D e 0 ≡ u = let q : get_or D (e + 0) 0 ≡ u = sym (get_or-drop e D 0 0) ∙ rw is in rw add-zero at q in
      let next : drop (e + 1) D ≡ us ++ drop b D₀ = sym (drop-drop 1 e D) ∙ rw is in
      let z1 : 576 + i - 576 ≡ i = omega arith in
      let z2 : 384 + i - 384 ≡ i = omega arith in
      let m1 : mark (576 + i) ≡ u_wait i = mark-wait (576 + i) (omega arith) (omega (arith, ns.few)) ∙ ap u_wait z1 in
      let m2 : mark (384 + i) ≡ u_act i = mark-act (384 + i) (omega arith) (omega (arith, ns.few)) ∙ ap u_act z2 in
      let parted : 1 ≤ length (t ∷ ts) = omega arith in
      ⊎_elim
      (λ x.
      let u1 : u ≡ 768 = sym at ∙ x.0 in
      let one-first : One ∷ terms P us ≡ t ∷ ts = (let s : apply P (mark 768) (terms P us) ≡ t ∷ ts = rw u1 at says in rw mark-one at s) in
      let h : One ≡ t = ap hd one-first in
      let g : terms P us ≡ ts = ap tl one-first in
      record { word = (576 + i) ∷ us; is = x.1.1 ∙ ap (λ (l : List ℕ). (576 + i) ∷ l) next; ok = (ok.0, rw m1 (hi, ki)); says = rw (m1, ← h, g); long = omega (arith, x.1.0) })
      (λ x.
      let notone : t ≡ One → ⊥ = λ y. x.0 (at ∙ mark-one-only u (says-one P (mark u) (terms P us) (ap hd says ∙ y))) in
      record { word = (384 + i) ∷ u ∷ us; is = x.1.1 ∙ ap (λ (l : List ℕ). (384 + i) ∷ l) is; ok = (ok, rw (m2, says) (parted, (hi, (ki, notone)))); says = rw (m2, says); long = omega (arith, x.1.0) })
      f

  pub faced : Holds P D₀ D e b (t ∷ ts) → Faced D D' e r i → Holds P D₀ D' r b (Act t (intr P i) ∷ ts)
  faced h f = faced-word h.word h.is h.ok h.says h.long f

there-word : (P D₀ D : List ℕ) (e b : ℕ) (ts : List Term) (word : List ℕ) → drop e D ≡ word ++ drop b D₀ → terms P word ≡ One ∷ ts → get_or D e 0 ≡ 768
unfolding terms
there-word P D₀ D e b ts [] is says = clash cc
there-word P D₀ D e b ts (u ∷ us) is says =
    let at : get_or D e 0 ≡ u = let q : get_or D (e + 0) 0 ≡ u = sym (get_or-drop e D 0 0) ∙ rw is in rw add-zero at q in
    at ∙ mark-one-only u (says-one P (mark u) (terms P us) (ap hd says))

-- where a word says `1` first, the unit of `1` stands
pub one-there : {P D₀ D : List ℕ} {e b : ℕ} {t : Term} {ts : List Term} → Holds P D₀ D e b (t ∷ ts) → t ≡ One → get_or D e 0 ≡ 768
one-there {P} {D₀} {D} {e} {b} {t} {ts} h o = there-word P D₀ D e b ts h.word h.is (h.says ∙ ap (λ (x : Term). x ∷ ts) o)

less-word : (P : List ℕ) (t : Term) (ts : List Term) (word : List ℕ) → terms P word ≡ t ∷ ts → 1 ≤ length word
unfolding terms
less-word P t ts [] says = clash cc
less-word P t ts (u ∷ us) says = omega arith

pub holds-less : {P D₀ D : List ℕ} {a b : ℕ} {t : Term} {ts : List Term} → Holds P D₀ D a b (t ∷ ts) → a < b
holds-less {P} {D₀} {D} {a} {b} {t} {ts} h = omega (arith, less-word P t ts h.word h.says, h.long)
