-- What `expand` asks of its calls, and what it has drawn, by the kind of the node: the weight of a join has room for its unit and its parts.
-- Assumes nothing.
use Prim.Native.Nat.{ℕ, ◌+◌, ◌≤◌, ◌<◌}
use mathlib.Core.List.{List, [], ◌∷◌}
use mathlib.Core.Logic.{⊎_elim}
use mathlib.Core.Path.{◌≡◌, refl, ap, sym, ◌∙◌}
use native.Mathlib.Nat.{pos_of_ne-zero}
use native.Mathlib.Omega.{arith}
use lib.ListN.{get_or}
use Rattle.paper.specs.Term.{Term, Intr, Mod, One, Seq, Par, Star, Act}
use Rattle.laws.specs.Nodes.{kind, left, right, letter, count, tree, intr}
use Rattle.laws.specs.Weight.{weight, room}
use Rattle.program.specs.declared.Node.{Node}
use Rattle.program.specs.declared.Node.TheVariants as node
use Rattle.words.specs.declared.Unit.TheVariants as unit
use Rattle.words.specs.Word.{u_seq, mark, apply, Fine, Holds}
use Rattle.words.specs.Pieces.{node_of, Says, Put, Faced, Asks, Drawn}
use Rattle.words.proofs.Marks.{mark-seq, mark-one, mark-par, mark-number}
use Rattle.words.proofs.Trees.{tree-seq, tree-par, tree-star, tree-act, tree-mod, tree-one}
use Rattle.words.proofs.Holding.{nothing, front, joined, faced, one-there}

pub below : {P : List ℕ} {j e n : ℕ} → Asks P j e n → (kind P j ≡ 1 → ⊥) → (left P j < j) × (right P j < j)
below {P} {j} f d =
    let p : 0 < j = pos_of_ne-zero (λ z. d (ap (kind P) z ∙ f.table.nodes.zeroth)) in
    (omega (arith, f.table.nodes.lower j), omega (arith, f.table.nodes.righter j))

-- a unit fits in front of what was drawn, when the whole has room for it
pub asks-seq : {P : List ℕ} {j e n l q : ℕ} → Asks P j e n → Says P j (node.Sequence l q) → Asks P l e n × (room (tree P l) + 1 ≤ e)
unfolding weight
asks-seq {P} {j} {e} {n} {l} f c =
    let b = below f (λ z. omega (arith, c.0)) in
    let s : room (Seq (tree P (left P j)) (tree P (right P j))) ≤ e = rw (tree-seq P f.table.nodes j c.0) at f.space in
    rw (← c.1)
    (record { table = f.table; here = omega (arith, f.here, c.1); term = (f.table.nodes.of_seq j f.here c.0).0; space = omega arith; top = f.top }, omega arith)

pub draw-seq : {P D D₁ D₂ : List ℕ} {j e n l q x r : ℕ} → Asks P j e n → Says P j (node.Sequence l q) → Drawn P D D₁ e x (tree P l) → Put D₁ D₂ x r q → Drawn P D D₂ e r (tree P j)
unfolding weight apply Fine
draw-seq {P} {D} {D₁} {D₂} {j} {e} {n} {l} {q} {x} {r} f c h g =
    let b = below f (λ z. omega (arith, c.0)) in
    let tj : tree P j ≡ Seq (tree P l) (tree P q) = rw (← c.1, ← c.2) (tree-seq P f.table.nodes j c.0) in
    let m : mark q ≡ u_seq q = mark-seq q (omega (arith, f.here, f.table.nodes.few)) in
    let kq : kind P q ≤ 5 = rw (← c.2) (f.table.nodes.of_seq j f.here c.0).1 in
    let fine : Fine P (mark q) (tree P l ∷ []) = rw m (omega arith, (omega (arith, f.here), kq)) in
    rw tj record { held = rw m at (front q h.held g.0 g.1 fine); fits = omega (arith, h.fits, g.0) }

pub asks-star : {P : List ℕ} {j e n l : ℕ} → Asks P j e n → Says P j (node.Star l) → Asks P l e n × (room (tree P l) + 1 ≤ e)
unfolding weight
asks-star {P} {j} {e} {n} {l} f c =
    let b = below f (λ z. omega (arith, c.0)) in
    let s : room (Star (tree P (left P j))) ≤ e = rw (tree-star P f.table.nodes j c.0) at f.space in
    rw (← c.1)
    (record { table = f.table; here = omega (arith, f.here, c.1); term = f.table.nodes.of_star j f.here c.0; space = omega arith; top = f.top }, omega arith)

pub draw-star : {P D D₁ D₂ : List ℕ} {j e n l x r : ℕ} → Asks P j e n → Says P j (node.Star l) → Drawn P D D₁ e x (tree P l) → Put D₁ D₂ x r (192 + j) → Drawn P D D₂ e r (tree P j)
unfolding weight apply Fine
draw-star {P} {D} {D₁} {D₂} {j} {e} {n} {l} {x} {r} f c h g =
    let tj : tree P j ≡ Star (tree P l) = rw (← c.1) (tree-star P f.table.nodes j c.0) in
    let m = mark-number (unit.Star j) (omega (arith, f.here, f.table.nodes.few)) in
    let fine : Fine P (mark (192 + j)) (tree P l ∷ []) = rw m (omega arith, (f.here, (c.0, ap (tree P) (sym c.1)))) in
    rw tj record { held = rw m at (front (192 + j) h.held g.0 g.1 fine); fits = omega (arith, h.fits, g.0) }

pub asks-par : {P : List ℕ} {j e n l q : ℕ} → Asks P j e n → Says P j (node.Par l q) → Asks P q e n × (room (tree P q) + room (tree P l) + 1 ≤ e)
unfolding weight
asks-par {P} {j} {e} {n} {l} {q} f c =
    let b = below f (λ z. omega (arith, c.0)) in
    let s : room (Par (tree P (left P j)) (tree P (right P j))) ≤ e = rw (tree-par P f.table.nodes j c.0) at f.space in
    rw (← c.1, ← c.2)
    (record { table = f.table; here = omega (arith, f.here, c.2); term = (f.table.nodes.of_par j f.here c.0).1; space = omega arith; top = f.top }, omega arith)

pub asks-par-2 : {P D D₁ : List ℕ} {j e n l q x n₂ : ℕ} → n₂ ≡ n → Asks P j e n → Says P j (node.Par l q) → Drawn P D D₁ e x (tree P q) → Asks P l x n₂ × (room (tree P l) + 1 ≤ x)
unfolding weight
asks-par-2 {P} {D} {D₁} {j} {e} {n} {l} {q} {x} {n₂} nn f c h =
    let b = below f (λ z. omega (arith, c.0)) in
    let s = (asks-par f c).1 in
    (record { table = f.table; here = omega (arith, f.here); term = rw (← c.1) (f.table.nodes.of_par j f.here c.0).0; space = omega (arith, h.fits); top = omega (arith, f.top, h.held.long) }, omega (arith, h.fits))

pub draw-par : {P D D₀ D₁ D₂ : List ℕ} {j e n l q y x r : ℕ} → Asks P j e n → Says P j (node.Par l q) → Drawn P D D₀ e y (tree P q) → Drawn P D₀ D₁ y x (tree P l) → Put D₁ D₂ x r 769 → Drawn P D D₂ e r (tree P j)
unfolding weight apply Fine
draw-par {P} {D} {D₀} {D₁} {D₂} {j} {e} {n} {l} {q} {y} {x} {r} f c h h₂ g =
    let tj : tree P j ≡ Par (tree P l) (tree P q) = rw (← c.1, ← c.2) (tree-par P f.table.nodes j c.0) in
    let fine : Fine P (mark 769) (tree P l ∷ tree P q ∷ []) = rw mark-par (omega arith) in
    rw tj record { held = rw mark-par at (front 769 (joined h₂.held h.held) g.0 g.1 fine); fits = omega (arith, h.fits, h₂.fits, g.0) }

pub draw-mod : {P D D₂ : List ℕ} {j e n a r : ℕ} → Asks P j e n → Says P j (node.Module a) → Put D D₂ e r (770 + a) → Drawn P D D₂ e r (tree P j)
unfolding weight apply Fine
draw-mod {P} {D} {D₂} {j} {e} {n} {a} {r} f c g =
    let tj : tree P j ≡ Mod a = rw (← c.1) (tree-mod P f.table.nodes j c.0) in
    let m = mark-number (unit.Module a) tt in
    let small : a < 26 = rw (← c.1) (f.table.named j f.here c.0) in
    let fine : Fine P (mark (770 + a)) [] = rw m small in
    rw tj record { held = rw m at (front (770 + a) (nothing P D e) g.0 g.1 fine); fits = omega (arith, g.0) }

pub draw-one : {P D D₂ : List ℕ} {j e m r : ℕ} (n : Node) → Asks P j e m → n ≡ node_of P j → ((a : ℕ) → n ≡ node.Module a → ⊥) → ((x y : ℕ) → n ≡ node.Sequence x y → ⊥) → ((x y : ℕ) → n ≡ node.Par x y → ⊥) → ((x : ℕ) → n ≡ node.Star x → ⊥) → ((x i : ℕ) → n ≡ node.Act x i → ⊥) → Put D D₂ e r 768 → Drawn P D D₂ e r (tree P j)
unfolding weight apply Fine node_of
draw-one {P} {D} {D₂} {j} {e} n f o n₀ n₂ n₃ n₄ n₅ g =
    let tj : tree P j ≡ One = tree-one P f.table.nodes j (λ k. n₀ (letter P j) (o ∙ rw k)) (λ k. n₂ (left P j) (right P j) (o ∙ rw k)) (λ k. n₃ (left P j) (right P j) (o ∙ rw k)) (λ k. n₄ (left P j) (o ∙ rw k)) (λ k. n₅ (left P j) (right P j) (o ∙ rw k)) in
    let fine : Fine P (mark 768) [] = rw mark-one tt in
    rw tj record { held = rw mark-one at (front 768 (nothing P D e) g.0 g.1 fine); fits = omega (arith, g.0) }

pub asks-act : {P : List ℕ} {j e n l q : ℕ} → Asks P j e n → Says P j (node.Act l q) → Asks P l e n × ((q < count P) × (5 < kind P q))
unfolding weight
asks-act {P} {j} {e} {n} {l} {q} f c =
    let b = below f (λ z. omega (arith, c.0)) in
    let s : room (Act (tree P (left P j)) (intr P (right P j))) ≤ e = rw (tree-act P f.table.nodes j c.0) at f.space in (
      rw (← c.1) record { table = f.table; here = omega (arith, f.here, c.1); term = (f.table.nodes.of_act j f.here c.0).0; space = omega arith; top = f.top },
      (omega (arith, f.here), rw (← c.2) (f.table.nodes.of_act j f.here c.0).1),
    )

pub weighs : (t : Term) → (t ≡ One → ⊥) → 1 ≤ weight t
unfolding weight
weighs (Mod a) h = omega arith
weighs One h = absurd (h refl)
weighs (Seq x y) h = omega arith
weighs (Par x y) h = omega arith
weighs (Star x) h = omega arith
weighs (Act x i) h = omega arith

-- before a word that is not that of `1` there is room for `/`
pub face-room : {P D₀ D : List ℕ} {e x m : ℕ} {t : Term} {ts : List Term} (i : Intr) → Holds P D₀ D x m (t ∷ ts) → e ≤ x + room t → room (Act t i) ≤ e → (get_or D x 0 ≡ 768 → ⊥) → 1 ≤ x
unfolding weight
face-room {t = t} i h g s f = omega (arith, weighs t (λ o. f (one-there h o)))

-- `/` was put before the word of t: by at most one unit, and by none where t is `1`
pub face-fits : {P D₀ D : List ℕ} {e x m : ℕ} {t : Term} {ts : List Term} (D' : List ℕ) (r q : ℕ) (i : Intr) → Holds P D₀ D x m (t ∷ ts) → e ≤ x + room t → Faced D D' x r q → e ≤ r + room (Act t i)
unfolding weight
face-fits {t = t} D' r q i h g f =
    ⊎_elim (λ y. omega (arith, y.1.0)) (λ y. omega (arith, y.1.0, weighs t (λ o. y.0 (one-there h o)))) f

pub draw-act : {P D D₁ : List ℕ} {j e n l q x : ℕ} (D₂ : List ℕ) (r : ℕ) → Asks P j e n → Says P j (node.Act l q) → Drawn P D D₁ e x (tree P l) → Faced D₁ D₂ x r q → Drawn P D D₂ e r (tree P j)
draw-act {P} {D} {D₁} {j} {e} {n} {l} {q} {x} D₂ r f c h g =
    let tj : tree P j ≡ Act (tree P l) (intr P q) = rw (← c.1, ← c.2) (tree-act P f.table.nodes j c.0) in
    let u = (asks-act f c).1 in
    rw tj record { held = faced P D D₁ D₂ x r e q (tree P l) [] f.table.nodes u.0 u.1 h.held g; fits = face-fits D₂ r q (intr P q) h.held h.fits g }

pub room-act : {P : List ℕ} {j e n l q : ℕ} → Asks P j e n → Says P j (node.Act l q) → room (Act (tree P l) (intr P q)) ≤ e
room-act {P} {j} {e} f c =
    rw (← c.1, ← c.2) (rw (tree-act P f.table.nodes j c.0) at f.space)
