-- How each join goes on after its parts were rewritten, whatever the letter: the laws speak of what is left of the parts.
-- Assumes nothing.
use Prim.Native.Nat.{ℕ, ◌+◌, ◌-◌, ◌≤◌, ◌<◌}
use mathlib.Core.List.{List, [], ◌∷◌, ◌++◌}
use mathlib.Core.Logic.{⊎_elim}
use mathlib.Core.Path.{◌≡◌, refl, ap, sym, ◌∙◌, subst}
use mathlib.Core.Bool.{Bool, true, false}
use native.Mathlib.Omega.{arith}
use lib.Dec.{T}
use lib.ListN.{length, take, drop}
use lib.Seq.{take_at}
use Rattle.paper.specs.Term.{Term, Intr, Left, One, Seq, Par, Star, Act, gone, still, eq_t}
use Rattle.paper.proofs.Equal.{eq_t-sound, eq_t-complete}
use Rattle.paper.specs.Rewriting.{seq_l, par_l, act_l, star_l}
use Rattle.laws.specs.Nodes.{Nodes, Apart, kind, left, count, tree, intr}
use Rattle.laws.specs.Weight.{weight, room}
use Rattle.words.specs.declared.Unit.TheVariants.{Star as Starred}
use Rattle.words.specs.Word.{u_seq, mark, hd, apply, terms, Fine, Right, Holds}
use Rattle.words.specs.Pieces.{Put, Faced, Drawn, Agree, rest, Made}
use Rattle.words.proofs.Marks.{clash, mark-seq, mark-par, mark-number}
use Rattle.words.proofs.Trees.{tree-star}
use Rattle.words.proofs.Holding.{nothing, front, joined, faced}
use Rattle.words.proofs.Drawing.{weighs}
use Rattle.words.proofs.Determined.{inj, filled}

-- the test of equal trees answers as they are
eq_t-true : (x y : Term) → x ≡ y → eq_t x y ≡ true
eq_t-true x y p = true_of (eq_t x y) (eq_t-complete x y p)
  where
    true_of : (b : Bool) → T b → b ≡ true
    true_of true t = refl
    true_of false t = absurd t

eq_t-false : (x y : Term) → (x ≡ y → ⊥) → eq_t x y ≡ false
eq_t-false x y d = false_of (eq_t x y) (λ t. d (eq_t-sound x y t))
  where
    false_of : (b : Bool) → (T b → ⊥) → b ≡ false
    false_of true h = absurd (h tt)
    false_of false h = refl

-- what is left is a term
pub record Still (ρ : Left) : Type 0 where
  pub term : Term
  pub is : ρ ≡ still term

gone-by : (P : List ℕ) (ρ : Left) (word : List ℕ) → terms P word ≡ rest ρ → length word ≡ 0 → ρ ≡ gone
unfolding terms
gone-by P gone word s l = refl
gone-by P (still x) [] s l = clash cc
gone-by P (still x) (u ∷ us) s l = absurd (omega arith)

pub gone_of : {P D D₁ : List ℕ} {e a : ℕ} {k : ℕ} {ρ : Left} → Made P D D₁ e a k ρ → a ≡ e → ρ ≡ gone
gone_of {P} {ρ = ρ} h q = gone-by P ρ h.held.word h.held.says (omega (arith, h.held.long))

still-by : (P : List ℕ) (ρ : Left) (word : List ℕ) → Right P word → terms P word ≡ rest ρ → (length word ≡ 0 → ⊥) → Still ρ
unfolding terms
still-by P gone [] r s l = absurd (l refl)
still-by P gone (u ∷ us) r s l = absurd (filled P (mark u) (terms P us) s)
still-by P (still x) word r s l = record { term = x; is = refl }

pub still-of : {P D D₁ : List ℕ} {e a : ℕ} {k : ℕ} {ρ : Left} → Made P D D₁ e a k ρ → (a ≡ e → ⊥) → Still ρ
still-of {P} {ρ = ρ} h q = still-by P ρ h.held.word h.held.ok h.held.says (λ l. q (omega (arith, h.held.long)))

-- what stands from e on is as before
from : {P D D₁ D₂ : List ℕ} {e a r n : ℕ} {ts : List Term} {ρ : Left} → Made P D D₁ e a n ρ → a ≡ e → Holds P D₁ D₂ r e ts → Holds P D D₂ r e (ts ++ [])
from {P} {D} {D₁} {D₂} {e} {a} {r} {n} h q k =
    let g : Holds P D D₁ e e [] = subst (λ (n : ℕ). Holds P D D₁ n e []) q (subst (λ (σ : Left). Holds P D D₁ a e (rest σ)) (gone_of h q) h.held) in
    joined k g

pub seq-gone : {P D D₁ D₂ : List ℕ} {e a r : ℕ} {y : Term} {ρ : Left} (x : Term) → Made P D D₁ e a (room x) ρ → a ≡ e → Drawn P D₁ D₂ e r y → Made P D D₂ e r (room (Seq x y)) (seq_l ρ y)
unfolding weight
seq-gone x h q k = rw (gone_of h q) record { held = from h q k.held; fits = omega (arith, k.fits) }

pub seq-still : {P D D₁ D₂ : List ℕ} {e a r : ℕ} {ρ : Left} (x : Term) (u : ℕ) → Nodes P → u < count P → kind P u ≤ 5 → Made P D D₁ e a (room x) ρ → (a ≡ e → ⊥) → Put D₁ D₂ a r u → Made P D D₂ e r (room (Seq x (tree P u))) (seq_l ρ (tree P u))
unfolding weight apply Fine
seq-still {P} {D} {D₁} {D₂} {e} {a} {r} {ρ} x u ns hu ku h q g =
    let s = still-of h q in
    let m : mark u ≡ u_seq u = mark-seq u (omega (arith, ns.few)) in
    let k : Holds P D D₁ a e (s.term ∷ []) = subst (λ (σ : Left). Holds P D D₁ a e (rest σ)) s.is h.held in
    let fine : Fine P (mark u) (s.term ∷ []) = rw m (omega arith, (hu, ku)) in
    rw s.is record { held = rw m at (front u k g.0 g.1 fine); fits = omega (arith, h.fits, g.0) }

pub act-gone : {P D D₁ : List ℕ} {e a : ℕ} {ρ : Left} (x : Term) (i : Intr) → Made P D D₁ e a (room x) ρ → a ≡ e → Made P D D₁ e e (room (Act x i)) (act_l ρ i)
act-gone {P} {D} {D₁} {e} x i h q =
    rw (gone_of h q) record { held = from h q (nothing P D₁ e); fits = omega arith }

pub act-still : {P D D₁ : List ℕ} {e a : ℕ} {x : Term} {ρ : Left} (D₂ : List ℕ) (r i : ℕ) → Nodes P → i < count P → 5 < kind P i → (x ≡ One → ⊥) → Made P D D₁ e a (room x) ρ → (a ≡ e → ⊥) → Faced D₁ D₂ a r i → Made P D D₂ e r (room (Act x (intr P i))) (act_l ρ (intr P i))
unfolding weight
act-still {P} {D} {D₁} {e} {a} {x} {ρ} D₂ r i ns hi ki nt h q f =
    let s = still-of h q in
    let k : Holds P D D₁ a e (s.term ∷ []) = subst (λ (σ : Left). Holds P D D₁ a e (rest σ)) s.is h.held in
    rw s.is record { held = faced P D D₁ D₂ a r e i s.term [] ns hi ki k f; fits = ⊎_elim (λ y. omega (arith, h.fits, y.1.0, weighs x nt)) (λ y. omega (arith, h.fits, y.1.0, weighs x nt)) f }

pub par-left-gone : {P D D₁ D₂ : List ℕ} {e b a : ℕ} {m n : ℕ} {ρ σ : Left} → Made P D D₁ e b n σ → Made P D₁ D₂ b a m ρ → a ≡ b → Made P D D₂ e a (m + n + 1) (par_l ρ σ)
unfolding weight
par-left-gone {P} {D} {D₁} {D₂} {e} {b} {a} {m} {n} {ρ} {σ} h k q =
    let g : Holds P D₁ D₂ a b [] = subst (λ (τ : Left). Holds P D₁ D₂ a b (rest τ)) (gone_of k q) k.held in
    rw (gone_of k q) record { held = joined g h.held; fits = omega (arith, h.fits, k.fits) }

pub par-right-gone : {P D D₁ D₂ : List ℕ} {e b a : ℕ} {m n : ℕ} {ρ σ : Left} → Made P D D₁ e b n σ → Made P D₁ D₂ b a m ρ → (a ≡ b → ⊥) → b ≡ e → Made P D D₂ e a (m + n + 1) (par_l ρ σ)
unfolding weight
par-right-gone {P} {D} {D₁} {D₂} {e} {b} {a} {m} {n} {ρ} {σ} h k q z =
    let s = still-of k q in
    let g : Holds P D₁ D₂ a b (s.term ∷ []) = subst (λ (τ : Left). Holds P D₁ D₂ a b (rest τ)) s.is k.held in
    rw (s.is, gone_of h z) record { held = from h z (subst (λ (o : ℕ). Holds P D₁ D₂ a o (s.term ∷ [])) z g); fits = omega (arith, h.fits, k.fits) }

pub par-both : {P D D₁ D₂ D₃ : List ℕ} {e b a r : ℕ} {m n : ℕ} {ρ σ : Left} → Made P D D₁ e b n σ → Made P D₁ D₂ b a m ρ → (a ≡ b → ⊥) → (b ≡ e → ⊥) → Put D₂ D₃ a r 769 → Made P D D₃ e r (m + n + 1) (par_l ρ σ)
unfolding weight apply Fine
par-both {P} {D} {D₁} {D₂} {D₃} {e} {b} {a} {r} {m} {n} {ρ} {σ} h k q z g =
    let s = still-of k q in
    let t = still-of h z in
    let i : Holds P D₁ D₂ a b (s.term ∷ []) = subst (λ (τ : Left). Holds P D₁ D₂ a b (rest τ)) s.is k.held in
    let j : Holds P D D₁ b e (t.term ∷ []) = subst (λ (τ : Left). Holds P D D₁ b e (rest τ)) t.is h.held in
    let fine : Fine P (mark 769) (s.term ∷ t.term ∷ []) = rw mark-par (omega arith) in
    rw (s.is, t.is) record { held = rw mark-par at (front 769 (joined i j) g.0 g.1 fine); fits = omega (arith, h.fits, k.fits, g.0) }

pub made_up : {P D D₁ : List ℕ} {e r k n : ℕ} {ρ : Left} → k ≤ n → Made P D D₁ e r k ρ → Made P D D₁ e r n ρ
made_up h m = record { held = m.held; fits = omega (arith, m.fits) }

pub room-par : (x y : Term) → room x + room y + 1 ≤ room (Par x y)
unfolding weight
room-par x y = omega arith

pub star-gone : {P D D₁ D₂ : List ℕ} {e a r : ℕ} {x : Term} {ρ : Left} → Made P D D₁ e a (room x) ρ → a ≡ e → Drawn P D₁ D₂ e r (Star x) → Made P D D₂ e r (room (Star x)) (star_l ρ x)
unfolding weight star_l
star-gone h q k = rw (gone_of h q) record { held = from h q k.held; fits = omega (arith, k.fits) }

-- the units that a list holds
pub units : {P D D' : List ℕ} {a b : ℕ} {ts : List Term} (h : Holds P D D' a b ts) → take (b - a) (drop a D') ≡ h.word
units {P} {D} {D'} {a} {b} h = rw h.is (take_at h.word (drop b D) (b - a) (omega (arith, h.long)))

-- the starred node j, whose part x came back: the units of its word, before and after, tell whether it is equal
module _ {P D D₁ D₂ S : List ℕ} {e a r c z j : ℕ} {x : Term} {ρ : Left} (ns : Nodes P) (ap' : Apart P) (hj : j < count P) (kj : kind P j ≡ 4) (xj : x ≡ tree P (left P j)) (h : Made P D D₁ e a (room x) ρ) (q : a ≡ e → ⊥) (o : Holds P S S c z (x ∷ [])) where
  pub star-same : take (z - c) (drop c S) ≡ take (e - a) (drop a D₁) → Put D₁ D₂ a r (192 + j) → Made P D D₂ e r (room (Star x)) (star_l ρ x)
  unfolding weight star_l apply Fine
  star-same same g =
      let s = still-of h q in
      let k : Holds P D D₁ a e (s.term ∷ []) = subst (λ (σ : Left). Holds P D D₁ a e (rest σ)) s.is h.held in
      let words : o.word ≡ k.word = sym (units o) ∙ same ∙ units k in
      let terms-same : x ∷ [] ≡ s.term ∷ [] = sym o.says ∙ ap (terms P) words ∙ k.says in
      let xs : s.term ≡ x = sym (ap hd terms-same) in
      let m = mark-number (Starred j) (omega (arith, ns.few)) in
      let fine : Fine P (mark (192 + j)) (s.term ∷ []) = rw m (omega arith, (hj, (kj, xs ∙ xj))) in
      let f : Holds P D D₂ r e (Star s.term ∷ []) = rw m at (front (192 + j) k g.0 g.1 fine) in
      rw (s.is, eq_t-true s.term x xs) record { held = rw xs at f; fits = omega (arith, h.fits, g.0) }

  pub star-new : (take (z - c) (drop c S) ≡ take (e - a) (drop a D₁) → ⊥) → Put D₁ D₂ a r j → Made P D D₂ e r (room (Star x)) (star_l ρ x)
  unfolding weight star_l apply Fine
  star-new differ g =
      let s = still-of h q in
      let k : Holds P D D₁ a e (s.term ∷ []) = subst (λ (σ : Left). Holds P D D₁ a e (rest σ)) s.is h.held in
      let xs : s.term ≡ x → ⊥ = λ y. differ (units o ∙ inj P ns ap' o.word k.word o.ok k.ok (o.says ∙ ap (λ (v : Term). v ∷ []) (sym y) ∙ sym k.says) ∙ sym (units k)) in
      let m : mark j ≡ u_seq j = mark-seq j (omega (arith, ns.few)) in
      let fine : Fine P (mark j) (s.term ∷ []) = rw m (omega arith, (hj, omega arith)) in
      let t : tree P j ≡ Star x = tree-star P ns j kj ∙ ap Star (sym xj) in
      let f : Holds P D D₂ r e (Seq s.term (tree P j) ∷ []) = rw m at (front j k g.0 g.1 fine) in
      rw (s.is, eq_t-false s.term x xs) record { held = rw t at f; fits = omega (arith, h.fits, g.0) }

-- the answer of a comparison
pub agree-true : {x y : List ℕ} (b : Bool) → Agree b x y → b ≡ true → x ≡ y
unfolding Agree
agree-true true a q = a
agree-true false a q = clash cc

pub agree-false : {x y : List ℕ} (b : Bool) → Agree b x y → b ≡ false → x ≡ y → ⊥
unfolding Agree
agree-false true a q = clash cc
agree-false false a q = a
