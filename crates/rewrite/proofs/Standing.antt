-- From a state to a rewriting and back: a state's word has room for its rewriting, since no letter raises the weight, and what was made
-- stands as a state again. Assumes nothing.
use Prim.Native.Nat.{ℕ, suc, ◌-◌, ◌≤◌, ◌<◌, max}
use mathlib.Core.List.{List, [], ◌∷◌, ◌++◌, append-nil}
use mathlib.Core.Path.{◌≡◌, refl, ap, sym, ◌∙◌}
use native.Mathlib.Omega.{arith}
use lib.ListN.{get_or, length, drop, set, length-drop, drop_of_length-le}
use lib.Seq.{drop-cons}
use Rattle.paper.specs.Term.{Term, Left, gone, still}
use Rattle.paper.specs.Rewriting.{Letter, rewritten}
use Rattle.laws.specs.Weight.{weight_l}
use Rattle.laws.proofs.Weighs.{rewritten-weighs}
use Rattle.words.specs.Word.{mark, hd, apply, terms}
use Rattle.words.specs.Pieces.{Table, top, rest, Made}
use Rattle.words.proofs.Holding.{fronted}
use Rattle.words.proofs.Determined.{filled}
use Rattle.rewrite.specs.Steps.{Works, left_of, state, Stands}

filled-long : (x : List Term) → (x ≡ [] → ⊥) → 1 ≤ length x
filled-long [] h = absurd (h refl)
filled-long (t ∷ ts) h = omega arith

some_left : (P us : List ℕ) → 1 ≤ length us → 1 ≤ length (terms P us)
unfolding terms
some_left P [] h = absurd (omega arith)
some_left P (u ∷ us) h = filled-long (apply P (mark u) (terms P us)) (filled P (mark u) (terms P us))

top_left : (x : List Term) → 1 ≤ length x → left_of x ≡ still (hd x)
top_left [] h = absurd (omega arith)
top_left (t ∷ ts) h = refl

module _ {P W : List ℕ} {s : ℕ} (st : Stands P W s) where
  deep_of : s < 96 → 1 ≤ length (terms P (drop s W))
  deep_of h = some_left P (drop s W) (omega (arith, length-drop s W, st.long))

  -- before the end there is a term
  pub state-still : s < 96 → state P W s ≡ still (top P W s)
  state-still h = top_left (terms P (drop s W)) (deep_of h)

  single-term : (x : List Term) → 1 ≤ length x → length x ≤ 1 → x ≡ hd x ∷ []
  single-term [] a b = absurd (omega arith)
  single-term (t ∷ []) a b = refl
  single-term (t ∷ u ∷ x) a b = absurd (omega arith)

  pub state-terms : s < 96 → terms P (drop s W) ≡ top P W s ∷ []
  state-terms h = single-term (terms P (drop s W)) (deep_of h) st.single

  pub state-gone : 96 ≤ s → state P W s ≡ gone
  unfolding terms
  state-gone h = rw (drop_of_length-le W {i = s} (omega (arith, st.long)))

  pub works-of : {n : ℕ} → Table P → s < 96 → n ≡ 96 → Works P W s 96 n
  unfolding weight_l
  works-of t h q =
      let l : max 1 (weight_l (still (top P W s))) ≤ 96 = rw (state-still h) at st.light in
      record { table = t; src = record { right = st.right; deep = deep_of h }; space = l; top = omega arith }

left-rest : (ρ : Left) → left_of (rest ρ) ≡ ρ
left-rest gone = refl
left-rest (still x) = refl

rest-single : (ρ : Left) → length (rest ρ) ≤ 1
rest-single gone = omega arith
rest-single (still x) = omega arith

-- what was made, copied, stands as a state
pub stands_of : {P D D' W' : List ℕ} {r k : ℕ} {ρ : Left} → length D ≡ 96 → Made P D D' 96 r k ρ → drop r W' ≡ drop r D' → length W' ≡ 96 → max 1 (weight_l ρ) ≤ 96 → Stands P W' r × (state P W' r ≡ ρ)
stands_of {P} {D} {D'} {W'} {r} {k} {ρ} ld m c lw lt =
    let e : drop r W' ≡ m.held.word = c ∙ m.held.is ∙ ap (λ (l : List ℕ). m.held.word ++ l) (drop_of_length-le D {i = 96} (omega arith)) ∙ append-nil m.held.word in
    let t : terms P (drop r W') ≡ rest ρ = ap (terms P) e ∙ m.held.says in
    let s : state P W' r ≡ ρ = ap left_of t ∙ left-rest ρ in
    (record { right = rw e m.held.ok; single = rw t (rest-single ρ); light = rw s lt; long = lw; within = omega (arith, m.held.long) }, s)

-- no letter makes the word outgrow its 96 places
pub light-of : {P W : List ℕ} {s n : ℕ} (x : Letter) → Works P W s 96 n → max 1 (weight_l (rewritten x (top P W s))) ≤ 96
light-of {P} {W} {s} x f = omega (arith, rewritten-weighs x (top P W s), f.space)

-- ## copying from the end

-- one place more
pub copied : (S D : List ℕ) (i : ℕ) → 1 ≤ i → i ≤ length S → i ≤ length D → drop i D ≡ drop i S → drop (i - 1) (set D (i - 1) (get_or S (i - 1) 0)) ≡ drop (i - 1) S
copied S D i h k l e =
    let z : suc (i - 1) ≡ i = omega arith in
    let c : drop (i - 1) S ≡ get_or S (i - 1) 0 ∷ drop i S = drop-cons S (i - 1) 0 (omega arith) ∙ ap (λ (n : ℕ). get_or S (i - 1) 0 ∷ drop n S) z in
    fronted D i (get_or S (i - 1) 0) h l ∙ ap (λ (x : List ℕ). get_or S (i - 1) 0 ∷ x) e ∙ sym c

pub both-ended : (S D : List ℕ) → (length S ≡ 96) × (length D ≡ 96) → drop 96 D ≡ drop 96 S
both-ended S D h = drop_of_length-le D {i = 96} (omega arith) ∙ sym (drop_of_length-le S {i = 96} (omega arith))

pub at_end : (S D : List ℕ) (a i : ℕ) → a ≤ i → i ≤ a → drop i D ≡ drop i S → drop a D ≡ drop a S
at_end S D a i h k e = let z : i ≡ a = omega arith in rw z at e
