-- Reading a word: a unit takes as many terms as it has parts (`arity`), so the place past a term's word is the place past its parts.
-- Assumes nothing.
use Prim.Native.Nat.{ℕ, ◌+◌, ◌-◌, ◌≤◌, ◌<◌}
use mathlib.Core.Bool.{Bool, true, false, cond}
use mathlib.Core.List.{List, [], ◌∷◌, ◌++◌}
use mathlib.Core.Path.{◌≡◌, refl, ap, sym, ◌∙◌}
use native.Mathlib.Numerals.{add-one}
use native.Mathlib.Omega.{arith}
use lib.Dec.{eqb, ltb}
use lib.ListN.{get_or, length, take, drop, length-append, length-drop}
use lib.Seq.{drop-cons}
use borrow.Author.Tests.{lt-ltb, le-ltb, ne_eqb}
use Rattle.paper.specs.Term.{Term}
use Rattle.words.specs.Word.{Mark, u_seq, u_star, u_act, u_wait, u_one, u_par, u_mod, mark, arity, hd, tl, apply, terms, Fine, Right, Holds}
use Rattle.words.specs.Pieces.{Src, top, Past}
use Rattle.words.proofs.Determined.{tl-long}
use Rattle.words.proofs.Marks.{mark-par}
use Rattle.words.proofs.Holding.{nothing, front, joined}

pub arity-most : (m : Mark) → arity m ≤ 2
arity-most (u_seq j) = omega arith
arity-most (u_star j) = omega arith
arity-most (u_act j) = omega arith
arity-most (u_wait j) = omega arith
arity-most u_one = omega arith
arity-most u_par = omega arith
arity-most (u_mod a) = omega arith

fine-take : (P : List ℕ) (m : Mark) (x : List Term) → Fine P m x → Fine P m (take (arity m) x)
unfolding Fine
fine-take P (u_seq j) [] f = absurd (omega arith)
fine-take P (u_seq j) (x ∷ xs) f = (omega arith, f.1)
fine-take P (u_star j) [] f = absurd (omega arith)
fine-take P (u_star j) (x ∷ xs) f = (omega arith, f.1)
fine-take P (u_act j) [] f = absurd (omega arith)
fine-take P (u_act j) (x ∷ xs) f = (omega arith, f.1)
fine-take P (u_wait j) x f = f
fine-take P u_one x f = tt
fine-take P u_par [] f = absurd (omega arith)
fine-take P u_par (x ∷ []) f = absurd (omega arith)
fine-take P u_par (x ∷ y ∷ xs) f = omega arith
fine-take P (u_mod a) x f = f

apply-take : (P : List ℕ) (m : Mark) (x : List Term) → Fine P m x → apply P m (take (arity m) x) ≡ hd (apply P m x) ∷ []
unfolding Fine apply
apply-take P (u_seq j) [] f = absurd (omega arith)
apply-take P (u_seq j) (x ∷ xs) f = refl
apply-take P (u_star j) [] f = absurd (omega arith)
apply-take P (u_star j) (x ∷ xs) f = refl
apply-take P (u_act j) [] f = absurd (omega arith)
apply-take P (u_act j) (x ∷ xs) f = refl
apply-take P (u_wait j) x f = refl
apply-take P u_one x f = refl
apply-take P u_par [] f = absurd (omega arith)
apply-take P u_par (x ∷ []) f = absurd (omega arith)
apply-take P u_par (x ∷ y ∷ xs) f = refl
apply-take P (u_mod a) x f = refl

apply-drop : (P : List ℕ) (m : Mark) (x : List Term) → Fine P m x → tl (apply P m x) ≡ drop (arity m) x
unfolding Fine apply
apply-drop P (u_seq j) [] f = absurd (omega arith)
apply-drop P (u_seq j) (x ∷ xs) f = refl
apply-drop P (u_star j) [] f = absurd (omega arith)
apply-drop P (u_star j) (x ∷ xs) f = refl
apply-drop P (u_act j) [] f = absurd (omega arith)
apply-drop P (u_act j) (x ∷ xs) f = refl
apply-drop P (u_wait j) x f = refl
apply-drop P u_one x f = refl
apply-drop P u_par [] f = absurd (omega arith)
apply-drop P u_par (x ∷ []) f = absurd (omega arith)
apply-drop P u_par (x ∷ y ∷ xs) f = refl
apply-drop P (u_mod a) x f = refl

module _ (P S : List ℕ) (s : ℕ) (src : Src P S s) where
  in-word : (d : List ℕ) → 1 ≤ length (terms P d) → 1 ≤ length d
  unfolding terms
  in-word [] h = h
  in-word (u ∷ us) h = omega arith

  pub in_src : s < length S
  in_src = omega (arith, in-word (drop s S) src.deep, length-drop s S)

  pub src-cons : drop s S ≡ get_or S s 0 ∷ drop (s + 1) S
  src-cons = drop-cons S s 0 in_src ∙ ap (λ (n : ℕ). get_or S s 0 ∷ drop n S) (sym (add-one s))

  pub src-terms : terms P (drop s S) ≡ apply P (mark (get_or S s 0)) (terms P (drop (s + 1) S))
  unfolding terms
  src-terms = rw src-cons

  pub src-right : Right P (drop (s + 1) S)
  unfolding Right
  src-right = (rw src-cons at src.right).0

  pub src-fine : Fine P (mark (get_or S s 0)) (terms P (drop (s + 1) S))
  unfolding Right
  src-fine = (rw src-cons at src.right).1

  -- the unit before the words of its parts
  pub past-unit : (r : ℕ) → Holds P S S (s + 1) r (take (arity (mark (get_or S s 0))) (terms P (drop (s + 1) S))) → terms P (drop r S) ≡ drop (arity (mark (get_or S s 0))) (terms P (drop (s + 1) S)) → Right P (drop r S) → Past P S s r
  past-unit r h n k =
      let m = mark (get_or S s 0) in
      let st = terms P (drop (s + 1) S) in
      let g = front (get_or S s 0) h refl src-cons (fine-take P m st src-fine) in
      record {
        held = rw src-terms (rw (apply-take P m st src-fine) at g);
        next = n ∙ sym (apply-drop P m st src-fine) ∙ ap tl (sym src-terms);
        right = k;
      }

pub take-one : (x : List Term) → 1 ≤ length x → take 1 x ≡ hd x ∷ []
take-one [] h = absurd (omega arith)
take-one (x ∷ xs) h = refl

pub take-two : (x : List Term) → 2 ≤ length x → take 2 x ≡ hd x ∷ hd (tl x) ∷ []
take-two [] h = absurd (omega arith)
take-two (x ∷ []) h = absurd (omega arith)
take-two (x ∷ y ∷ xs) h = refl

pub drop-one : (x : List Term) → drop 1 x ≡ tl x
drop-one [] = refl
drop-one (x ∷ xs) = refl

pub drop-two : (x : List Term) → drop 2 x ≡ tl (tl x)
drop-two [] = refl
drop-two (x ∷ []) = refl
drop-two (x ∷ y ∷ xs) = refl

pub fine-deep : (P : List ℕ) (m : Mark) (x : List Term) → Fine P m x → arity m ≤ length x
unfolding Fine
fine-deep P (u_seq j) x f = f.0
fine-deep P (u_star j) x f = f.0
fine-deep P (u_act j) x f = f.0
fine-deep P (u_wait j) x f = omega arith
fine-deep P u_one x f = omega arith
fine-deep P u_par x f = f
fine-deep P (u_mod a) x f = omega arith

unary-by : (u : ℕ) (m : Mark) (b₁ b₂ : Bool) → arity (cond b₁ (u_seq u) (cond b₂ (u_star (u - 192)) (cond true (u_act (u - 384)) m))) ≡ 1
unary-by u m true b₂ = refl
unary-by u m false true = refl
unary-by u m false false = refl

pub unary : (u : ℕ) → u < 576 → arity (mark u) ≡ 1
unfolding mark
unary u h =
    rw (lt-ltb u 576 h) (unary-by u (cond (ltb u 768) (u_wait (u - 576)) (cond (eqb u 768) u_one (cond (eqb u 769) u_par (u_mod (u - 770))))) (ltb u 192) (ltb u 384))

leaf-by : (u : ℕ) (b₁ b₂ : Bool) → arity (cond b₁ (u_wait (u - 576)) (cond b₂ u_one (u_mod (u - 770)))) ≡ 0
leaf-by u true b₂ = refl
leaf-by u false true = refl
leaf-by u false false = refl

pub leaf : (u : ℕ) → 576 ≤ u → (u ≡ 769 → ⊥) → arity (mark u) ≡ 0
unfolding mark
leaf u h k =
    rw (le-ltb u 192 (omega arith), le-ltb u 384 (omega arith), le-ltb u 576 h, ne_eqb u 769 k) (leaf-by u (ltb u 768) (eqb u 768))

pub binary : (u : ℕ) → u ≡ 769 → arity (mark u) ≡ 2
binary u e = rw (e, mark-par)

module _ {P S : List ℕ} {s : ℕ} (src : Src P S s) where
  pub src-next : 1 ≤ arity (mark (get_or S s 0)) → Src P S (s + 1)
  src-next h =
      record { right = src-right P S s src; deep = omega (arith, fine-deep P (mark (get_or S s 0)) (terms P (drop (s + 1) S)) (src-fine P S s src)) }

  pub src-unary : arity (mark (get_or S s 0)) ≡ 1 → Src P S (s + 1)
  src-unary a = src-next (omega arith)

  pub src-binary : arity (mark (get_or S s 0)) ≡ 2 → Src P S (s + 1)
  src-binary a = src-next (omega arith)

  pub past-unary : {r : ℕ} → arity (mark (get_or S s 0)) ≡ 1 → Past P S (s + 1) r → Past P S s r
  past-unary {r} a p =
      let st = terms P (drop (s + 1) S) in
      past-unit P S s src r (rw (a, take-one st (src-unary a).deep) p.held) (rw (a, drop-one st) p.next) p.right

  pub src-mid : {m : ℕ} → arity (mark (get_or S s 0)) ≡ 2 → Past P S (s + 1) m → Src P S m
  src-mid {m} a p =
      let st = terms P (drop (s + 1) S) in
      let two : 2 ≤ length st = rw a at (fine-deep P (mark (get_or S s 0)) st (src-fine P S s src)) in
      record { right = p.right; deep = rw p.next (tl-long st two) }

  pub past-binary : {m r : ℕ} → arity (mark (get_or S s 0)) ≡ 2 → Past P S (s + 1) m → Past P S m r → Past P S s r
  past-binary {m} {r} a p q =
      let st = terms P (drop (s + 1) S) in
      let two : 2 ≤ length st = rw a at (fine-deep P (mark (get_or S s 0)) st (src-fine P S s src)) in
      let second : Holds P S S m r (hd (tl st) ∷ []) = rw p.next at q.held in
      past-unit P S s src r (rw (a, take-two st two) (joined p.held second)) (rw (a, drop-two st) (rw p.next at q.next)) q.right

  pub past-leaf : arity (mark (get_or S s 0)) ≡ 0 → Past P S s (s + 1)
  past-leaf a = past-unit P S s src (s + 1) (rw a (nothing P S (s + 1))) (rw a) (src-right P S s src)

pub past_top : {P S : List ℕ} {s r : ℕ} → s ≤ length S → Past P S s r → r ≤ length S
past_top {P} {S} {s} {r} h p =
    let l : length (drop s S) ≡ length (p.held.word ++ drop r S) = ap length p.held.is in
    omega (arith, l, length-append p.held.word (drop r S), length-drop s S, length-drop r S, p.held.long)

-- a unit without parts says its term by itself
module _ {P S : List ℕ} {s : ℕ} (src : Src P S s) (a : arity (mark (get_or S s 0)) ≡ 0) where
  pub leaf-fine : Fine P (mark (get_or S s 0)) []
  leaf-fine =
      let m = mark (get_or S s 0) in
      rw a at (fine-take P m (terms P (drop (s + 1) S)) (src-fine P S s src))

  pub leaf-top : top P S s ≡ hd (apply P (mark (get_or S s 0)) [])
  leaf-top =
      let m = mark (get_or S s 0) in
      let st = terms P (drop (s + 1) S) in
      let says : apply P m [] ≡ hd (apply P m st) ∷ [] = rw a at (apply-take P m st (src-fine P S s src)) in
      ap hd (src-terms P S s src) ∙ sym (ap hd says)
