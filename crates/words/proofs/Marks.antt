-- What a unit's number says, by its range, and back: the number is determined by what it says (`unmark-mark`).
-- At a `match Unit::of(n)` the arm of `Star(j)` has `c.in-Star.ensures.says : u_star j ≡ mark n`, `.number : 192 + j ≡ n` and `.node : j < 192`, and so
-- for each unit: laws of words take `says`; a bound on n or j is `omega (arith, c.in-Star.ensures.number, c.in-Star.ensures.node)`, where it is
-- not found alone. `ap arity (sym says)` is how many parts it has. Of what is written, `mark-number (Star j) (j < 192)` is
-- `mark (192 + j) ≡ u_star j`. Assumes nothing.
use Prim.Native.Nat.{ℕ, ◌+◌, ◌-◌, ◌≤◌, ◌<◌}
use mathlib.Core.Bool.{Bool, true, false, cond}
use mathlib.Core.List.{List}
use mathlib.Core.Path.{◌≡◌, refl, sym, ap, ◌∙◌}
use native.Mathlib.Omega.{arith}
use lib.Dec.{eqb, ltb}
use borrow.Author.Tests.{lt-ltb, le-ltb, ne_eqb, eqb-true, eqb-false, ltb-true, ltb-false}
use Rattle.paper.specs.Term.{Term, One}
use Rattle.words.specs.declared.Unit.{Unit as Given}
use Rattle.words.specs.declared.Unit.TheVariants.{Sequence, Star, Act, Wait, One as Skip, Par, Module}
use Rattle.words.specs.Unit.{unit_mark, number_of, HasNode}
use Rattle.words.specs.Word.{Mark, u_seq, u_star, u_act, u_wait, u_one, u_par, u_mod, mark, hd, apply}

-- below k, or from k on
pub by-lt : {A : Type 0} (u k : ℕ) → (u < k → A) → (k ≤ u → A) → A
by-lt {A} u k f g = go (ltb u k) refl
  where
    go : (b : Bool) → ltb u k ≡ b → A
    go true p = f (ltb-true u k p)
    go false p = g (ltb-false u k p)

-- 0 is not 1: what two different constructors come to
pub clash : {A : Type 0} → ◌≡◌ {A = ℕ} 0 1 → A
clash z = absurd (omega arith)

pub mark-seq : (u : ℕ) → u < 192 → mark u ≡ u_seq u
unfolding mark
mark-seq u h = rw (lt-ltb u 192 h)

pub mark-star : (u : ℕ) → 192 ≤ u → u < 384 → mark u ≡ u_star (u - 192)
unfolding mark
mark-star u l h = rw (le-ltb u 192 l, lt-ltb u 384 h)

pub mark-act : (u : ℕ) → 384 ≤ u → u < 576 → mark u ≡ u_act (u - 384)
unfolding mark
mark-act u l h = rw (le-ltb u 192 (omega arith), le-ltb u 384 l, lt-ltb u 576 h)

pub mark-wait : (u : ℕ) → 576 ≤ u → u < 768 → mark u ≡ u_wait (u - 576)
unfolding mark
mark-wait u l h = rw (le-ltb u 192 (omega arith), le-ltb u 384 (omega arith), le-ltb u 576 l, lt-ltb u 768 h)

pub mark-one : mark 768 ≡ u_one
unfolding mark
mark-one = refl

pub mark-par : mark 769 ≡ u_par
unfolding mark
mark-par = refl

pub mark-mod : (u : ℕ) → 770 ≤ u → mark u ≡ u_mod (u - 770)
unfolding mark
mark-mod u l =
    rw (le-ltb u 192 (omega arith), le-ltb u 384 (omega arith), le-ltb u 576 (omega arith), le-ltb u 768 (omega arith), ne_eqb u 768 (λ e. omega arith), ne_eqb u 769 (λ e. omega arith))

-- what is written is read again
pub mark-number : (u : Given) → HasNode u → mark (number_of u) ≡ unit_mark u
unfolding mark
mark-number (Sequence j) h = mark-seq j h
mark-number (Star j) h =
    let z : 192 + j - 192 ≡ j = omega arith in mark-star (192 + j) (omega arith) (omega arith) ∙ ap u_star z
mark-number (Act i) h =
    let z : 384 + i - 384 ≡ i = omega arith in mark-act (384 + i) (omega arith) (omega arith) ∙ ap u_act z
mark-number (Wait i) h =
    let z : 576 + i - 576 ≡ i = omega arith in mark-wait (576 + i) (omega arith) (omega arith) ∙ ap u_wait z
mark-number Skip h = mark-one
mark-number Par h = mark-par
mark-number (Module m) h = let z : 770 + m - 770 ≡ m = omega arith in mark-mod (770 + m) (omega arith) ∙ ap u_mod z

unfoldable pub unmark : Mark → ℕ
unmark (u_seq j) = j
unmark (u_star j) = 192 + j
unmark (u_act j) = 384 + j
unmark (u_wait j) = 576 + j
unmark u_one = 768
unmark u_par = 769
unmark (u_mod a) = 770 + a

unmark-by : (u : ℕ) (b₁ b₂ b₃ b₄ b₅ b₆ : Bool) → ltb u 192 ≡ b₁ → ltb u 384 ≡ b₂ → ltb u 576 ≡ b₃ → ltb u 768 ≡ b₄ → eqb u 768 ≡ b₅ → eqb u 769 ≡ b₆ → unmark (cond b₁ (u_seq u) (cond b₂ (u_star (u - 192)) (cond b₃ (u_act (u - 384)) (cond b₄ (u_wait (u - 576)) (cond b₅ u_one (cond b₆ u_par (u_mod (u - 770)))))))) ≡ u
unfolding unmark
unmark-by u true b₂ b₃ b₄ b₅ b₆ p₁ p₂ p₃ p₄ p₅ p₆ = refl
unmark-by u false true b₃ b₄ b₅ b₆ p₁ p₂ p₃ p₄ p₅ p₆ = omega (arith, ltb-false u 192 p₁)
unmark-by u false false true b₄ b₅ b₆ p₁ p₂ p₃ p₄ p₅ p₆ = omega (arith, ltb-false u 384 p₂)
unmark-by u false false false true b₅ b₆ p₁ p₂ p₃ p₄ p₅ p₆ = omega (arith, ltb-false u 576 p₃)
unmark-by u false false false false true b₆ p₁ p₂ p₃ p₄ p₅ p₆ = sym (eqb-true u 768 p₅)
unmark-by u false false false false false true p₁ p₂ p₃ p₄ p₅ p₆ = sym (eqb-true u 769 p₆)
unmark-by u false false false false false false p₁ p₂ p₃ p₄ p₅ p₆ = omega (arith, ltb-false u 768 p₄, eqb-false u 768 p₅, eqb-false u 769 p₆)

pub unmark-mark : (u : ℕ) → unmark (mark u) ≡ u
unfolding mark
unmark-mark u = unmark-by u (ltb u 192) (ltb u 384) (ltb u 576) (ltb u 768) (eqb u 768) (eqb u 769) refl refl refl refl refl refl

-- only one unit says `1`
one_only : (u a b c d : ℕ) (b₁ b₂ b₃ b₄ b₅ b₆ : Bool) → eqb u 768 ≡ b₅ → cond b₁ (u_seq u) (cond b₂ (u_star a) (cond b₃ (u_act b) (cond b₄ (u_wait c) (cond b₅ u_one (cond b₆ u_par (u_mod d)))))) ≡ u_one → u ≡ 768
one_only u a b c d true b₂ b₃ b₄ b₅ b₆ q e = clash cc
one_only u a b c d false true b₃ b₄ b₅ b₆ q e = clash cc
one_only u a b c d false false true b₄ b₅ b₆ q e = clash cc
one_only u a b c d false false false true b₅ b₆ q e = clash cc
one_only u a b c d false false false false true b₆ q e = eqb-true u 768 q
one_only u a b c d false false false false false true q e = clash cc
one_only u a b c d false false false false false false q e = clash cc

pub mark-one-only : (u : ℕ) → mark u ≡ u_one → u ≡ 768
unfolding mark
mark-one-only u e =
    one_only u (u - 192) (u - 384) (u - 576) (u - 770) (ltb u 192) (ltb u 384) (ltb u 576) (ltb u 768) (eqb u 768) (eqb u 769) refl e

pub says-one : (P : List ℕ) (m : Mark) (st : List Term) → hd (apply P m st) ≡ One → m ≡ u_one
unfolding apply
says-one P (u_seq j) st e = clash cc
says-one P (u_star j) st e = clash cc
says-one P (u_act j) st e = clash cc
says-one P (u_wait j) st e = clash cc
says-one P u_one st e = refl
says-one P u_par st e = clash cc
says-one P (u_mod a) st e = clash cc
