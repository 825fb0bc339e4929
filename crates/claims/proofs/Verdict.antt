-- From a condition and its answer to `Exactly`: enough is that each condition is answered by its number and place (`Sound`), and that an answer of a
-- number not 0 has its condition. Assumes nothing.
use Prim.Native.Nat.{ℕ, ◌≤◌}
use mathlib.Core.Path.{◌≡◌, sym, subst, ◌∙◌}
use mathlib.Core.Logic.{◌⊎◌, inr, ⊎_elim}
use native.Mathlib.Omega.{arith}
use Rattle.claims.specs.Exactly.{Exactly}

-- each condition is answered by its number and place, and none by 0
abbrev pub Sound : (number place : ℕ) → (ℕ → ℕ → Type 0) → Type 0
Sound number place R = (n p : ℕ) → R n p → (number ≡ n) × ((place ≡ p) × (1 ≤ n))

-- no refusal, or one that has its condition
abbrev pub Verdict : (number place : ℕ) → (ℕ → ℕ → Type 0) → Type 0
Verdict number place R = ((number ≡ 0) × (place ≡ 0)) ⊎ R number place

-- what has its condition is a verdict
pub given : (number place : ℕ) (R : ℕ → ℕ → Type 0) → Sound number place R → (n p : ℕ) → R n p → Verdict number place R
given number place R sound n p h =
    let s = sound n p h in
    inr (subst (λ (k : ℕ). R k place) (sym s.0) (subst (R n) (sym s.1.0) h))

pub exactly : (number place : ℕ) (R : ℕ → ℕ → Type 0) → Sound number place R → Verdict number place R → Exactly number place R
exactly number place R sound v = record {
  refused =
      λ n p. (
        λ h.
            ⊎_elim (λ z. absurd (omega (arith, z.0, h.0, h.1.1)))
            (λ r. subst (λ (k : ℕ). R k p) h.0 (subst (R number) h.1.0 r)) v,
        sound n p,
      );
  accepted = (
    λ z n p r. let s = sound n p r in omega (arith, s.0, s.1.1),
    λ f. ⊎_elim (λ z. z.0) (λ r. absurd (f number place r)) v,
  );
  accepted_place = λ z. ⊎_elim (λ y. y.1) (λ r. absurd (let s = sound number place r in omega (arith, s.1.1))) v;
  one = λ n p m q r s. let a = sound n p r in let b = sound m q s in (sym a.0 ∙ b.0, sym a.1.0 ∙ b.1.0);
}
