-- The kind of a code, by ranges of codes: a letter's by its bounds, and 9 where the code is none of the others. Assumes nothing.
use Prim.Native.Nat.{ℕ, ◌≤◌, ◌<◌}
use mathlib.Core.Bool.{Bool, true, false, cond, ◌&&◌}
use mathlib.Core.Logic.{◌⊎◌, inl, inr, ⊎_elim}
use mathlib.Core.Path.{◌≡◌, refl, ◌∙◌}
use native.Mathlib.Omega.{arith}
use lib.Dec.{eqb, leb}
use borrow.Author.Tests.{le-leb, lt-leb, ne_eqb}
use Rattle.paper.specs.Bytes.{is_module, is_event}
use Rattle.nodes.specs.Made.{code_kind}
use Rattle.nodes.proofs.Choice.{by-lt}

pub module-kind : (c : ℕ) → 97 ≤ c → c ≤ 122 → code_kind c ≡ 0
unfolding code_kind
module-kind c h u = rw (le-leb 97 c h, le-leb c 122 u)

pub event-kind : (c : ℕ) → 65 ≤ c → c ≤ 90 → code_kind c ≡ 6
unfolding code_kind
event-kind c h u = rw (lt-leb 97 c (omega arith), le-leb 65 c h, le-leb c 90 u)

-- below a range, and above it
pub under : (a b c : ℕ) → c < a → (leb a c && leb c b) ≡ false
under a b c h = rw (lt-leb a c h)

pub over : (a b c : ℕ) → a ≤ c → b < c → (leb a c && leb c b) ≡ false
over a b c h u = rw (le-leb a c h, lt-leb c b u)

pub other-kind : (c : ℕ) → is_module c ≡ false → is_event c ≡ false → (c ≡ 49 → ⊥) → (c ≡ 42 → ⊥) → (c ≡ 59 → ⊥) → (c ≡ 124 → ⊥) → (c ≡ 47 → ⊥)
    → (c ≡ 58 → ⊥) → (c ≡ 33 → ⊥) → code_kind c ≡ 9
unfolding code_kind
other-kind c m e d₁ d₂ d₃ d₄ d₅ d₆ d₇ =
    rw (m, e, ne_eqb c 49 d₁, ne_eqb c 42 d₂, ne_eqb c 59 d₃, ne_eqb c 124 d₄, ne_eqb c 47 d₅, ne_eqb c 58 d₆, ne_eqb c 33 d₇)

-- and back: only a letter's code has a letter's kind
cond-unlike : (b : Bool) (n x y : ℕ) → (x ≡ n → ⊥) → (y ≡ n → ⊥) → cond b x y ≡ n → ⊥
cond-unlike true n x y d e h = d h
cond-unlike false n x y d e h = e h

-- k is not the kind n of a letter
unlike : (n : ℕ) → (n ≡ 0) ⊎ (n ≡ 6) → (k : ℕ) → (k ≡ 0 → ⊥) → (k ≡ 6 → ⊥) → k ≡ n → ⊥
unlike n w k d e h = ⊎_elim (λ z. d (h ∙ z)) (λ z. e (h ∙ z)) w

-- what is no letter has the kind of no letter
mark-unlike : (c n : ℕ) → (n ≡ 0) ⊎ (n ≡ 6) → is_module c ≡ false → is_event c ≡ false → code_kind c ≡ n → ⊥
unfolding code_kind
mark-unlike c n w m e =
    rw (m, e)
    (cond-unlike (eqb c 49) n 1 _ (unlike n w 1 (λ h. omega arith) (λ h. omega arith))
    (cond-unlike (eqb c 42) n 4 _ (unlike n w 4 (λ h. omega arith) (λ h. omega arith))
    (cond-unlike (eqb c 59) n 2 _ (unlike n w 2 (λ h. omega arith) (λ h. omega arith))
    (cond-unlike (eqb c 124) n 3 _ (unlike n w 3 (λ h. omega arith) (λ h. omega arith))
    (cond-unlike (eqb c 47) n 5 _ (unlike n w 5 (λ h. omega arith) (λ h. omega arith))
    (cond-unlike (eqb c 58) n 7 _ (unlike n w 7 (λ h. omega arith) (λ h. omega arith))
    (cond-unlike (eqb c 33) n 8 9 (unlike n w 8 (λ h. omega arith) (λ h. omega arith)) (unlike n w 9 (λ h. omega arith) (λ h. omega arith)))))))))

pub module-code : (c : ℕ) → code_kind c ≡ 0 → 97 ≤ c
module-code c h =
    by-lt c 97
    (λ u.
    by-lt c 65 (λ v. absurd (mark-unlike c 0 (inl refl) (under 97 122 c u) (under 65 90 c v) h))
    (λ v.
    by-lt c 91 (λ w. let z = event-kind c v (omega arith) in absurd (omega arith))
    (λ w. absurd (mark-unlike c 0 (inl refl) (under 97 122 c u) (over 65 90 c v (omega arith)) h))))
    (λ u. u)

pub event-code : (c : ℕ) → code_kind c ≡ 6 → 65 ≤ c
event-code c h =
    by-lt c 65 (λ v. absurd (mark-unlike c 6 (inr refl) (under 97 122 c (omega arith)) (under 65 90 c v) h)) (λ v. v)
