-- Settling ends by itself: when as many takings are allowed as events are stored, no stored event is armed afterwards, and at the end the memory is
-- empty (`settled-quiet`). Each taking takes one event out of the memory (`oldest-leaves`), so the number that is allowed never cuts it short.
-- It takes no more events than were stored (`takings-few`), each of which left the memory (`settle-takings`). Assumes nothing.
use Prim.Native.Nat.{ℕ, zero, suc, ◌+◌, ◌≤◌}
use mathlib.Core.Path.{◌≡◌, refl}
use mathlib.Core.Bool.{Bool, true, false, cond, true≢false}
use mathlib.Core.List.{List, [], ◌∷◌}
use mathlib.Core.Logic.{◌⊎◌, inl, inr, ⊎_elim}
use mathlib.Core.Option.{Option, none, some}
use native.Mathlib.Omega.{arith}
use lib.Dec.{eqb}
use lib.ListN.{length}
use borrow.Author.Tests.{eq-eqb}
use Rattle.paper.specs.Lists.{chosen, has, without}
use Rattle.paper.specs.Term.{Term, Left, gone, still}
use Rattle.paper.specs.Running.{armed}
use Rattle.paper.specs.Rewriting.{Letter, completion, occurrence, completed, taken}
use Rattle.paper.specs.Settling.{Held, held, oldest, settle, settled}
use Rattle.paper.specs.Reaction.{Program}
use Rattle.paper.proofs.Choices.{by-option, clash}

-- no stored event is armed; at the end none is stored
abbrev pub Quiet : Left → List ℕ → Type 0
Quiet gone m = m ≡ []
Quiet (still t) m = oldest t m ≡ none

-- the memory is shorter by the event that is served
pub oldest-leaves : (t : Term) (m : List ℕ) (e : ℕ) → oldest t m ≡ some e → length (without e m) + 1 ≡ length m
unfolding oldest without
oldest-leaves t [] e p = clash (cc)
oldest-leaves t (x ∷ m) e p = go (armed x t) (eqb e x) refl p (λ r. oldest-leaves t m e r)
  where
    go : (b c : Bool) → eqb e x ≡ c → cond b (some x) (oldest t m) ≡ some e → (oldest t m ≡ some e → length (without e m) + 1 ≡ length m) → length (cond c m (x ∷ without e m)) + 1 ≡ suc (length m)
    go b true k r ih = omega arith
    go true false k r ih = let z : true ≡ false = cc (eq-eqb e x (cc)) in absurd (true≢false z)
    go false false k r ih = omega (arith, ih r)

none-stored : (t : Term) (m : List ℕ) → length m ≤ 0 → oldest t m ≡ none
unfolding oldest
none-stored t [] h = refl
none-stored t (x ∷ m) h = absurd (omega arith)

pub settle-quiet : (n : ℕ) (r : Left) (m : List ℕ) → length m ≤ n → Quiet (settle n r m).left (settle n r m).memory
unfolding settle
settle-quiet zero gone m h = refl
settle-quiet (suc n) gone m h = refl
settle-quiet zero (still t) m h = none-stored t m h
settle-quiet (suc n) (still t) m h =
    by-option (λ x. Quiet x.left x.memory) (oldest t m) (λ u. held (still t) m) (λ e. settle n (taken e t) (without e m)) (λ p. p)
    (λ e p. settle-quiet n (taken e t) (without e m) (omega (arith, oldest-leaves t m e p)))

-- "Settling. While a stored event is armed, the oldest such is taken": afterwards none is
pub settled-quiet : (r : Left) (m : List ℕ) → Quiet (settled r m).left (settled r m).memory
unfolding settled
settled-quiet r m = settle-quiet (length m) r m (omega arith)

-- how many events settling takes, by the same cases as `settle`
unfoldable pub takings : ℕ → Left → List ℕ → ℕ
takings zero gone m = 0
takings (suc n) gone m = 0
takings zero (still t) m = 0
takings (suc n) (still t) m = chosen (oldest t m) (λ u. 0) (λ e. suc (takings n (taken e t) (without e m)))

pub takings-few : (n : ℕ) (r : Left) (m : List ℕ) → takings n r m ≤ length m
unfolding takings
takings-few zero gone m = omega arith
takings-few (suc n) gone m = omega arith
takings-few zero (still t) m = omega arith
takings-few (suc n) (still t) m =
    by-option (λ k. k ≤ length m) (oldest t m) (λ u. 0) (λ e. suc (takings n (taken e t) (without e m))) (λ p. omega arith)
    (λ e p. omega (arith, oldest-leaves t m e p, takings-few n (taken e t) (without e m)))

-- what was taken is what left the memory, unless the end emptied it
pub settle-takings : (n : ℕ) (r : Left) (m : List ℕ) → ((settle n r m).left ≡ gone) ⊎ (length (settle n r m).memory + takings n r m ≡ length m)
unfolding settle takings
settle-takings zero gone m = inl refl
settle-takings (suc n) gone m = inl refl
settle-takings zero (still t) m = inr (omega arith)
settle-takings (suc n) (still t) m = go (oldest t m) refl (λ e. settle-takings n (taken e t) (without e m))
  where
    go : (o : Option ℕ) → oldest t m ≡ o → ((e : ℕ) → ((settle n (taken e t) (without e m)).left ≡ gone) ⊎ (length (settle n (taken e t) (without e m)).memory + takings n (taken e t) (without e m) ≡ length (without e m))) → ((chosen o (λ u. held (still t) m) (λ e. settle n (taken e t) (without e m))).left ≡ gone) ⊎ (length (chosen o (λ u. held (still t) m) (λ e. settle n (taken e t) (without e m))).memory + chosen o (λ u. 0) (λ e. suc (takings n (taken e t) (without e m))) ≡ length m)
    go none q ih = inr (omega arith)
    go (some e) q ih = ⊎_elim (λ h. inl h) (λ h. inr (omega (arith, h, oldest-leaves t m e q))) (ih e)
