-- The two calls from the file on: what the reader answers decides between its refusal and the program's start or step. Assumes nothing.
use Prim.Native.Nat.{ℕ, ◌≤◌}
use mathlib.Core.Path.{◌≡◌, refl, sym, ap, subst, ◌∙◌}
use mathlib.Core.Bool.{Bool, cond}
use mathlib.Core.List.{List, []}
use native.Mathlib.Omega.{arith}
use lib.ListN.{length, take}
use borrow.Author.Tests.{eq-eqb, ne_eqb}
use Rattle.paper.specs.Parse.{parse}
use Rattle.paper.specs.File.{Answer, refused, accepted}
use Rattle.paper.specs.Reaction.{Program}
use Rattle.paper.specs.Refusals.{adaptive, reading}
use Rattle.paper.specs.Calls.{Lived, eight, not_lived, begun, stepped, live_start, live_step}
use Rattle.paper.proofs.Choices.{clash}
use Rattle.coding.specs.Code.{coding}
use Rattle.coding.proofs.Accepted.{accepted-fit}
use Rattle.reader.specs.declared.Program.{Program as Given}
use Rattle.reader.specs.declared.Verdict.TheVariants.{Refused, Accepted}
use Rattle.reader.specs.Reads.{ReadsAs}
use Rattle.engine.specs.declared.Answer.{Answer as Told}
use Rattle.engine.specs.Live.{outcome, Loaded, Rooted, Kinds, Begins, Turns, Reads, CameWith}
use Rattle.engine.proofs.Loading as loading
use Rattle.engine.proofs.Going.{refused_as}

-- ---- of a program that was read

module _ (q : Program) (r : Given) (P : List ℕ) (h : Reads q r P) where
  pub few_modules : r.modules.count ≤ 8
  few_modules = omega (arith, ap (λ (x : Given). x.modules.count) h.gives.is, (accepted-fit h.file q h.accepts).few_modules)

  pub few_events : r.events.count ≤ 8
  few_events = omega (arith, ap (λ (x : Given). x.events.count) h.gives.is, (accepted-fit h.file q h.accepts).few_events)

  pub reads-loaded : Loaded q P (take r.modules.count r.modules.letters) (take r.events.count r.events.letters)
  reads-loaded = loading.loaded h.file q h.accepts r P h.weights h.gives

  pub reads-rooted : Rooted q P r.root
  reads-rooted = loading.rooted h.file q h.accepts r P h.weights h.gives

  pub reads-kinds : Kinds q r.fugitive
  reads-kinds = loading.kinds h.file q h.accepts r P h.weights h.gives

  pub reads-begins : Begins P r.root (take r.modules.count r.modules.letters) (take r.events.count r.events.letters)
  reads-begins = record { program = q; loaded = reads-loaded; rooted = reads-rooted }

  pub reads-turns : (vs : List ℕ) → vs ≡ h.weights → Turns P vs (take r.modules.count r.modules.letters) (take r.events.count r.events.letters) r.fugitive
  reads-turns vs e =
      subst (λ (ws : List ℕ). Turns P ws (take r.modules.count r.modules.letters) (take r.events.count r.events.letters) r.fugitive) (sym e)
      (record { program = q; loaded = reads-loaded; weighted = loading.weighted h.file q h.accepts r P h.weights h.gives; kinds = reads-kinds })

-- ---- from the file on

-- a program that came of this file
pub record Here (file : List ℕ) (r : Given) (P vs : List ℕ) : Type 0 where
  pub it : CameWith r P vs
  pub is : reading parse adaptive file ≡ accepted it.program

came-by : (file : List ℕ) (a : Answer Program) → reading parse adaptive file ≡ a → (r : Given) (P vs : List ℕ) → ReadsAs a r P vs → r.verdict ≡ Accepted → Here file r P vs
came-by file (refused n p) e r P vs h v = let z = ap (λ (x : Given). x.verdict) h.is in clash (cc)
came-by file (accepted q) e r P vs h v =
    record { it = record { program = q; reads = record { file = file; weights = vs; accepts = e; gives = h }; weights_are = refl }; is = e }

pub came : (file : List ℕ) (r : Given) (P vs : List ℕ) → ReadsAs (reading parse adaptive file) r P vs → r.verdict ≡ Accepted → Here file r P vs
came file r P vs h v = came-by file (reading parse adaptive file) refl r P vs h v

refused-by : (a : Answer Program) (r : Given) (P vs : List ℕ) → ReadsAs a r P vs → (n p : ℕ) → r.verdict ≡ Refused n p → a ≡ refused n p
refused-by (refused m o) r P vs h n p v =
    let z : Refused m o ≡ Refused n p = sym (ap (λ (x : Given). x.verdict) h.is) ∙ v in cc
refused-by (accepted q) r P vs h n p v = let z = ap (λ (x : Given). x.verdict) h.is in clash (cc)

module _ (file live : List ℕ) where
  -- No. 1
  pub short-start : (length live ≡ 128 → ⊥) → (r : Told) → (r.number ≡ 1) × ((r.place ≡ 0) × (r.orders ≡ eight [])) → outcome r live ≡ live_start parse coding file live
  unfolding live_start
  short-start n r a =
      refused_as r live 1 0 a
      ∙ sym (ap (λ (b : Bool). cond b (begun coding (reading parse adaptive file) live) (not_lived 1 0 live)) (ne_eqb (length live) 128 n))

  pub short-step : (letter : ℕ) → (length live ≡ 128 → ⊥) → (r : Told) → (r.number ≡ 1) × ((r.place ≡ 0) × (r.orders ≡ eight [])) → outcome r live ≡ live_step parse coding file live letter
  unfolding live_step
  short-step letter n r a =
      refused_as r live 1 0 a
      ∙ sym (ap (λ (b : Bool). cond b (stepped coding (reading parse adaptive file) letter live) (not_lived 1 0 live)) (ne_eqb (length live) 128 n))

  module _ (l : length live ≡ 128) where
    starts : live_start parse coding file live ≡ begun coding (reading parse adaptive file) live
    unfolding live_start
    starts = ap (λ (b : Bool). cond b (begun coding (reading parse adaptive file) live) (not_lived 1 0 live)) (eq-eqb (length live) 128 l)

    steps : (letter : ℕ) → live_step parse coding file live letter ≡ stepped coding (reading parse adaptive file) letter live
    unfolding live_step
    steps letter = ap (λ (b : Bool). cond b (stepped coding (reading parse adaptive file) letter live) (not_lived 1 0 live)) (eq-eqb (length live) 128 l)

    module _ (r : Given) (P vs : List ℕ) (h : ReadsAs (reading parse adaptive file) r P vs) where
      -- No. 2 to 14
      pub refused-start : (n p : ℕ) → r.verdict ≡ Refused n p → (t : Told) → (t.number ≡ n) × ((t.place ≡ p) × (t.orders ≡ eight [])) → outcome t live ≡ live_start parse coding file live
      refused-start n p v t a =
          refused_as t live n p a ∙ sym (starts ∙ ap (λ (x : Answer Program). begun coding x live) (refused-by (reading parse adaptive file) r P vs h n p v))

      pub refused-step : (letter n p : ℕ) → r.verdict ≡ Refused n p → (t : Told) → (t.number ≡ n) × ((t.place ≡ p) × (t.orders ≡ eight [])) → outcome t live ≡ live_step parse coding file live letter
      refused-step letter n p v t a =
          refused_as t live n p a ∙ sym (steps letter ∙ ap (λ (x : Answer Program). stepped coding x letter live) (refused-by (reading parse adaptive file) r P vs h n p v))

    module _ (q : Program) (e : reading parse adaptive file ≡ accepted q) where
      pub accepted-start : (x : Lived) → x ≡ begun coding (accepted q) live → x ≡ live_start parse coding file live
      accepted-start x d = d ∙ sym (starts ∙ ap (λ (y : Answer Program). begun coding y live) e)

      pub accepted-step : (letter : ℕ) (x : Lived) → x ≡ stepped coding (accepted q) letter live → x ≡ live_step parse coding file live letter
      accepted-step letter x d = d ∙ sym (steps letter ∙ ap (λ (y : Answer Program). stepped coding y letter live) e)
