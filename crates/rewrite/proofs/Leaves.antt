-- A unit without parts, rewritten: a waiting `/` is a side, `1` stays, and a module stays or vanishes.
-- Assumes nothing.
use Prim.Native.Nat.{ℕ, ◌+◌, ◌<◌}
use mathlib.Core.Bool.{Bool, true, false}
use mathlib.Core.List.{List, []}
use mathlib.Core.Path.{◌≡◌, sym, ◌∙◌}
use native.Mathlib.Omega.{arith}
use Rattle.paper.specs.Term.{Intr, Mod, One, Act}
use Rattle.paper.specs.Rewriting.{Letter, ends, rewritten}
use Rattle.laws.specs.Weight.{weight, room}
use Rattle.words.specs.declared.Unit.TheVariants.{Module}
use Rattle.words.specs.Word.{mark, apply, Fine}
use Rattle.words.specs.Pieces.{Put, Made}
use Rattle.words.proofs.Marks.{mark-one, mark-number}
use Rattle.words.proofs.Holding.{nothing, front}
use Rattle.words.proofs.Joins.{made_up}
use Rattle.rewrite.specs.Steps.{room_i}

module _ {P D D₁ : List ℕ} {e r : ℕ} (x : Letter) where
  pub leaf-waits : (i : Intr) → Made P D D₁ e r (room_i i) (rewritten x (Act One i)) → Made P D D₁ e r (room (Act One i)) (rewritten x (Act One i))
  unfolding weight
  leaf-waits i m = made_up (omega arith) m

  pub leaf-one : Put D D₁ e r 768 → Made P D D₁ e r (room One) (rewritten x One)
  unfolding apply Fine rewritten
  leaf-one g =
      let fine : Fine P (mark 768) [] = rw mark-one tt in
      record { held = rw mark-one at (front 768 (nothing P D e) g.0 g.1 fine); fits = omega (arith, g.0) }

  pub leaf-stays : {v : Bool} (a : ℕ) → v ≡ ends x a → v ≡ false → a < 26 → Put D D₁ e r (770 + a) → Made P D D₁ e r (room (Mod a)) (rewritten x (Mod a))
  unfolding apply Fine rewritten
  leaf-stays {v} a b t h g =
      let m = mark-number (Module a) tt in
      let fine : Fine P (mark (770 + a)) [] = rw m h in
      rw (sym b ∙ t) record { held = rw m at (front (770 + a) (nothing P D e) g.0 g.1 fine); fits = omega (arith, g.0) }

-- the module that vanishes
pub leaf-ends : (P D : List ℕ) (e : ℕ) (x : Letter) (a : ℕ) {v : Bool} → v ≡ ends x a → v ≡ true → Made P D D e e (room (Mod a)) (rewritten x (Mod a))
unfolding rewritten
leaf-ends P D e x a b t = rw (sym b ∙ t) record { held = nothing P D e; fits = omega arith }
