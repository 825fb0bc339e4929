-- Each public call has one outcome. The definitions take a reader f of a program's text; two that are right answer alike (`right-same`), so every
-- outcome is the same whichever is taken, and `parse` is one. Assumes nothing.
use Prim.Native.Nat.{ℕ}
use mathlib.Core.Path.{◌≡◌, refl, sym, ap, ◌∙◌}
use mathlib.Core.List.{List}
use mathlib.Core.Option.{Option, none, some}
use lib.Dec.{ltb}
use lib.ListN.{length}
use Rattle.paper.specs.Parse.{Parsed, Right}
use Rattle.paper.specs.File.{Answer, refused, accepted, unless, and_then, where_if, Value, Read, nothing_read, lines, read_lines}
use Rattle.paper.specs.Reaction.{Program}
use Rattle.paper.specs.Refusals.{Edition, adaptive, most_bytes, with_program, programmed, reading}
use Rattle.paper.specs.Calls.{compiled, Coding, live_start, live_step}
use Rattle.laws.proofs.Parsing.{one-parse}

-- two that are right answer alike
pub right-same : (f g : List ℕ → Parsed) → Right f → Right g → (v : List ℕ) → f v ≡ g v
right-same f g rf rg v = one-parse f rf v ∙ sym (one-parse g rg v)

module _ (f g : List ℕ → Parsed) (rf : Right f) (rg : Right g) where
  program-same : (e : Edition) (n : ℕ) (r : Read) (o : Option Value) → with_program f e n r o ≡ with_program g e n r o
  unfolding with_program
  program-same e n r none = refl
  program-same e n r (some v) = ap (programmed e r v) (right-same f g rf rg v.is)

  lines_same : (e : Edition) (n : ℕ) (a : Answer Read) → and_then a (λ r. with_program f e n r r.program) ≡ and_then a (λ r. with_program g e n r r.program)
  lines_same e n (refused k p) = refl
  lines_same e n (accepted r) = program-same e n r r.program

  pub reading-same : (e : Edition) (file : List ℕ) → reading f e file ≡ reading g e file
  unfolding reading
  reading-same e file =
      ap (λ (a : Answer Program). unless (where_if (ltb most_bytes (length file)) 0) 2 a)
      (lines_same e (length file) (read_lines nothing_read (lines 0 file)))

  -- compile, live start and live step: one outcome
  pub compiled-same : (e : Edition) (file output work : List ℕ) → compiled f e file output work ≡ compiled g e file output work
  unfolding compiled
  compiled-same e file output work = rw (reading-same e file)

  pub live-start-same : (c : Coding) (file live : List ℕ) → live_start f c file live ≡ live_start g c file live
  unfolding live_start
  live-start-same c file live = rw (reading-same adaptive file)

  pub live-step-same : (c : Coding) (file live : List ℕ) (letter : ℕ) → live_step f c file live letter ≡ live_step g c file live letter
  unfolding live_step
  live-step-same c file live letter = rw (reading-same adaptive file)
