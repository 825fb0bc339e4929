-- From the file on: No. 1, what the reader refuses, or the program's table. Either edition reads as Adaptive does what it accepts (`Editions`), so what the
-- live engine knows of a program that was read (`engine`, `Whole`) holds here. Assumes nothing.
use Prim.Native.Nat.{ℕ, ◌<◌}
use mathlib.Core.Path.{◌≡◌, refl, sym, ap, ap₂, ◌∙◌}
use mathlib.Core.Bool.{Bool, true, false, cond, ◌||◌}
use mathlib.Core.List.{List}
use lib.Dec.{ltb}
use lib.ListN.{length, take}
use borrow.Author.Tests.{lt-ltb, le-ltb}
use Rattle.paper.specs.Parse.{parse}
use Rattle.paper.specs.File.{Answer, refused, accepted}
use Rattle.paper.specs.Reaction.{Program}
use Rattle.paper.specs.Refusals.{Edition, reading}
use Rattle.paper.specs.Calls as calls
use Rattle.paper.specs.Calls.{output_bytes, work_bytes, cleared, not_compiled, compiled_program, compiled}
use Rattle.paper.proofs.Choices.{clash}
use Rattle.reader.specs.declared.Program.{Program as Given}
use Rattle.reader.specs.declared.Verdict.TheVariants.{Refused, Accepted}
use Rattle.reader.specs.Reads.{ReadsAs}
use Rattle.engine.specs.Live.{Reads, CameWith}
use Rattle.engine.proofs.Whole.{reads-loaded, reads-rooted, reads-kinds, reads-turns}
use Rattle.discover.specs.Finding.{Begins}
use Rattle.compiler.specs.declared.Compiled.{Compiled}
use Rattle.compiler.specs.Compiling.{outcome, Room}
use Rattle.compiler.proofs.Editions.{both-editions}
use Rattle.compiler.proofs.Building.{refused_as}

-- ---- of a program that was read

pub reads-begins : (q : Program) (r : Given) (P : List ℕ) (h : Reads q r P) (vs : List ℕ) → vs ≡ h.weights
    → Begins P vs r.root (take r.modules.count r.modules.letters) (take r.events.count r.events.letters) r.fugitive
reads-begins q r P h vs e = record {
  program = q;
  loaded = reads-loaded q r P h;
  rooted = reads-rooted q r P h;
  kinds = reads-kinds q r P h;
  weighted = (reads-turns q r P h vs e).weighted;
}

-- a program that came of this file
pub record Here (e : Edition) (file : List ℕ) (r : Given) (P vs : List ℕ) : Type 0 where
  pub it : CameWith r P vs
  pub is : reading parse e file ≡ accepted it.program

came-by : (e : Edition) (file : List ℕ) (a : Answer Program) → reading parse e file ≡ a → (r : Given) (P vs : List ℕ) → ReadsAs a r P vs → r.verdict ≡ Accepted → Here e file r P vs
came-by e file (refused n p) i r P vs h v = let z = ap (λ (x : Given). x.verdict) h.is in clash (cc)
came-by e file (accepted q) i r P vs h v = record {
  it = record {
    program = q;
    reads = record { file = file; weights = vs; accepts = both-editions parse e file q i; gives = h };
    weights_are = refl;
  };
  is = i;
}

pub came : (e : Edition) (file : List ℕ) (r : Given) (P vs : List ℕ) → ReadsAs (reading parse e file) r P vs → r.verdict ≡ Accepted → Here e file r P vs
came e file r P vs h v = came-by e file (reading parse e file) refl r P vs h v

refused-by : (a : Answer Program) (r : Given) (P vs : List ℕ) → ReadsAs a r P vs → (n p : ℕ) → r.verdict ≡ Refused n p → a ≡ refused n p
refused-by (refused m o) r P vs h n p v =
    let z : Refused m o ≡ Refused n p = sym (ap (λ (x : Given). x.verdict) h.is) ∙ v in cc
refused-by (accepted q) r P vs h n p v = let z = ap (λ (x : Given). x.verdict) h.is in clash (cc)

-- ---- from the file on

or-true : (b : Bool) → (b || true) ≡ true
or-true true = refl
or-true false = refl

module _ (e : Edition) (file output work : List ℕ) where
  pub by-room : (b : Bool) → (ltb (length output) output_bytes || ltb (length work) work_bytes) ≡ b
      → compiled parse e file output work ≡ cond b (not_compiled 1 0 output work) (compiled_program (reading parse e file) output (cleared work))
  unfolding compiled
  by-room b h = ap (λ (x : Bool). cond x (not_compiled 1 0 output work) (compiled_program (reading parse e file) output (cleared work))) h

  short : (ltb (length output) output_bytes || ltb (length work) work_bytes) ≡ true
      → (r : Compiled) → (r.number ≡ 1) × ((r.place ≡ 0) × ((r.states ≡ 0) × (r.size ≡ 0))) → outcome r output work ≡ compiled parse e file output work
  short h r a = refused_as r output work work 1 0 a refl ∙ sym (by-room true h)

  -- No. 1: "output under 26,640 or working slice under 65,536 bytes"
  pub short_output : length output < output_bytes
      → (r : Compiled) → (r.number ≡ 1) × ((r.place ≡ 0) × ((r.states ≡ 0) × (r.size ≡ 0))) → outcome r output work ≡ compiled parse e file output work
  short_output h = short (ap (λ (b : Bool). b || ltb (length work) work_bytes) (lt-ltb (length output) output_bytes h))

  pub short_work : length work < work_bytes
      → (r : Compiled) → (r.number ≡ 1) × ((r.place ≡ 0) × ((r.states ≡ 0) × (r.size ≡ 0))) → outcome r output work ≡ compiled parse e file output work
  short_work h =
      short (ap (λ (b : Bool). ltb (length output) output_bytes || b) (lt-ltb (length work) work_bytes h) ∙ or-true (ltb (length output) output_bytes))

  module _ (s : Room output work) where
    pub compiles : compiled parse e file output work ≡ compiled_program (reading parse e file) output (cleared work)
    compiles =
        by-room false (ap₂ (λ (a b : Bool). a || b) (le-ltb (length output) output_bytes s.long) (le-ltb (length work) work_bytes s.wide))

    read_as : (a : Answer Program) → reading parse e file ≡ a → compiled_program a output (cleared work) ≡ compiled parse e file output work
    read_as a i = ap (λ (x : Answer Program). compiled_program x output (cleared work)) (sym i) ∙ sym compiles

    -- No. 2 to 16
    pub refused-file : (r : Given) (P vs : List ℕ) → ReadsAs (reading parse e file) r P vs → (n p : ℕ) → r.verdict ≡ Refused n p
        → (work' : List ℕ) → work' ≡ cleared work → (t : Compiled) → (t.number ≡ n) × ((t.place ≡ p) × ((t.states ≡ 0) × (t.size ≡ 0)))
        → outcome t output work' ≡ compiled parse e file output work
    refused-file r P vs h n p v work' w t a =
        refused_as t output work' (cleared work) n p a w ∙ read_as (refused n p) (refused-by (reading parse e file) r P vs h n p v)

    pub accepted-file : (q : Program) → reading parse e file ≡ accepted q → (x : calls.Compiled) → x ≡ compiled_program (accepted q) output (cleared work)
        → x ≡ compiled parse e file output work
    accepted-file q i x d = d ∙ read_as (accepted q) i
