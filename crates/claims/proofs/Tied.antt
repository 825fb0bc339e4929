-- The contracts that the claims speak of are the calls' own, as the checker has them of the source: what a call ensures is the statement of `Promises` on
-- the bytes at its entry and at its exit, and it requires nothing. By `refl`: a change of either side is refused here. Assumes nothing.
use mathlib.Core.Path.{◌≡◌, refl}
use contract.Lifetimes.{Lfts}
use contract.Notation.{connectives}
use denote.Triple.Clauses.{AtExit}
use borrow.Fn.World.{World, ArgsD, ResD}
use borrow.Fn.Kinds.{ended_of}
use Rattle.table.specs.contracts.start as table-start
use Rattle.table.proofs.start.Kinds as table-start-kinds
use Rattle.table.proofs.start.Reads as table-start-reads
use Rattle.table.specs.contracts.step as table-step
use Rattle.table.proofs.step.Kinds as table-step-kinds
use Rattle.table.proofs.step.Reads as table-step-reads
use Rattle.engine.specs.contracts.start as live-start
use Rattle.engine.proofs.start.Kinds as live-start-kinds
use Rattle.engine.proofs.start.Reads as live-start-reads
use Rattle.engine.specs.contracts.step as live-step
use Rattle.engine.proofs.step.Kinds as live-step-kinds
use Rattle.engine.proofs.step.Reads as live-step-reads
use Rattle.compiler.specs.contracts.compile_basic as compile-basic
use Rattle.compiler.proofs.compile_basic.Kinds as compile-basic-kinds
use Rattle.compiler.proofs.compile_basic.Reads as compile-basic-reads
use Rattle.compiler.specs.contracts.compile_adaptive as compile-adaptive
use Rattle.compiler.proofs.compile_adaptive.Kinds as compile-adaptive-kinds
use Rattle.compiler.proofs.compile_adaptive.Reads as compile-adaptive-reads
use Rattle.claims.specs.Promises.{CompilesBasic, CompilesAdaptive, TableStarts, TableSteps, LiveStarts, LiveSteps}

-- In each: the arguments a, the answer x and what is there at the exit s.
module _ (w : World) where
  open connectives w.𝓤 use {⌜◌⌝, ⊤ₛ}

  module _ (κs : Lfts 3) (a : ArgsD compile-basic.signature κs) (x : ResD compile-basic.signature κs)
      (s : AtExit (ended_of 3 compile-basic-kinds.ps compile-basic-kinds.r) κs) where
    pub compile-basic-tied : compile-basic-reads.ensures κs a tt x s w
        ≡ ⌜ CompilesBasic a.0.now a.1.0.now a.1.1.0.now x s.1.0.now s.1.1.0.now ⌝
    compile-basic-tied = refl

    pub compile-basic-free : compile-basic-reads.requires κs a tt w ≡ ⊤ₛ
    compile-basic-free = refl

  module _ (κs : Lfts 3) (a : ArgsD compile-adaptive.signature κs) (x : ResD compile-adaptive.signature κs)
      (s : AtExit (ended_of 3 compile-adaptive-kinds.ps compile-adaptive-kinds.r) κs) where
    pub compile-adaptive-tied : compile-adaptive-reads.ensures κs a tt x s w
        ≡ ⌜ CompilesAdaptive a.0.now a.1.0.now a.1.1.0.now x s.1.0.now s.1.1.0.now ⌝
    compile-adaptive-tied = refl

    pub compile-adaptive-free : compile-adaptive-reads.requires κs a tt w ≡ ⊤ₛ
    compile-adaptive-free = refl

  module _ (κs : Lfts 1) (a : ArgsD table-start.signature κs) (x : ResD table-start.signature κs)
      (s : AtExit (ended_of 1 table-start-kinds.ps table-start-kinds.r) κs) where
    pub table-start-tied : table-start-reads.ensures κs a tt x s w ≡ ⌜ TableStarts a.0.now x ⌝
    table-start-tied = refl

    pub table-start-free : table-start-reads.requires κs a tt w ≡ ⊤ₛ
    table-start-free = refl

  module _ (κs : Lfts 1) (a : ArgsD table-step.signature κs) (x : ResD table-step.signature κs)
      (s : AtExit (ended_of 1 table-step-kinds.ps table-step-kinds.r) κs) where
    pub table-step-tied : table-step-reads.ensures κs a tt x s w ≡ ⌜ TableSteps a.0.now a.1.0 a.1.1.0 x ⌝
    table-step-tied = refl

    pub table-step-free : table-step-reads.requires κs a tt w ≡ ⊤ₛ
    table-step-free = refl

  module _ (κs : Lfts 2) (a : ArgsD live-start.signature κs) (x : ResD live-start.signature κs)
      (s : AtExit (ended_of 2 live-start-kinds.ps live-start-kinds.r) κs) where
    pub live-start-tied : live-start-reads.ensures κs a tt x s w ≡ ⌜ LiveStarts a.0.now a.1.0.now x s.1.0.now ⌝
    live-start-tied = refl

    pub live-start-free : live-start-reads.requires κs a tt w ≡ ⊤ₛ
    live-start-free = refl

  module _ (κs : Lfts 2) (a : ArgsD live-step.signature κs) (x : ResD live-step.signature κs)
      (s : AtExit (ended_of 2 live-step-kinds.ps live-step-kinds.r) κs) where
    pub live-step-tied : live-step-reads.ensures κs a tt x s w ≡ ⌜ LiveSteps a.0.now a.1.0.now a.1.1.0 x s.1.0.now ⌝
    live-step-tied = refl

    pub live-step-free : live-step-reads.requires κs a tt w ≡ ⊤ₛ
    live-step-free = refl
