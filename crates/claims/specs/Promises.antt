-- The contracts of the six public calls, each as a statement on what a call is given, what it answers and what it leaves in the buffers that it was lent.
-- Word for word the `ensures` of the call; none has a `requires`, so nothing is asked of a caller. That a call's own contract is this statement
-- and nothing else is the proofs' `Tied`.
--     CompilesBasic, CompilesAdaptive       `compiler`: compile_basic, compile_adaptive
--     TableStarts, TableSteps               `table`: start, step
--     LiveStarts, LiveSteps                 `engine`: start, step
-- A name with ' is what the buffer holds after the call. Assumes nothing.
use Rattle.std.specs.Prelude.{ℕ, List, ◌≡◌, Result}
use Rattle.paper.specs.Parse.{parse}
use Rattle.paper.specs.Refusals.{Edition, basic, adaptive}
use Rattle.paper.specs.Calls.{compiled, table_start, table_step, live_start, live_step}
use Rattle.coding.specs.Code.{coding}
use Rattle.refusals.specs.declared.Refusal.{Refusal}
use Rattle.table.specs.declared.Answer.{Answer as TableAnswer}
use Rattle.table.specs.Answers.{stepped}
use Rattle.engine.specs.declared.Answer.{Answer as LiveAnswer}
use Rattle.engine.specs.Live as engine
use Rattle.compiler.specs.declared.Compiled.{Compiled}
use Rattle.compiler.specs.Compiling as compiler

-- the compile calls, which differ in the edition
abbrev pub Compiles : Edition → (file output work : List ℕ) → Compiled → (output' work' : List ℕ) → Type 0
Compiles e file output work r output' work' = compiler.outcome r output' work' ≡ compiled parse e file output work

abbrev pub CompilesBasic : (file output work : List ℕ) → Compiled → (output' work' : List ℕ) → Type 0
CompilesBasic = Compiles basic

abbrev pub CompilesAdaptive : (file output work : List ℕ) → Compiled → (output' work' : List ℕ) → Type 0
CompilesAdaptive = Compiles adaptive

abbrev pub TableStarts : (table : List ℕ) → Result TableAnswer Refusal → Type 0
TableStarts table r = stepped r ≡ table_start table

abbrev pub TableSteps : (table : List ℕ) → (state letter : ℕ) → Result TableAnswer Refusal → Type 0
TableSteps table state letter r = stepped r ≡ table_step table state letter

abbrev pub LiveStarts : (file live : List ℕ) → LiveAnswer → (live' : List ℕ) → Type 0
LiveStarts file live r live' = engine.outcome r live' ≡ live_start parse coding file live

abbrev pub LiveSteps : (file live : List ℕ) → (letter : ℕ) → LiveAnswer → (live' : List ℕ) → Type 0
LiveSteps file live letter r live' = engine.outcome r live' ≡ live_step parse coding file live letter
