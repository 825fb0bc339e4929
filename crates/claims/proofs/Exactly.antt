-- Each refusal is given exactly when its condition holds, in the paper's order. For each public call, of whatever meets its contract: its number and place are
-- those of the first condition that holds, number 0 exactly where none does, at most one applies (`Exactly`), and what stands beside them and in the
-- buffers is what document 01 says (`CompileLeaves`, `TableLeaves`, `LiveLeaves`). Assumes nothing.
--     compile-basic-exactly, compile-adaptive-exactly       No. 1 to 18; No. 1 to 14, 17 and 18
--     table-start-exactly, table-step-exactly               No. 19; No. 19 to 22
--     live-start-exactly, live-step-exactly                 No. 1 to 14; No. 1 to 14, 23, 21, 22
--     reading-exactly, accepts-exactly      the file alone: No. 2 to 16, or the program
--     reading-numbers       Adaptive's reading gives 2 to 14, Basic's 2 to 16
--     not-table-exactly     No. 19's conditions hold of the bytes that are not the writing of any table in range
use Prim.Native.Nat.{ℕ, ◌+◌, ◌≤◌}
use mathlib.Core.Path.{◌≡◌, ap, ◌∙◌}
use mathlib.Core.List.{List, ◌++◌}
use mathlib.Core.Logic.{◌↔◌, inl}
use native.Mathlib.Omega.{arith}
use lib.ListN.{length, drop, replicate, length-take, length-append, length-drop, length-replicate}
use lib.Seq.{drop-append_seam}
use Rattle.paper.specs.Parse.{parse}
use Rattle.paper.specs.File.{refused, accepted}
use Rattle.paper.specs.Reaction.{Program, State}
use Rattle.paper.specs.Table.{Table, written, table_of}
use Rattle.paper.specs.Refusals.{Edition, basic, adaptive, reading}
use Rattle.paper.specs.Calls as calls
use Rattle.paper.specs.Calls.{Stepped, Lived, cleared, eight, tabled, compiled, table_start, table_step, live_start, live_step}
use Rattle.fields.specs.Window.{Bytes}
use Rattle.layout.specs.InRange.{InRange}
use Rattle.coding.specs.Code.{coding}
use Rattle.std.proofs.Common.{Result}
use Rattle.refusals.specs.declared.Refusal.{Refusal as CallRefusal}
use Rattle.table.specs.declared.Answer.{Answer as TableAnswer}
use Rattle.table.specs.Answers.{stepped}
use Rattle.engine.specs.declared.Answer.{Answer as LiveAnswer}
use Rattle.engine.specs.Live as engine
use Rattle.compiler.specs.declared.Compiled.{Compiled}
use Rattle.claims.specs.Promises.{Compiles, CompilesBasic, CompilesAdaptive, TableStarts, TableSteps, LiveStarts, LiveSteps}
use Rattle.claims.specs.Faults.{ReadingRefuses, last_number, Accepts}
use Rattle.claims.specs.Exactly.{CompileRefuses, NotTable, TableStartRefuses, TableStepRefuses, LiveStartRefuses, LiveStepRefuses, Exactly, CompileLeaves, TableLeaves, LiveLeaves}
use Rattle.claims.proofs.Reading.{reading-refused, reading-accepted, refused-reading, accepted-reading}
use Rattle.claims.proofs.Verdict.{Sound, Verdict, given, exactly}
use Rattle.claims.proofs.Compiling.{reading-within, Refusal, untouched, zeroed, refusal, Ends, refuses, tables, compile-ends}
use Rattle.claims.proofs.Tabling as tabling
use Rattle.claims.proofs.Tabling.{TableEnds, TableSound, start-sound, start-ends, step-sound, step-ends, not_written}
use Rattle.claims.proofs.Living as living
use Rattle.claims.proofs.Living.{LiveEnds, LiveSound, begin-sound, begin-ends, go-sound, go-ends}

-- ---- the file

pub reading-exactly : (e : Edition) (file : List ℕ) (n p : ℕ) → (reading parse e file ≡ refused n p) ↔ ReadingRefuses e file n p
reading-exactly e file n p = (reading-refused e file n p, refused-reading e file n p)

pub accepts-exactly : (e : Edition) (file : List ℕ) (q : Program) → (reading parse e file ≡ accepted q) ↔ Accepts e file q
accepts-exactly e file q = (reading-accepted e file q, accepted-reading e file q)

pub reading-numbers : (e : Edition) (file : List ℕ) (n p : ℕ) → ReadingRefuses e file n p → (2 ≤ n) × (n ≤ last_number e)
reading-numbers = reading-within

-- ---- compile

module _ (e : Edition) (file output work : List ℕ) (r : Compiled) (output' work' : List ℕ) (met : Compiles e file output work r output' work') where
  -- of an outcome that is known
  number_is : (c : calls.Compiled) → compiled parse e file output work ≡ c → r.number ≡ c.number
  number_is c i = ap (λ (x : calls.Compiled). x.number) (met ∙ i)

  place_is : (c : calls.Compiled) → compiled parse e file output work ≡ c → r.place ≡ c.place
  place_is c i = ap (λ (x : calls.Compiled). x.place) (met ∙ i)

  states-is : (c : calls.Compiled) → compiled parse e file output work ≡ c → r.states ≡ c.states
  states-is c i = ap (λ (x : calls.Compiled). x.states) (met ∙ i)

  size_is : (c : calls.Compiled) → compiled parse e file output work ≡ c → r.size ≡ c.size
  size_is c i = ap (λ (x : calls.Compiled). x.size) (met ∙ i)

  output-is : (c : calls.Compiled) → compiled parse e file output work ≡ c → output' ≡ c.output
  output-is c i = ap (λ (x : calls.Compiled). x.output) (met ∙ i)

  work-is : (c : calls.Compiled) → compiled parse e file output work ≡ c → work' ≡ c.work
  work-is c i = ap (λ (x : calls.Compiled). x.work) (met ∙ i)

  compile-sound : Sound r.number r.place (CompileRefuses e file output work)
  compile-sound n p h = by (refusal e file output work n p h)
    where
      by : {n p : ℕ} → Refusal e file output work n p → (r.number ≡ n) × ((r.place ≡ p) × (1 ≤ n))
      by (untouched s i) = (number_is _ i, (place_is _ i, omega arith))
      by (zeroed a i) = (number_is _ i, (place_is _ i, omega (arith, a)))

  compile-verdict : Verdict r.number r.place (CompileRefuses e file output work)
  compile-verdict = by (compile-ends e file output work)
    where
      by : Ends e file output work → Verdict r.number r.place (CompileRefuses e file output work)
      by (refuses n p h) = given r.number r.place (CompileRefuses e file output work) compile-sound n p h
      by (tables q ss i l) = inl (number_is _ i, place_is _ i)

  compile-exactly : Exactly r.number r.place (CompileRefuses e file output work)
  compile-exactly = exactly r.number r.place (CompileRefuses e file output work) compile-sound compile-verdict

  -- the table at the front of the output, which is long enough
  table-leaves : (all : List State) (t : List ℕ) → compiled parse e file output work ≡ tabled all t output (cleared work) → length t ≤ length output → CompileLeaves output work r output' work'
  table-leaves all t i l =
      let n = number_is _ i in
      let s : r.size ≡ length t = size_is _ i in
      let o : output' ≡ t ++ drop (length t) output = output-is _ i in
      let w : work' ≡ replicate (length work) 0 = work-is _ i in
      record {
        zeros = λ h. absurd (omega (arith, n, h));
        output_kept = λ h. absurd (omega (arith, n, h));
        work_zero = λ h. w;
        work_kept = λ h. absurd (omega (arith, n, h));
        beyond_kept = λ h. (omega (arith, s, l), rw (s, o) (drop-append_seam t (drop (length t) output)));
        same_length = (
          ap length o ∙ length-append t (drop (length t) output) ∙ omega (arith, length-drop (length t) output, l),
          ap length w ∙ length-replicate (length work) 0,
        );
      }

  refusal-leaves : (n p : ℕ) → Refusal e file output work n p → CompileLeaves output work r output' work'
  refusal-leaves n p (untouched s i) = record {
    zeros = λ h. (states-is _ i, size_is _ i);
    output_kept = λ h. output-is _ i;
    work_zero = λ h. absurd (h (number_is _ i));
    work_kept = λ h. work-is _ i;
    beyond_kept = λ h. absurd (let z = number_is _ i in omega (arith, z, h));
    same_length = (ap length (output-is _ i), ap length (work-is _ i));
  }
  refusal-leaves n p (zeroed a i) = record {
    zeros = λ h. (states-is _ i, size_is _ i);
    output_kept = λ h. output-is _ i;
    work_zero = λ h. work-is _ i;
    work_kept = λ h. absurd (let z = number_is _ i in omega (arith, z, h, a));
    beyond_kept = λ h. absurd (let z = number_is _ i in omega (arith, z, h, a));
    same_length = (ap length (output-is _ i), ap length (work-is _ i) ∙ length-replicate (length work) 0);
  }

  compile-leaves : CompileLeaves output work r output' work'
  compile-leaves = by (compile-ends e file output work)
    where
      by : Ends e file output work → CompileLeaves output work r output' work'
      by (refuses n p h) = refusal-leaves n p (refusal e file output work n p h)
      by (tables q ss i l) = table-leaves ss (written (table_of q ss)) i l

-- No. 1 to 18
pub compile-basic-exactly : (file output work : List ℕ) (r : Compiled) (output' work' : List ℕ) → CompilesBasic file output work r output' work'
    → Exactly r.number r.place (CompileRefuses basic file output work) × CompileLeaves output work r output' work'
compile-basic-exactly file output work r output' work' met =
    (compile-exactly basic file output work r output' work' met, compile-leaves basic file output work r output' work' met)

-- No. 1 to 14, 17 and 18
pub compile-adaptive-exactly : (file output work : List ℕ) (r : Compiled) (output' work' : List ℕ) → CompilesAdaptive file output work r output' work'
    → Exactly r.number r.place (CompileRefuses adaptive file output work) × CompileLeaves output work r output' work'
compile-adaptive-exactly file output work r output' work' met =
    (compile-exactly adaptive file output work r output' work' met, compile-leaves adaptive file output work r output' work' met)

-- ---- the table's start and step

eight-long : (os : List ℕ) → length (eight os) ≡ 8
eight-long os =
    let l : length (os ++ replicate 8 0) ≡ length os + 8 = length-append os (replicate 8 0) in
    length-take 8 (os ++ replicate 8 0) ∙ omega (arith, l)

module _ (x : Stepped) (R : ℕ → ℕ → Type 0) (sound : TableSound x R) (ends : TableEnds x R) (r : Stepped) (met : r ≡ x) where
  table-sound : Sound r.number r.place R
  table-sound n p h =
      let s = sound n p h in
      (ap (λ (y : Stepped). y.number) (met ∙ s.0), (ap (λ (y : Stepped). y.place) (met ∙ s.0) ∙ s.1.0, s.1.1))

  table-verdict : TableEnds x R → Verdict r.number r.place R
  table-verdict (tabling.refuses n h i) = given r.number r.place R table-sound n 0 h
  table-verdict (tabling.goes state os i) = inl (ap (λ (y : Stepped). y.number) (met ∙ i), ap (λ (y : Stepped). y.place) (met ∙ i))

  table-left : TableEnds x R → TableLeaves r
  table-left (tabling.refuses n h i) = record {
    zeros = λ k. (ap (λ (y : Stepped). y.state) (met ∙ i), ap (λ (y : Stepped). y.orders) (met ∙ i));
    eight_orders = ap (λ (y : Stepped). length y.orders) (met ∙ i);
  }
  table-left (tabling.goes state os i) = record {
    zeros = λ k. absurd (let z = ap (λ (y : Stepped). y.number) (met ∙ i) in omega (arith, z, k));
    eight_orders = ap (λ (y : Stepped). length y.orders) (met ∙ i) ∙ eight-long os;
  }

  table-exactly : Exactly r.number r.place R × TableLeaves r
  table-exactly = (exactly r.number r.place R table-sound (table-verdict ends), table-left ends)

-- "Table start: 19"
pub table-start-exactly : (t : List ℕ) (r : Result TableAnswer CallRefusal) → TableStarts t r
    → Exactly (stepped r).number (stepped r).place (TableStartRefuses t) × TableLeaves (stepped r)
table-start-exactly t r met = table-exactly (table_start t) (TableStartRefuses t) (start-sound t) (start-ends t) (stepped r) met

-- "Table step: 19 to 22."
pub table-step-exactly : (t : List ℕ) (state letter : ℕ) (r : Result TableAnswer CallRefusal) → TableSteps t state letter r
    → Exactly (stepped r).number (stepped r).place (TableStepRefuses t state letter) × TableLeaves (stepped r)
table-step-exactly t state letter r met =
    table-exactly (table_step t state letter) (TableStepRefuses t state letter) (step-sound t state letter) (step-ends t state letter) (stepped r) met

pub not-table-exactly : (t : List ℕ) → Bytes t → NotTable t ↔ ((a : Table) → InRange a → written a ≡ t → ⊥)
not-table-exactly = not_written

-- ---- the live start and step

module _ (live : List ℕ) (x : Lived) (R : ℕ → ℕ → Type 0) (sound : LiveSound live x R) (ends : LiveEnds live x R) (r : LiveAnswer) (live' : List ℕ) (met : engine.outcome r live' ≡ x) where
  live-sound : Sound r.number r.place R
  live-sound n p h =
      let s = sound n p h in
      (ap (λ (y : Lived). y.number) (met ∙ s.0), (ap (λ (y : Lived). y.place) (met ∙ s.0), s.1))

  live-verdict : LiveEnds live x R → Verdict r.number r.place R
  live-verdict (living.refuses n p h i) = given r.number r.place R live-sound n p h
  live-verdict (living.goes os bytes i l) = inl (ap (λ (y : Lived). y.number) (met ∙ i), ap (λ (y : Lived). y.place) (met ∙ i))

  live-left : LiveEnds live x R → LiveLeaves live r live'
  live-left (living.refuses n p h i) = record {
    zeros = λ k. ap (λ (y : Lived). y.orders) (met ∙ i);
    eight_orders = ap (λ (y : Lived). length y.orders) (met ∙ i);
    live_kept = λ k. ap (λ (y : Lived). y.live) (met ∙ i);
    same_length = ap (λ (y : Lived). length y.live) (met ∙ i);
  }
  live-left (living.goes os bytes i l) = record {
    zeros = λ k. absurd (let z = ap (λ (y : Lived). y.number) (met ∙ i) in omega (arith, z, k));
    eight_orders = ap (λ (y : Lived). length y.orders) (met ∙ i) ∙ eight-long os;
    live_kept = λ k. absurd (let z = ap (λ (y : Lived). y.number) (met ∙ i) in omega (arith, z, k));
    same_length = ap (λ (y : Lived). length y.live) (met ∙ i) ∙ l;
  }

  live-exactly : Exactly r.number r.place R × LiveLeaves live r live'
  live-exactly = (exactly r.number r.place R live-sound (live-verdict ends), live-left ends)

-- "Live start (Adaptive): 1 to 14"
pub live-start-exactly : (file live : List ℕ) (r : LiveAnswer) (live' : List ℕ) → LiveStarts file live r live'
    → Exactly r.number r.place (LiveStartRefuses file live) × LiveLeaves live r live'
live-start-exactly file live r live' met =
    live-exactly live (live_start parse coding file live) (LiveStartRefuses file live) (begin-sound file live) (begin-ends file live) r live' met

-- "Live step: 1 to 14, 23, 21, 22."
pub live-step-exactly : (file live : List ℕ) (letter : ℕ) (r : LiveAnswer) (live' : List ℕ) → LiveSteps file live letter r live'
    → Exactly r.number r.place (LiveStepRefuses file live letter) × LiveLeaves live r live'
live-step-exactly file live letter r live' met =
    live-exactly live (live_step parse coding file live letter) (LiveStepRefuses file live letter) (go-sound file live letter) (go-ends file live letter) r live'
    met
