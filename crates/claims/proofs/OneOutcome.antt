-- Each contract admits one outcome only: two answers, with what they leave in the buffers that were lent, that meet it on the same inputs are the same, struct
-- and bytes (`.. -one`), and there is one (`.. -some`). Nor does it depend on which reader of a program's text is taken, as long as it is right
-- (`.. -any-reader`; `parse` is, `laws`: parse-right), and the live state's coding is what document 01 asks for (`the-coding`). Assumes nothing.
use Prim.Native.Nat.{ℕ}
use mathlib.Core.Path.{◌≡◌, refl, sym, ap, ◌∙◌}
use mathlib.Core.List.{List}
use mathlib.Core.Logic.{◌↔◌}
use native.Mathlib.Omega.{arith}
use Rattle.std.proofs.Common.{Result, Ok, Err}
use Rattle.paper.specs.Parse.{Parsed, Right, parse}
use Rattle.paper.specs.Refusals.{Edition}
use Rattle.paper.specs.Calls as calls
use Rattle.paper.specs.Calls.{Stepped, not_stepped, steps_to, eight, Lived, CodingRight, compiled, table_start, table_step, live_start, live_step}
use Rattle.laws.proofs.Parsing.{parse-right}
use Rattle.laws.proofs.Outcomes.{compiled-same, live-start-same, live-step-same}
use Rattle.coding.specs.Code.{coding}
use Rattle.coding.proofs.Right.{coding-right}
use Rattle.refusals.specs.declared.Reason.{Reason}
use Rattle.refusals.specs.declared.Reason.TheVariants.{NoTable, NoState, ForeignLetter, NotRunning}
use Rattle.refusals.specs.declared.Refusal.{Refusal}
use Rattle.refusals.specs.Refusals.{number_of}
use Rattle.refusals.proofs.Numbers.{number_of_some, refusal_one}
use Rattle.table.specs.declared.Answer.{Answer as TableAnswer}
use Rattle.table.specs.Answers.{stepped}
use Rattle.engine.specs.declared.Answer.{Answer as LiveAnswer}
use Rattle.engine.specs.Live as engine
use Rattle.compiler.specs.declared.Compiled.{Compiled}
use Rattle.compiler.specs.Compiling as compiler
use Rattle.claims.specs.Exactly.{TableStartRefuses, start_19, TableStepRefuses, step_19, step_20, step_21, step_22}
use Rattle.claims.proofs.Tabling.{TableEnds, refuses, goes, start-ends, step-ends}
use Rattle.claims.specs.Promises.{Compiles, CompilesBasic, CompilesAdaptive, TableStarts, TableSteps, LiveStarts, LiveSteps}

-- ---- an outcome has one answer and one content of each buffer

compiled-one : (r s : Compiled) (o w o' w' : List ℕ) → compiler.outcome r o w ≡ compiler.outcome s o' w' → (r ≡ s) × ((o ≡ o') × (w ≡ w'))
compiled-one r s o w o' w' e = (
  λ i.
      record {
        number = ap (λ (x : calls.Compiled). x.number) e i;
        place = ap (λ (x : calls.Compiled). x.place) e i;
        states = ap (λ (x : calls.Compiled). x.states) e i;
        size = ap (λ (x : calls.Compiled). x.size) e i;
      },
  (ap (λ (x : calls.Compiled). x.output) e, ap (λ (x : calls.Compiled). x.work) e),
)

stepped-one : (r s : Result TableAnswer Refusal) → stepped r ≡ stepped s → r ≡ s
stepped-one (Ok a) (Ok b) e = ap Ok (λ i. record { state = ap (λ (x : Stepped). x.state) e i; orders = ap (λ (x : Stepped). x.orders) e i })
stepped-one (Err a) (Err b) e = ap Err (refusal_one a b (ap (λ (x : Stepped). x.number) e) (ap (λ (x : Stepped). x.place) e))
stepped-one (Ok a) (Err b) e = absurd (omega (arith, number_of_some b.reason, ap (λ (x : Stepped). x.number) e))
stepped-one (Err a) (Ok b) e = absurd (omega (arith, number_of_some a.reason, ap (λ (x : Stepped). x.number) e))

-- a refusal of the table's calls speaks of no place
refuses-at-none : (x : Stepped) (r : Reason) → x ≡ not_stepped (number_of r) → (y : Result TableAnswer Refusal) × (stepped y ≡ x)
refuses-at-none x r i = (Err (record { reason = r; place = 0 }), sym i)

goes-to : (x : Stepped) (state : ℕ) (os : List ℕ) → x ≡ steps_to state os → (y : Result TableAnswer Refusal) × (stepped y ≡ x)
goes-to x state os i = (Ok (record { state = state; orders = eight os }), sym i)

lived-one : (r s : LiveAnswer) (l l' : List ℕ) → engine.outcome r l ≡ engine.outcome s l' → (r ≡ s) × (l ≡ l')
lived-one r s l l' e = (
  λ i.
      record {
        number = ap (λ (x : Lived). x.number) e i;
        place = ap (λ (x : Lived). x.place) e i;
        orders = ap (λ (x : Lived). x.orders) e i;
      },
  ap (λ (x : Lived). x.live) e,
)

-- ---- compile

module _ (file output work : List ℕ) (r s : Compiled) (output₁ work₁ output₂ work₂ : List ℕ) where
  pub compile-basic-one : CompilesBasic file output work r output₁ work₁ → CompilesBasic file output work s output₂ work₂
      → (r ≡ s) × ((output₁ ≡ output₂) × (work₁ ≡ work₂))
  compile-basic-one h k = compiled-one r s output₁ work₁ output₂ work₂ (h ∙ sym k)

  pub compile-adaptive-one : CompilesAdaptive file output work r output₁ work₁ → CompilesAdaptive file output work s output₂ work₂
      → (r ≡ s) × ((output₁ ≡ output₂) × (work₁ ≡ work₂))
  compile-adaptive-one h k = compiled-one r s output₁ work₁ output₂ work₂ (h ∙ sym k)

pub compile-some : (e : Edition) (file output work : List ℕ) → (r : Compiled) × (output' work' : List ℕ) × Compiles e file output work r output' work'
compile-some e file output work =
    let c = compiled parse e file output work in
    (record { number = c.number; place = c.place; states = c.states; size = c.size }, c.output, c.work, refl)

pub compile-any-reader : (f : List ℕ → Parsed) → Right f → (e : Edition) (file output work : List ℕ) (r : Compiled) (output' work' : List ℕ)
    → Compiles e file output work r output' work' ↔ (compiler.outcome r output' work' ≡ compiled f e file output work)
compile-any-reader f right e file output work r output' work' =
    let same = compiled-same parse f parse-right right e file output work in
    (λ h. h ∙ same, λ h. h ∙ sym same)

-- ---- the table's start and step

pub table-start-one : (t : List ℕ) (r s : Result TableAnswer Refusal) → TableStarts t r → TableStarts t s → r ≡ s
table-start-one t r s h k = stepped-one r s (h ∙ sym k)

pub table-start-some : (t : List ℕ) → (r : Result TableAnswer Refusal) × TableStarts t r
table-start-some t = by (start-ends t)
  where
    by : TableEnds (table_start t) (TableStartRefuses t) → (r : Result TableAnswer Refusal) × TableStarts t r
    by (refuses _ (start_19 _) i) = refuses-at-none (table_start t) NoTable i
    by (goes state os i) = goes-to (table_start t) state os i

pub table-step-one : (t : List ℕ) (state letter : ℕ) (r s : Result TableAnswer Refusal) → TableSteps t state letter r → TableSteps t state letter s → r ≡ s
table-step-one t state letter r s h k = stepped-one r s (h ∙ sym k)

pub table-step-some : (t : List ℕ) (state letter : ℕ) → (r : Result TableAnswer Refusal) × TableSteps t state letter r
table-step-some t state letter = by (step-ends t state letter)
  where
    by : TableEnds (table_step t state letter) (TableStepRefuses t state letter) → (r : Result TableAnswer Refusal) × TableSteps t state letter r
    by (refuses _ (step_19 _) i) = refuses-at-none (table_step t state letter) NoTable i
    by (refuses _ (step_20 _ _) i) = refuses-at-none (table_step t state letter) NoState i
    by (refuses _ (step_21 _ _ _) i) = refuses-at-none (table_step t state letter) ForeignLetter i
    by (refuses _ (step_22 _ _ _ _ _ _) i) = refuses-at-none (table_step t state letter) NotRunning i
    by (goes next os i) = goes-to (table_step t state letter) next os i

-- ---- the live start and step

pub the-coding : CodingRight parse coding
the-coding = coding-right

module _ (file live : List ℕ) where
  pub live-start-one : (r s : LiveAnswer) (live₁ live₂ : List ℕ) → LiveStarts file live r live₁ → LiveStarts file live s live₂ → (r ≡ s) × (live₁ ≡ live₂)
  live-start-one r s live₁ live₂ h k = lived-one r s live₁ live₂ (h ∙ sym k)

  pub live-start-some : (r : LiveAnswer) × (live' : List ℕ) × LiveStarts file live r live'
  live-start-some =
      let c = live_start parse coding file live in
      (record { number = c.number; place = c.place; orders = c.orders }, c.live, refl)

  pub live-start-any-reader : (f : List ℕ → Parsed) → Right f → (r : LiveAnswer) (live' : List ℕ)
      → LiveStarts file live r live' ↔ (engine.outcome r live' ≡ live_start f coding file live)
  live-start-any-reader f right r live' =
      let same = live-start-same parse f parse-right right coding file live in
      (λ h. h ∙ same, λ h. h ∙ sym same)

  module _ (letter : ℕ) where
    pub live-step-one : (r s : LiveAnswer) (live₁ live₂ : List ℕ) → LiveSteps file live letter r live₁ → LiveSteps file live letter s live₂
        → (r ≡ s) × (live₁ ≡ live₂)
    live-step-one r s live₁ live₂ h k = lived-one r s live₁ live₂ (h ∙ sym k)

    pub live-step-some : (r : LiveAnswer) × (live' : List ℕ) × LiveSteps file live letter r live'
    live-step-some =
        let c = live_step parse coding file live letter in
        (record { number = c.number; place = c.place; orders = c.orders }, c.live, refl)

    pub live-step-any-reader : (f : List ℕ → Parsed) → Right f → (r : LiveAnswer) (live' : List ℕ)
        → LiveSteps file live letter r live' ↔ (engine.outcome r live' ≡ live_step f coding file live letter)
    live-step-any-reader f right r live' =
        let same = live-step-same parse f parse-right right coding file live letter in
        (λ h. h ∙ same, λ h. h ∙ sym same)
