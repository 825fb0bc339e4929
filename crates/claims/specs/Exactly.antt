-- When each public call refuses, by which number and at which place, and what it leaves behind. Document 01, "Numbers a caller may get back":
--     "Order: 1, 2, then line by line 3 to 6, then 7 to 18 in turn, each over the whole file. Table start: 19 .. Table step: 19 to 22. Live start
--     (Adaptive): 1 to 14 .. Live step: 1 to 14, 23, 21, 22."
-- A constructor for each number, under the words of its condition, with what comes before it and did not hold.
--     CompileRefuses        No. 1 to 18, for either edition
--     NotTable t            No. 19's conditions, one by one
--     IsLetter ms es b      b is the byte of one of the modules ms or of the events es
--     TableStartRefuses, TableStepRefuses   No. 19; No. 19 to 22
--     Codes q live s        the live bytes are those of the state s of the written set
--     LiveStartRefuses, LiveStepRefuses     No. 1 to 14; No. 1 to 14, 23, 21, 22
--     Exactly number place R    an answer's number and place are given exactly where R says so, number 0 exactly where R says nothing
--     CompileLeaves, TableLeaves, LiveLeaves    what stands in the answer beside them, and in the buffers that were lent
-- Not here: that the contracts meet this (the proofs' `Exactly`). Assumes nothing.
use Rattle.std.specs.Prelude.{ℕ, ◌≤◌, ◌<◌, true, List, ◌↔◌, ◌≡◌, T, length, get_or, drop, replicate}
use Rattle.paper.specs.Lists.{has}
use Rattle.paper.specs.Grammar.{module_byte, event_byte}
use Rattle.paper.specs.Running.{runs_l}
use Rattle.paper.specs.Reaction.{Program, State}
use Rattle.paper.specs.Discovery.{Reach}
use Rattle.paper.specs.IsTable.{state_count, possible_at, wrong_layout, wrong_count, wrong_length, wrong_name, wrong_next, wrong_zeros, wrong_event, wrong_start, wrong_padding, table_modules, table_events}
use Rattle.paper.specs.Refusals.{Edition, adaptive, most_parts, parts_of}
use Rattle.paper.specs.Calls.{output_bytes, work_bytes, Stepped, live_bytes}
use Rattle.laws.proofs.Exact.{Many}
use Rattle.coding.specs.Written.{Written}
use Rattle.coding.specs.Code.{code}
use Rattle.engine.specs.declared.Answer.{Answer as LiveAnswer}
use Rattle.compiler.specs.declared.Compiled.{Compiled}
use Rattle.claims.specs.Faults.{ReadingRefuses, Accepts}

-- ---- compile

-- No. 1: "output under 26,640 or working slice under 65,536 bytes"
pub data TooShort (output work : List ℕ) : Type 0 where
  output_under : length output < output_bytes → TooShort output work
  work_under : length work < work_bytes → TooShort output work

pub data CompileRefuses (e : Edition) (file output work : List ℕ) : (number place : ℕ) → Type 0 where
  compile_1 : TooShort output work → CompileRefuses e file output work 1 0
  compile_2_to_16 : {n p : ℕ} → (TooShort output work → ⊥) → ReadingRefuses e file n p → CompileRefuses e file output work n p
  -- "more than 512 reachable states"
  compile_17 : {q : Program} → (TooShort output work → ⊥) → Accepts e file q → Many q → CompileRefuses e file output work 17 0
  -- "a reachable term of more than 8,192 parts"
  compile_18 : {q : Program} → (TooShort output work → ⊥) → Accepts e file q → (Many q → ⊥)
      → (s : State) → Reach q s → most_parts < parts_of s.left → CompileRefuses e file output work 18 0

-- ---- the table's start and step

-- No. 19: "not a table: wrong layout, count, name (over 25 or out of order), next state, padding, length, zeros, event bit, or a start bit unlike
-- state 0's possible bit"
pub data NotTable (t : List ℕ) : Type 0 where
  by_layout : wrong_layout t ≡ true → NotTable t
  by_count : wrong_count t ≡ true → NotTable t
  by_name : wrong_name t ≡ true → NotTable t
  by_next : wrong_next t ≡ true → NotTable t
  by_padding : wrong_padding t ≡ true → NotTable t
  by_length : wrong_length t ≡ true → NotTable t
  by_zeros : wrong_zeros t ≡ true → NotTable t
  by_event : wrong_event t ≡ true → NotTable t
  by_start : wrong_start t ≡ true → NotTable t

pub data IsLetter (modules events : List ℕ) (b : ℕ) : Type 0 where
  of_module : (m : ℕ) → T (has m modules) → b ≡ module_byte m → IsLetter modules events b
  of_event : (e : ℕ) → T (has e events) → b ≡ event_byte e → IsLetter modules events b

-- "Table start: 19"
pub data TableStartRefuses (t : List ℕ) : (number place : ℕ) → Type 0 where
  start_19 : NotTable t → TableStartRefuses t 19 0

-- "Table step: 19 to 22."
pub data TableStepRefuses (t : List ℕ) (state letter : ℕ) : (number place : ℕ) → Type 0 where
  step_19 : NotTable t → TableStepRefuses t state letter 19 0
  -- "state number not below the count"
  step_20 : (NotTable t → ⊥) → state_count t ≤ state → TableStepRefuses t state letter 20 0
  -- "letter not in the program"
  step_21 : (NotTable t → ⊥) → state < state_count t → (IsLetter (table_modules t) (table_events t) letter → ⊥) → TableStepRefuses t state letter 21 0
  -- "completion of a module not running"
  step_22 : (NotTable t → ⊥) → state < state_count t → (m : ℕ) → m < length (table_modules t) → letter ≡ module_byte (get_or (table_modules t) m 0) → possible_at t state m ≡ 0
      → TableStepRefuses t state letter 22 0

-- ---- the live start and step

-- "Live start (Adaptive): 1 to 14"
pub data LiveStartRefuses (file live : List ℕ) : (number place : ℕ) → Type 0 where
  -- "live state not 128 bytes"
  begin_1 : (length live ≡ live_bytes → ⊥) → LiveStartRefuses file live 1 0
  begin_2_to_14 : {n p : ℕ} → length live ≡ live_bytes → ReadingRefuses adaptive file n p → LiveStartRefuses file live n p

pub record Codes (q : Program) (live : List ℕ) (s : State) : Type 0 where
  pub in_set : Written q s
  pub its_code : code q s ≡ live

-- "Live step: 1 to 14, 23, 21, 22."
pub data LiveStepRefuses (file live : List ℕ) (letter : ℕ) : (number place : ℕ) → Type 0 where
  go_1 : (length live ≡ live_bytes → ⊥) → LiveStepRefuses file live letter 1 0
  go_2_to_14 : {n p : ℕ} → length live ≡ live_bytes → ReadingRefuses adaptive file n p → LiveStepRefuses file live letter n p
  -- "live bytes code no state"
  go_23 : {q : Program} → length live ≡ live_bytes → Accepts adaptive file q → ((s : State) → Codes q live s → ⊥) → LiveStepRefuses file live letter 23 0
  -- "letter not in the program"
  go_21 : {q : Program} {s : State} → length live ≡ live_bytes → Accepts adaptive file q → Codes q live s
      → (IsLetter q.modules q.events letter → ⊥) → LiveStepRefuses file live letter 21 0
  -- "completion of a module not running"
  go_22 : {q : Program} {s : State} → length live ≡ live_bytes → Accepts adaptive file q → Codes q live s
      → (m : ℕ) → T (has m q.modules) → letter ≡ module_byte m → (T (runs_l m s.left) → ⊥) → LiveStepRefuses file live letter 22 0

-- ---- what is claimed of a call

pub record Exactly (number place : ℕ) (R : ℕ → ℕ → Type 0) : Type 0 where
  -- a number and its place, exactly where the condition holds
  pub refused : (n p : ℕ) → ((number ≡ n) × ((place ≡ p) × (1 ≤ n))) ↔ R n p
  -- no refusal, exactly where none holds; then the place is 0 too
  pub accepted : (number ≡ 0) ↔ ((n p : ℕ) → R n p → ⊥)
  pub accepted_place : number ≡ 0 → place ≡ 0
  -- at most one number and place
  pub one : (n p m q : ℕ) → R n p → R m q → (n ≡ m) × (p ≡ q)

pub record CompileLeaves (output work : List ℕ) (r : Compiled) (output' work' : List ℕ) : Type 0 where
  -- "A refusal gives number and place, all else zero"
  pub zeros : 1 ≤ r.number → (r.states ≡ 0) × (r.size ≡ 0)
  -- "Output and live state keep their bytes."
  pub output_kept : 1 ≤ r.number → output' ≡ output
  -- "The working slice is zero after every compile call but No. 1, which touches nothing."
  pub work_zero : (r.number ≡ 1 → ⊥) → work' ≡ replicate (length work) 0
  pub work_kept : r.number ≡ 1 → work' ≡ work
  -- "After success the bytes beyond the table keep theirs."
  pub beyond_kept : r.number ≡ 0 → (r.size ≤ length output) × (drop r.size output' ≡ drop r.size output)
  pub same_length : (length output' ≡ length output) × (length work' ≡ length work)

-- "A refusal gives number and place, all else zero"; nothing is lent to be changed
pub record TableLeaves (r : Stepped) : Type 0 where
  pub zeros : 1 ≤ r.number → (r.state ≡ 0) × (r.orders ≡ replicate 8 0)
  pub eight_orders : length r.orders ≡ 8

pub record LiveLeaves (live : List ℕ) (r : LiveAnswer) (live' : List ℕ) : Type 0 where
  -- "A refusal gives number and place, all else zero"
  pub zeros : 1 ≤ r.number → r.orders ≡ replicate 8 0
  pub eight_orders : length r.orders ≡ 8
  -- "Output and live state keep their bytes."
  pub live_kept : 1 ≤ r.number → live' ≡ live
  pub same_length : length live' ≡ length live
