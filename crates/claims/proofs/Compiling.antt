-- Compile, for either edition: the three ways that a call ends, No. 1, another refusal, or the table, and for each which condition holds and what is left
-- behind (`compile-ends`). Assumes nothing.
use Prim.Native.Nat.{ℕ, ◌≤◌, ◌<◌}
use mathlib.Core.Path.{◌≡◌, refl, sym, ap, subst, ◌∙◌}
use mathlib.Core.Bool.{Bool, true, false, ◌||◌, true≢false}
use mathlib.Core.List.{List, [], ◌∷◌, ◌++◌}
use mathlib.Core.Logic.{◌⊎◌, inl, inr}
use native.Mathlib.Decide.{dec_lt}
use native.Mathlib.Omega.{arith}
use borrow.Author.Rules.{rules}
use borrow.Author.Tests.{ltb-true, lt-ltb}
use lib.Dec.{ltb}
use lib.ListN.{length, take, drop}
use lib.Seq.{take-append_seam}
use Rattle.paper.specs.Grammar.{Sequence}
use Rattle.paper.specs.Parse.{parse}
use Rattle.paper.specs.File.{Answer, refused, accepted, unless, where_if, Line, Read}
use Rattle.paper.specs.Reaction.{Program, State}
use Rattle.paper.specs.Discovery.{discovered}
use Rattle.paper.specs.Table.{written, table_of}
use Rattle.paper.specs.IsTable.{is_table}
use Rattle.paper.specs.Refusals.{Edition, basic, adaptive, any_too_large, has_too_many, reading, discovering}
use Rattle.paper.specs.Calls.{Compiled, output_bytes, work_bytes, cleared, not_compiled, tabled, compiled_states, compiled_program, compiled}
use Rattle.laws.proofs.Ordered.{Check, checks, Refuses, now, later}
use Rattle.laws.proofs.Exact.{number-17, number-18}
use Rattle.layout.specs.Says.{table_in}
use Rattle.layout.proofs.Tests.{or_left, or_right, or_cases}
use Rattle.layout.proofs.Written.{written-bytes, written-short}
use Rattle.layout.proofs.Law.{table-written}
use Rattle.compiler.specs.Demand.{Answered}
use Rattle.compiler.proofs.Whole.{by-room}
use Rattle.compiler.proofs.Demand.{table-right}
use Rattle.claims.specs.Faults as faults
use Rattle.claims.specs.Faults.{last_number, LineRefuses, LinesRefuse, ReadingRefuses}
use Rattle.claims.specs.Exactly.{TooShort, output_under, work_under, CompileRefuses, compile_1, compile_2_to_16, compile_17, compile_18}
use Rattle.claims.proofs.Reading.{reading-refused, reading-accepted, refused-reading, accepted-reading}

-- ---- the numbers of a reading

abbrev Within : Edition → ℕ → Type 0
Within e n = (2 ≤ n) × (n ≤ last_number e)

line-within : (e : Edition) (before : List Line) (l : Line) (n p : ℕ) → LineRefuses before l n p → Within e n
line-within e before l n p h = (omega (arith, small before l n p h), far e (small before l n p h).1)
  where
    small : (before : List Line) (l : Line) (n p : ℕ) → LineRefuses before l n p → (2 ≤ n) × (n ≤ 6)
    small before l n p (faults.number_3 b) = (omega arith, omega arith)
    small before l n p (faults.number_4 f g) = (omega arith, omega arith)
    small before l n p (faults.number_5 f k h y) = (omega arith, omega arith)
    small before l n p (faults.number_6 f k h y i w) = (omega arith, omega arith)

    far : (e : Edition) → n ≤ 6 → n ≤ last_number e
    far basic k = omega arith
    far adaptive k = omega arith

lines-within : (e : Edition) (before ls : List Line) (n p : ℕ) → LinesRefuse before ls n p → Within e n
lines-within e before ls n p (faults.this {l = l} h) = line-within e before l n p h
lines-within e before ls n p (faults.later {more = more} {l = l} f h) = lines-within e (before ++ (l ∷ [])) more n p h

unfoldable Each : Edition → List Check → Type 0
Each e [] = Unit {0}
Each e (c ∷ cs) = Within e c.number × Each e cs

checks-within : (e : Edition) (r : Read) (at : ℕ) (v : List ℕ) (s : Sequence) → Each e (checks e r at v s)
unfolding Each
checks-within basic r at v s = search rules
checks-within adaptive r at v s = search rules

each_within : (e : Edition) (n p : ℕ) (cs : List Check) → Refuses n p cs → Each e cs → Within e n
unfolding Each
each_within e n p cs (now x y) h = subst (Within e) x h.0
each_within e n p cs (later {cs = more} x r) h = each_within e n p more r h.1

-- No. 2 to 14, for Basic to 16
pub reading-within : (e : Edition) (file : List ℕ) (n p : ℕ) → ReadingRefuses e file n p → (2 ≤ n) × (n ≤ last_number e)
reading-within basic file n p (faults.number_2 h) = (omega arith, omega arith)
reading-within adaptive file n p (faults.number_2 h) = (omega arith, omega arith)
reading-within e file n p (faults.number_3_to_6 h l) = lines-within e [] _ n p l
reading-within basic file n p (faults.number_7 h f g) = (omega arith, omega arith)
reading-within adaptive file n p (faults.number_7 h f g) = (omega arith, omega arith)
reading-within basic file n p (faults.number_8 h i s) = (omega arith, omega arith)
reading-within adaptive file n p (faults.number_8 h i s) = (omega arith, omega arith)
reading-within e file n p (faults.number_9_to_16 h i s t c) = each_within e n p _ c (checks-within e _ _ _ s)

-- ---- No. 17 and 18

discovering-ends : (q : Program) → (discovering q ≡ refused 17 0) ⊎ ((discovering q ≡ refused 18 0) ⊎ ((ss : List State) × (discovering q ≡ accepted ss)))
unfolding discovering
discovering-ends q = go (has_too_many (discovered q)) (any_too_large (discovered q).seen) refl
  where
    go : (b c : Bool) → discovering q ≡ unless (where_if b 0) 17 (unless (where_if c 0) 18 (accepted (discovered q).seen))
        → (discovering q ≡ refused 17 0) ⊎ ((discovering q ≡ refused 18 0) ⊎ ((ss : List State) × (discovering q ≡ accepted ss)))
    go true c e = inl e
    go false true e = inr (inl e)
    go false false e = inr (inr ((discovered q).seen, e))

module _ (e : Edition) (file output work : List ℕ) where
  abbrev its : Compiled
  its = compiled parse e file output work

  -- ---- No. 1

  short-is : TooShort output work → (ltb (length output) output_bytes || ltb (length work) work_bytes) ≡ true
  short-is (output_under h) = or_left (ltb (length output) output_bytes) (ltb (length work) work_bytes) (lt-ltb (length output) output_bytes h)
  short-is (work_under h) = or_right (ltb (length output) output_bytes) (ltb (length work) work_bytes) (lt-ltb (length work) work_bytes h)

  is-short : (ltb (length output) output_bytes || ltb (length work) work_bytes) ≡ true → TooShort output work
  is-short h = by (or_cases (ltb (length output) output_bytes) (ltb (length work) work_bytes) h)
    where
      by : (ltb (length output) output_bytes ≡ true) ⊎ (ltb (length work) work_bytes ≡ true) → TooShort output work
      by (inl q) = output_under (ltb-true (length output) output_bytes q)
      by (inr q) = work_under (ltb-true (length work) work_bytes q)

  at_once : TooShort output work → its ≡ not_compiled 1 0 output work
  at_once h = by-room e file output work true (short-is h)

  long-enough : (TooShort output work → ⊥) → its ≡ compiled_program (reading parse e file) output (cleared work)
  long-enough f = by (ltb (length output) output_bytes || ltb (length work) work_bytes) refl
    where
      by : (b : Bool) → (ltb (length output) output_bytes || ltb (length work) work_bytes) ≡ b → its ≡ compiled_program (reading parse e file) output (cleared work)
      by true q = absurd (f (is-short q))
      by false q = by-room e file output work false q

  read_as : (TooShort output work → ⊥) → (a : Answer Program) → reading parse e file ≡ a → its ≡ compiled_program a output (cleared work)
  read_as f a q = long-enough f ∙ ap (λ (x : Answer Program). compiled_program x output (cleared work)) q

  found_as : (TooShort output work → ⊥) → (q : Program) → reading parse e file ≡ accepted q → (a : Answer (List State)) → discovering q ≡ a
      → its ≡ compiled_states q a output (cleared work)
  found_as f q i a d = read_as f (accepted q) i ∙ ap (λ (x : Answer (List State)). compiled_states q x output (cleared work)) d

  -- ---- a condition is answered by its number and place

  -- No. 1 touches nothing, the others leave the working slice zero
  pub data Refusal : (number place : ℕ) → Type 0 where
    untouched : TooShort output work → its ≡ not_compiled 1 0 output work → Refusal 1 0
    zeroed : {n p : ℕ} → 2 ≤ n → its ≡ not_compiled n p output (cleared work) → Refusal n p

  pub refusal : (n p : ℕ) → CompileRefuses e file output work n p → Refusal n p
  refusal n p (compile_1 h) = untouched h (at_once h)
  refusal n p (compile_2_to_16 f h) = zeroed (reading-within e file n p h).0 (read_as f (refused n p) (refused-reading e file n p h))
  refusal n p (compile_17 {q = q} f a m) = zeroed {n = 17} (omega arith) (found_as f q (accepted-reading e file q a) (refused 17 0) ((number-17 q).1 m))
  refusal n p (compile_18 {q = q} f a m s r l) =
      zeroed {n = 18} (omega arith) (found_as f q (accepted-reading e file q a) (refused 18 0) ((number-18 q).1 (m, (s, r, l))))

  -- ---- how a call ends

  pub data Ends : Type 0 where
    refuses : (n p : ℕ) → CompileRefuses e file output work n p → Ends
    tables : (q : Program) (ss : List State) → its ≡ tabled ss (written (table_of q ss)) output (cleared work) → length (written (table_of q ss)) ≤ length output → Ends

  long-output : (TooShort output work → ⊥) → output_bytes ≤ length output
  long-output f = by (dec_lt (length output) output_bytes)
    where
      by : Dec (length output < output_bytes) → output_bytes ≤ length output
      by (yes h) = absurd (f (output_under h))
      by (no h) = omega arith

  -- a table in range is short
  table-short : (q : Program) (ss : List State) → its ≡ tabled ss (written (table_of q ss)) output (cleared work) → length (written (table_of q ss)) ≤ output_bytes
  table-short q ss i = omega (arith, small)
    where
      t : List ℕ
      t = written (table_of q ss)

      answered : Answered e file its
      answered = table-right e file output work (ap (λ (c : Compiled). c.number) i)

      front : take its.size its.output ≡ t
      front = ap (λ (c : Compiled). take c.size c.output) i ∙ take-append_seam t (drop (length t) output)

      is-table : is_table t ≡ true
      is-table = subst (λ (x : List ℕ). is_table x ≡ true) front answered.right.is_table

      small : length t ≤ 26639
      small =
          let w = table-written t (written-bytes (table_of q ss)) is-table in
          subst (λ (x : List ℕ). length x ≤ 26639) w.1 (written-short (table_in t) w.0)

  program-ends : (TooShort output work → ⊥) → (q : Program) → reading parse e file ≡ accepted q
      → (discovering q ≡ refused 17 0) ⊎ ((discovering q ≡ refused 18 0) ⊎ ((ss : List State) × (discovering q ≡ accepted ss))) → Ends
  program-ends f q i (inl d) = refuses 17 0 (compile_17 f (reading-accepted e file q i) ((number-17 q).0 d))
  program-ends f q i (inr (inl d)) = let w = (number-18 q).0 d in refuses 18 0 (compile_18 f (reading-accepted e file q i) w.0 w.1.0 w.1.1 w.1.2)
  program-ends f q i (inr (inr (ss, d))) = let k = found_as f q i (accepted ss) d in tables q ss k (omega (arith, table-short q ss k, long-output f))

  file-ends : (TooShort output work → ⊥) → (a : Answer Program) → reading parse e file ≡ a → Ends
  file-ends f (refused n p) i = refuses n p (compile_2_to_16 f (reading-refused e file n p i))
  file-ends f (accepted q) i = program-ends f q i (discovering-ends q)

  pub compile-ends : Ends
  compile-ends = by (ltb (length output) output_bytes || ltb (length work) work_bytes) refl
    where
      by : (b : Bool) → (ltb (length output) output_bytes || ltb (length work) work_bytes) ≡ b → Ends
      by true q = refuses 1 0 (compile_1 (is-short q))
      by false q = file-ends (λ s. true≢false (sym (short-is s) ∙ q)) (reading parse e file) refl
