-- Demand 3: if Basic's compile accepts a file then Adaptive's live start accepts it, lent 128 bytes, and from the start through every sequence of letters
-- the table's run and the live run give at each step the same orders, refusals and state, by number in the order of discovery; a refused step leaves
-- either in the state before it.
--     runs_same             of the table that either edition gives a file: it and the live engine start alike and run alike (`Both`: Alike)
--     basic-then-adaptive   what Basic accepts, Adaptive accepts, and they are alike
--     table_kept, live_kept     a refused step leaves either in the state before it, whatever the table, the live bytes and the file
--     refused-by-basic      if Basic's compile does not accept a file: the reason is one that Adaptive's reading gives at the same place, or 15 or 16 and
--                           the file contains that construct there, or 17 or 18, or 1 (`Reasons`: Reason)
-- Assumes nothing.
use Prim.Native.Nat.{ℕ, ◌<◌}
use mathlib.Core.Path.{◌≡◌, refl, sym, ap, ap₂, subst, ◌∙◌}
use mathlib.Core.Bool.{cond, ◌||◌}
use mathlib.Core.List.{List, [], ◌∷◌, map}
use native.Mathlib.Omega.{arith}
use lib.Dec.{eqb, ltb}
use lib.ListN.{length, get_or}
use borrow.Author.Tests.{ne_eqb}
use Rattle.paper.specs.Parse.{parse}
use Rattle.paper.specs.File.{Answer, refused, accepted}
use Rattle.paper.specs.Reaction.{Program, State, start_of, possible}
use Rattle.paper.specs.IsTable.{state_count, possible_at, is_table, table_modules, table_events}
use Rattle.paper.specs.Refusals.{Edition, basic, adaptive, reading}
use Rattle.paper.specs.Calls.{output_bytes, work_bytes, cleared, not_compiled, compiled_program, compiled, eight, Stepped, index_from, letter_bytes, entered, table_start, table_step, Lived, stepped, letter_of, reacted, live_start, live_step}
use Rattle.paper.proofs.Choices.{by-option}
use Rattle.laws.proofs.Letters.{by_cond}
use Rattle.coding.specs.Code.{decode, code, coding}
use Rattle.runs.specs.Run.{live_run, rules_run}
use Rattle.runs.proofs.Agree.{from-the-start}
use Rattle.compiler.specs.Demand.{state_at, TableRight}
use Rattle.compiler.proofs.Editions.{both-editions}
use Rattle.compiler.proofs.Whole.{by-room}
use Rattle.claims.specs.Both.{Shown, state_after, table_shows, table_run, live_number, live_shows, live_shown, Alike, table_from, BothAccept, TableKept, LiveKept}
use Rattle.claims.specs.Reasons.{Reason}
use Rattle.claims.proofs.Refused.{compile-explained}
use Rattle.claims.proofs.Demand2.{table-against-rules, begins}
use Rattle.claims.proofs.OneStep.{right-start, number-live, steps_alike}

-- ---- over every sequence

module _ (file : List ℕ) (q : Program) (e : reading parse adaptive file ≡ accepted q) (t : List ℕ) (n : ℕ) (r : TableRight q t n) where
  -- from any state of the table
  run-from : (i : ℕ) → i < n → (bs : List ℕ) → table_run t i bs ≡ map (live_shows q) (rules_run q coding (state_at q i) bs)
  unfolding table_run rules_run
  run-from i h [] = refl
  run-from i h (b ∷ bs) =
      let s = steps_alike file q e t n r i h b in
      ap₂ (λ (x : Shown) (xs : List Shown). x ∷ xs) s.shows
      (run-from (state_after i (table_step t i b)) s.below_count bs ∙ ap (λ (x : State). map (live_shows q) (rules_run q coding x bs)) s.leads)

  start-there : 0 < n
  start-there = let c = r.counted in let l = ap length r.start_first.1 in omega arith

  start_is : state_at q 0 ≡ start_of q
  start_is = ap (λ (xs : List State). get_or xs 0 (start_of q)) r.start_first.1

  start-number : live_number q (code q (start_of q)) ≡ 0
  start-number = subst (λ (s : State). live_number q (code q s) ≡ 0) start_is (number-live file q e t n r 0 start-there)

  module _ (live : List ℕ) (l : length live ≡ 128) where
    start-shows : table_shows 0 (table_start t) ≡ live_shows q (live_start parse coding file live)
    unfolding table_shows live_shows state_after
    start-shows = rw (right-start q t n r, begins file q e live l, start-number)

    start-zero : (table_start t).state ≡ 0
    start-zero = ap (λ (x : Stepped). x.state) (right-start q t n r)

    runs-shown : (bs : List ℕ) → table_run t 0 bs ≡ live_shown q file (live_start parse coding file live).live bs
    unfolding live_shown
    runs-shown bs =
        run-from 0 start-there bs
        ∙ (ap (λ (x : State). map (live_shows q) (rules_run q coding x bs)) start_is ∙ ap (map (live_shows q)) (sym (from-the-start file q e live l bs)))

    table-alike : Alike file live t q
    table-alike = record {
      starts = ap (λ (x : Lived). x.number) (begins file q e live l);
      place_none = ap (λ (x : Lived). x.place) (begins file q e live l);
      same_start = start-shows;
      from_zero = start-zero;
      same_runs = runs-shown;
    }

-- ---- of a file

module _ (e : Edition) (file output work : List ℕ) (h : (compiled parse e file output work).number ≡ 0) where
  -- the table that either edition gives is like the live engine
  pub runs_same : (live : List ℕ) → length live ≡ 128 → Alike file live (table_from (compiled parse e file output work)) (table-against-rules e file output work h).program
  runs_same live l =
      let a = table-against-rules e file output work h in
      table-alike file a.program (both-editions parse e file a.program a.reads) (table_from (compiled parse e file output work)) (compiled parse e file output work).states a.right live l

  -- what either edition accepts, Adaptive compiles to the same table
  pub compiles-same : compiled parse adaptive file output work ≡ compiled parse e file output work
  compiles-same =
      let a = table-against-rules e file output work h in
      let b = ltb (length output) output_bytes || ltb (length work) work_bytes in
      by-room adaptive file output work b refl
      ∙ (ap (λ (x : Answer Program). cond b (not_compiled 1 0 output work) (compiled_program x output (cleared work))) (both-editions parse e file a.program a.reads ∙ sym a.reads)
      ∙ sym (by-room e file output work b refl))

pub basic-then-adaptive : (file output work : List ℕ) → (compiled parse basic file output work).number ≡ 0 → BothAccept file output work
basic-then-adaptive file output work h =
    let a = table-against-rules basic file output work h in
    record {
      program = a.program;
      basic_reads = a.reads;
      adaptive_reads = both-editions parse basic file a.program a.reads;
      same_table = compiles-same basic file output work h;
      alike = runs_same basic file output work h;
    }

-- ---- a file that Basic does not accept

pub refused-by-basic : (file output work : List ℕ) → ((compiled parse basic file output work).number ≡ 0 → ⊥)
    → Reason file output work (compiled parse basic file output work).number (compiled parse basic file output work).place
refused-by-basic file output work = compile-explained file output work

-- ---- a refused step

-- number 0, or zeros
Zeros : Stepped → Type 0
Zeros r = (r.number ≡ 0 → ⊥) → (r.state ≡ 0) × (r.orders ≡ eight [])

entered-zeros : (t : List ℕ) (i l : ℕ) → Zeros (entered t i l)
unfolding entered Zeros
entered-zeros t i l = by_cond Zeros (eqb (possible_at t i l) 1) _ _ (λ o h. absurd (h refl)) (λ o h. (refl, refl))

module _ (t : List ℕ) (i b : ℕ) where
  table-zeros : Zeros (table_step t i b)
  unfolding table_step Zeros
  table-zeros =
      by_cond Zeros (is_table t) _ _
      (λ e.
      by_cond Zeros (ltb i (state_count t)) _ _
      (λ d.
      by-option Zeros (index_from 0 b (letter_bytes (table_modules t) (table_events t))) _ _ (λ c h. (refl, refl))
      (λ l c. entered-zeros t i l))
      (λ d h. (refl, refl)))
      (λ e h. (refl, refl))

  module _ (h : (table_step t i b).number ≡ 0 → ⊥) where
    state-kept : state_after i (table_step t i b) ≡ i
    unfolding state_after
    state-kept = rw (ne_eqb (table_step t i b).number 0 h)

    pub table_kept : TableKept t i b
    unfolding Zeros
    table_kept = record {
      zero_state = (table-zeros h).0;
      zero_orders = (table-zeros h).1;
      same_state = state-kept;
      goes_on = λ bs. unfold table_run in ap (λ (k : ℕ). table_shows i (table_step t i b) ∷ table_run t k bs) state-kept;
    }

-- number 0, or the bytes as they were
Keeps : List ℕ → Lived → Type 0
Keeps live r = (r.number ≡ 0 → ⊥) → (r.live ≡ live) × (r.orders ≡ eight [])

module _ (file live : List ℕ) (b : ℕ) where
  reacted-keeps : (q : Program) (s : State) → Keeps live (reacted coding q s b live)
  unfolding reacted Keeps
  reacted-keeps q s =
      by-option (Keeps live) (letter_of q b) _ _ (λ c h. (refl, refl))
      (λ l c. by_cond (Keeps live) (possible l s) _ _ (λ o h. absurd (h refl)) (λ o h. (refl, refl)))

  stepped-keeps : (a : Answer Program) → Keeps live (stepped coding a b live)
  unfolding Keeps
  stepped-keeps (refused n p) = λ h. (refl, refl)
  stepped-keeps (accepted q) = by-option (Keeps live) (decode q live) _ _ (λ c h. (refl, refl)) (λ s c. reacted-keeps q s)

  step_keeps : Keeps live (live_step parse coding file live b)
  unfolding live_step Keeps
  step_keeps =
      by_cond (Keeps live) (eqb (length live) 128) _ _ (λ e. stepped-keeps (reading parse adaptive file)) (λ e h. (refl, refl))

  pub live_kept : ((live_step parse coding file live b).number ≡ 0 → ⊥) → LiveKept file live b
  unfolding Keeps live_shows live_shown live_run
  live_kept h =
      let k = step_keeps h in
      record {
        same_bytes = k.0;
        zero_orders = k.1;
        same_state = λ q. ap (live_number q) k.0;
        goes_on = λ q bs. ap (λ (x : List ℕ). live_shows q (live_step parse coding file live b) ∷ map (live_shows q) (live_run parse coding file x bs)) k.0;
      }
