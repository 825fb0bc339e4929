-- Demand 2: the table against the rules, and the live step against the rules over every sequence. By their contracts, the two compile calls answer
-- `compiled`, and the live start and step `live_start` and `live_step`, so this is of their answers and of the bytes that they write.
--     table-against-rules   the table of a file that either edition accepts: its states are the reachable ones, each entry is what the rules say
--     states-counted        the number of states is that of the reachable ones: any list of these, each once, is as long
--     live-against-rules    from the live start on, every step over every sequence of letters is the rules'
-- Assumes nothing.
use Prim.Native.Nat.{ℕ}
use mathlib.Core.Path.{◌≡◌, refl, ap, ◌∙◌}
use mathlib.Core.Bool.{Bool, true, false, cond}
use mathlib.Core.List.{List, [], ◌∷◌, map}
use native.Mathlib.Omega.{arith}
use lib.Dec.{T, eqb}
use lib.ListN.{length}
use borrow.Author.Tests.{eqb-true, eq-eqb}
use Rattle.paper.specs.Parse.{parse}
use Rattle.paper.specs.File.{Answer, refused, accepted}
use Rattle.paper.specs.Running.{runs_l}
use Rattle.paper.specs.Reaction.{Program, State, start_of}
use Rattle.paper.specs.Discovery.{Reach, begin, has_s}
use Rattle.paper.specs.Table.{flag}
use Rattle.paper.specs.Refusals.{Edition, adaptive, reading}
use Rattle.paper.specs.Calls.{compiled, Lived, not_lived, lives_on, begun, reacted, live_start, live_step}
use Rattle.laws.proofs.Members.{Distinct}
use Rattle.laws.proofs.Discovers.{discovered-count}
use Rattle.coding.specs.Code.{code, coding}
use Rattle.coding.proofs.Right.{code_same, reach-written}
use Rattle.runs.specs.Run.{live_run, rules_run}
use Rattle.runs.proofs.Agree.{runs-agree, from-the-start, goes_on, reached}
use Rattle.compiler.specs.Demand.{Answered}
use Rattle.compiler.proofs.Editions.{Numbered, reading-numbered}
use Rattle.compiler.proofs.Demand.{table-right}
use Rattle.claims.specs.Ruled.{LiveRight, LiveAnswered}

-- ---- the table

module _ (e : Edition) (file output work : List ℕ) (h : (compiled parse e file output work).number ≡ 0) where
  pub table-against-rules : Answered e file (compiled parse e file output work)
  table-against-rules = table-right e file output work h

  pub states-counted : (xs : List State) → Distinct xs → ((s : State) → T (has_s s xs) → Reach table-against-rules.program s)
      → ((s : State) → Reach table-against-rules.program s → T (has_s s xs)) → (compiled parse e file output work).states ≡ length xs
  states-counted xs d f g =
      let r = table-against-rules.right in
      r.counted ∙ discovered-count table-against-rules.program r.none_waits xs d f g

-- ---- the live engine

first_of : (d : Lived) → List Lived → Lived
first_of d [] = d
first_of d (r ∷ rs) = r

module _ (file : List ℕ) (q : Program) (e : reading parse adaptive file ≡ accepted q) where
  -- a run over one byte is a step
  one-step : (s : State) → Reach q s → (b : ℕ) → live_step parse coding file (code q s) b ≡ reacted coding q s b (code q s)
  unfolding live_run rules_run first_of
  one-step s r b =
      ap (first_of (not_lived 0 0 [])) (runs-agree file q e s (reach-written file q e s r) (b ∷ []))

  module _ (live : List ℕ) (h : length live ≡ 128) where
    pub begins : live_start parse coding file live ≡ lives_on (map (λ m. flag (runs_l m (start_of q).left)) q.modules) (code q (start_of q))
    unfolding live_start
    begins = rw (eq-eqb (length live) 128 h, e)

    pub live-right : LiveRight file live q
    live-right = record {
      starts = begins;
      steps = one-step;
      apart = λ s t v w. (code_same file q e s t (reach-written file q e s v) (reach-written file q e t w)).0;
      runs = from-the-start file q e live h;
      goes_on = goes_on q coding (start_of q);
      reached = reached q (start_of q) begin;
    }

-- the live start did not refuse: the live state has 128 bytes, and the file is a program
module _ (file live : List ℕ) where
  by-file : length live ≡ 128 → (a : Answer Program) → reading parse adaptive file ≡ a → Numbered a → (begun coding a live).number ≡ 0 → LiveAnswered file live
  by-file l (refused n p) i z h = absurd (omega arith)
  by-file l (accepted q) i z h = record { program = q; reads = i; right = live-right file q i live l }

  pub live-against-rules : (live_start parse coding file live).number ≡ 0 → LiveAnswered file live
  unfolding live_start
  live-against-rules h = by (eqb (length live) 128) refl h
    where
      by : (b : Bool) → eqb (length live) 128 ≡ b → (cond b (begun coding (reading parse adaptive file) live) (not_lived 1 0 live)).number ≡ 0 → LiveAnswered file live
      by true e k = by-file (eqb-true (length live) 128 e) (reading parse adaptive file) refl (reading-numbered parse adaptive file) k
      by false e k = absurd (omega arith)
