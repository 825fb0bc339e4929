-- The live engine against the rules, over every sequence of letters. Document 01, "How much each contract must say", shuts out "an engine that leaves
-- the state as it is, or rewrites at the first letter and then idles (demand 2's live steps, over every sequence)".
--     LiveRight file live q     from the start on, the live engine on the file does what the rules do with the program q
--     LiveAnswered file live    it does so with the program that the file gives
-- The table against the rules: `compiler`, `Demand` (TableRight, Answered). Not here: that it is so (the proofs' `Demand2`). Assumes nothing.
use Rattle.std.specs.Prelude.{ℕ, List, ◌++◌, map, ◌≡◌}
use Rattle.paper.specs.Parse.{parse}
use Rattle.paper.specs.File.{accepted}
use Rattle.paper.specs.Running.{runs_l}
use Rattle.paper.specs.Reaction.{Program, State, start_of}
use Rattle.paper.specs.Discovery.{Reach}
use Rattle.paper.specs.Table.{flag}
use Rattle.paper.specs.Refusals.{adaptive, reading}
use Rattle.paper.specs.Calls.{lives_on, reacted, live_start, live_step}
use Rattle.coding.specs.Code.{code, coding}
use Rattle.runs.specs.Run.{live_run, after, rules_run}

pub record LiveRight (file live : List ℕ) (q : Program) : Type 0 where
  -- "it writes the start's code and answers the modules that run"
  pub starts : live_start parse coding file live ≡ lives_on (map (λ m. flag (runs_l m (start_of q).left)) q.modules) (code q (start_of q))
  -- in every reachable state and for every byte, the step is the rules'; and no two of these states have the same bytes
  pub steps : (s : State) → Reach q s → (b : ℕ) → live_step parse coding file (code q s) b ≡ reacted coding q s b (code q s)
  pub apart : (s t : State) → Reach q s → Reach q t → code q s ≡ code q t → s ≡ t
  -- over every sequence the live run is the rules' run, which goes on from the state after the letters before, and that is a reachable one
  pub runs : (bs : List ℕ) → live_run parse coding file (live_start parse coding file live).live bs ≡ rules_run q coding (start_of q) bs
  pub goes_on : (bs ds : List ℕ) → rules_run q coding (start_of q) (bs ++ ds) ≡ rules_run q coding (start_of q) bs ++ rules_run q coding (after q (start_of q) bs) ds
  pub reached : (bs : List ℕ) → Reach q (after q (start_of q) bs)

pub record LiveAnswered (file live : List ℕ) : Type 0 where
  pub program : Program
  pub reads : reading parse adaptive file ≡ accepted program
  pub right : LiveRight file live program
