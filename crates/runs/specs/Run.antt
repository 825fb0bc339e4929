-- Runs: step after step over any sequence of letter bytes. Document 01, "Numbers a caller may get back": "Output and live state keep their bytes" at a
-- refusal, so a run goes on from the state that was there before.
--     live_run f c file live bs      the live engine's: one outcome for each byte, each step on the live bytes that the one before left
--     next_state q s b       the state after the byte b: the reaction's where b is a possible letter of the program, else s
--     after q s bs          the state after all of them
--     rules_run q c s bs     the rules' run: one outcome for each byte, each on the state after those before it
-- Not here: that the two are the same (the proofs' `Agree`). Assumes nothing.
use Rattle.std.specs.Prelude.{ℕ, cond, List, [], ◌∷◌}
use Rattle.paper.specs.Lists.{chosen}
use Rattle.paper.specs.Parse.{Parsed}
use Rattle.paper.specs.Reaction.{Program, State, possible, reaction}
use Rattle.paper.specs.Calls.{Coding, Lived, letter_of, reacted, live_step}

unfoldable pub live_run : (List ℕ → Parsed) → Coding → (file live bs : List ℕ) → List Lived
live_run f c file live [] = []
live_run f c file live (b ∷ bs) = let r = live_step f c file live b in r ∷ live_run f c file r.live bs

unfoldable pub next_state : Program → State → ℕ → State
next_state q s b = chosen (letter_of q b) (λ u. s) (λ l. cond (possible l s) (reaction q l s).state s)

unfoldable pub after : Program → State → List ℕ → State
after q s [] = s
after q s (b ∷ bs) = after q (next_state q s b) bs

unfoldable pub rules_run : Program → Coding → State → List ℕ → List Lived
rules_run q c s [] = []
rules_run q c s (b ∷ bs) = reacted c q s b (c.code q s) ∷ rules_run q c (next_state q s b) bs
