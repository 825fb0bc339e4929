-- The memory beside a state's word. Document 01, "What a state is":
--     "The memory lists different standard events, oldest first."
--     stored m              the stored events, oldest first
--     lead ts m             how many events of m stand before the first that is armed in one of the terms
--     removed k m           m less its place k
--     Rests P W r h         the answer r, a start in the word W and a memory, is a state's, and what is left and stored is h
-- Assumes nothing.
use Rattle.std.specs.Prelude.{ℕ, zero, suc, ◌≤◌, cond, List, [], ◌∷◌, ◌≡◌, take}
use Rattle.paper.specs.Term.{Term}
use Rattle.paper.specs.Settling.{Held, held}
use Rattle.words.specs.Word.{any_armed}
use Rattle.rewrite.specs.declared.Memory.{Memory}
use Rattle.rewrite.specs.declared.Settled.{Settled}
use Rattle.rewrite.specs.Steps.{Stands, state}

abbrev pub stored : Memory → List ℕ
stored m = take m.count m.events

unfoldable pub lead : List Term → List ℕ → ℕ
lead ts [] = 0
lead ts (e ∷ m) = cond (any_armed e ts) 0 (suc (lead ts m))

unfoldable pub removed : ℕ → List ℕ → List ℕ
removed zero [] = []
removed zero (x ∷ xs) = xs
removed (suc k) [] = []
removed (suc k) (x ∷ xs) = x ∷ removed k xs

abbrev pub Rests : List ℕ → List ℕ → Settled → Held → Type 0
Rests P W r h = Stands P W r.start × ((held (state P W r.start) (stored r.memory) ≡ h) × (r.memory.count ≤ 8))
