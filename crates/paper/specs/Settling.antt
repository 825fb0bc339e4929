-- The memory, and settling. Document 01, "What a state is":
--     "The memory lists different standard events, oldest first." "A state is at its end when nothing is left of the term; then memory and stopped
--     set are empty."
--     "Settling. While a stored event is armed, the oldest such is taken and leaves the memory at once."
--     Held                  what is left of the term, and the memory
--     oldest t m            the oldest event of the memory m that is armed in t
--     settle n r m          at most n takings; each takes one event out of the memory, so its length is enough (`Settles`: settle-quiet)
--     settled r m           settling
-- Assumes nothing.
use Rattle.std.specs.Prelude.{ℕ, zero, suc, cond, List, [], ◌∷◌, length}
use Rattle.std.proofs.Math.Option.{Option, none, some}
use Rattle.paper.specs.Lists.{chosen, without}
use Rattle.paper.specs.Term.{Term, Left, gone, still}
use Rattle.paper.specs.Running.{armed}
use Rattle.paper.specs.Rewriting.{taken}

pub record Held : Type 0 where
  pub left : Left
  pub memory : List ℕ

abbrev pub held : Left → List ℕ → Held
held r m = record { left = r; memory = m }

unfoldable pub oldest : Term → List ℕ → Option ℕ
oldest t [] = none
oldest t (e ∷ m) = cond (armed e t) (some e) (oldest t m)

unfoldable pub settle : ℕ → Left → List ℕ → Held
settle zero gone m = held gone []
settle (suc n) gone m = held gone []
settle zero (still t) m = held (still t) m
settle (suc n) (still t) m = chosen (oldest t m) (λ u. held (still t) m) (λ e. settle n (taken e t) (without e m))

unfoldable pub settled : Left → List ℕ → Held
settled r m = settle (length m) r m
