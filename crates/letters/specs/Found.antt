-- What a check answers.
--     found f               the place that the answer f names, or none
-- Assumes nothing.
use Rattle.std.specs.Prelude.{ℕ}
use Rattle.std.proofs.Math.Option.{Option, none, some}
use Rattle.letters.specs.declared.Found.{Found}
use Rattle.letters.specs.declared.Found.TheVariants.{At, Nothing}

abbrev pub found : Found → Option ℕ
found (At p) = some p
found Nothing = none
