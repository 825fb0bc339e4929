-- A buffer that is filled a part at a time, where a read fails before it is full: nothing that the reader gave is lost.
--     StandsAtFront old new buffer      what the reader gave between the two stands at the buffer's front
-- Assumes nothing.
use Rattle.std.specs.Prelude.{ℕ, ◌≤◌, List, Option, length, take}
use Rattle.std.specs.Io.KnownBytes.{Consumes}

abbrev pub StandsAtFront : (old new : Option (List ℕ)) → List ℕ → Type 0
StandsAtFront old new buffer = (n : ℕ) × (n ≤ length buffer) × Consumes old new (take n buffer)
