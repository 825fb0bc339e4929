-- Bytes that stand in an input behind their length.
--     ReadsBlock old new bytes      between the two, a reader gave the length of the bytes in two bytes, high first, and then the bytes
-- Assumes nothing.
use Rattle.std.specs.Prelude.{ℕ, List, Option, ◌++◌, ◌≡◌, length}
use Rattle.std.specs.Int.{w16, from_be_bytes}
use Rattle.std.specs.Io.KnownBytes.{Consumes}

pub record ReadsBlock (old new : Option (List ℕ)) (bytes : List ℕ) : Type 0 where
  pub head : List ℕ
  pub two : length head ≡ 2
  pub counted : from_be_bytes w16 head ≡ length bytes
  pub read : Consumes old new (head ++ bytes)
