-- A run of writes. Document 01, "The table": "Fields are packed most significant bit first".
--     Appended d e at fs end        the bytes d became e: the bits fs stand from `at` up to `end`, all others are as they were
--     Puts v w fs n         the writer v became w: it put the n bits fs, all others of its bytes are as they were
-- Assumes nothing.
use Rattle.std.specs.Prelude.{◌≡◌, List, ◌++◌, ℕ, ◌+◌, length, take, drop}
use Rattle.paper.specs.IsTable.{bits_of}
use Rattle.fields.specs.declared.FieldWriter.{FieldWriter}

pub record Appended (d e : List ℕ) (at : ℕ) (fs : List ℕ) (end : ℕ) : Type 0 where
  pub place : end ≡ at + length fs
  pub done : take end (bits_of e) ≡ take at (bits_of d) ++ fs
  pub rest : drop end (bits_of e) ≡ drop end (bits_of d)

pub record Puts (v w : FieldWriter) (fs : List ℕ) (n : ℕ) : Type 0 where
  pub ends : w.bit ≡ v.bit + n
  pub appended : Appended v.out.now w.out.now v.bit fs w.bit
  pub same_length : length w.out.now ≡ length v.out.now
  pub same_reference : w.out.ghost_name ≡ v.out.ghost_name
