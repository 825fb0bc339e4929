-- The lines of a file and their keys, by what they are. Document 01, "The configuration file":
--     "Lines end in byte 10, the last one too. A line is a key, one space, a value; the key is what stands before the first space."
--     Cut at bs ls          ls are the lines of the bytes bs, which begin at the place `at`: each up to its end, and behind the last end what is left, if
--                           anything, is a line without its end
--     Split text k v        the line's text is the key k, one space and the value v
-- Not here: that `lines`, `key` and `value` of `paper` are these (the proofs' `Cutting`). Assumes nothing.
use Rattle.std.specs.Prelude.{ℕ, ◌+◌, true, false, List, [], ◌∷◌, ◌++◌, ◌≡◌, T, length}
use Rattle.paper.specs.Lists.{has}
use Rattle.paper.specs.Bytes.{line_end, space}
use Rattle.paper.specs.File.{Line, line}

pub data Cut : (at : ℕ) → (bs : List ℕ) → (ls : List Line) → Type 0 where
  no_bytes : {at : ℕ} → Cut at [] []
  ended_line : {at : ℕ} {bs : List ℕ} {ls : List Line} (t : List ℕ) → (T (has line_end t) → ⊥) → Cut (at + length t + 1) bs ls
      → Cut at (t ++ (line_end ∷ bs)) (line at t true ∷ ls)
  last_line : {at : ℕ} (b : ℕ) (t : List ℕ) → (T (has line_end (b ∷ t)) → ⊥) → Cut at (b ∷ t) (line at (b ∷ t) false ∷ [])

pub record Split (text k v : List ℕ) : Type 0 where
  pub is : text ≡ k ++ (space ∷ v)
  pub before : T (has space k) → ⊥
