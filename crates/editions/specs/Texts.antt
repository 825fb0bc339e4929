-- What the two programs print. Document 01, "Numbers a caller may get back":
--     "Two programs, one for each edition, read a file from standard input and print `ok STATES BYTES` and a line of lower-case hex, or `refused NUMBER
--     at PLACE`."
--     text_of e file     what is printed for a file: the text for what compile answers, lent zeros as long as No. 1 asks
--     Prints e left left' held held'     a file was taken from what a reader has left, and its text added to what a writer holds
-- Assumes nothing.
use Rattle.std.specs.Prelude.{ℕ, ◌<◌, ◌≤◌, List, Option, length, replicate}
use Rattle.std.specs.Io.KnownBytes.{Appends, Consumes, IsAtEnd}
use Rattle.paper.specs.Parse.{parse}
use Rattle.paper.specs.Refusals.{Edition}
use Rattle.paper.specs.Calls.{compiled, output_bytes, work_bytes}
use Rattle.paper.specs.Programs.{answer_text}

unfoldable pub text_of : Edition → List ℕ → List ℕ
text_of e file = answer_text (compiled parse e file (replicate output_bytes 0) (replicate work_bytes 0))

-- one byte more than a file may have
abbrev pub most_read : ℕ
most_read = 1025

-- fewer only where the input has no more
pub record Prints (e : Edition) (left left' held held' : Option (List ℕ)) : Type 0 where
  pub file : List ℕ
  pub within : length file ≤ most_read
  pub read : Consumes left left' file
  pub end : length file < most_read → IsAtEnd left'
  pub printed : Appends held held' (text_of e file)
