-- What is printed into a lent line. Document 01, "Numbers a caller may get back":
--     "print `ok STATES BYTES` and a line of lower-case hex, or `refused NUMBER at PLACE`."
--     Put before after at bs end    the line `before` became `after`: the bytes bs stand from `at` up to `end`, all others are as they were
--     answer ..                     what a compile answered, without the working slice, of which nothing is printed
--     fits size held room           a table's bytes are all held, and a line of `room` bytes holds any text for it: two digits a byte, and 60 for the rest
--     shown c room                  what is printed into a line of `room` bytes: the answer's text where it fits, else nothing
--     Printed c before after r      the line became `after`: at its front r bytes, what is printed for c, and behind them what stood there
-- Not here: the text itself (`answer_text` of `paper`). Assumes nothing.
use Rattle.std.specs.Prelude.{ℕ, ◌+◌, ◌*◌, ◌≤◌, ◌≡◌, Bool, cond, ◌&&◌, List, [], ◌++◌, leb, length, take, drop}
use Rattle.paper.specs.Calls.{Compiled}
use Rattle.paper.specs.Programs.{answer_text}

pub record Put (before after : List ℕ) (at : ℕ) (bs : List ℕ) (end : ℕ) : Type 0 where
  pub place : end ≡ at + length bs
  pub done : take end after ≡ take at before ++ bs
  pub rest : drop end after ≡ drop end before

abbrev pub answer : (number place states size : ℕ) → List ℕ → Compiled
answer number place states size table =
    record { number = number; place = place; states = states; size = size; output = table; work = [] }

unfoldable pub fits : (size held room : ℕ) → Bool
fits size held room = leb size held && leb (60 + 2 * size) room

unfoldable pub shown : Compiled → ℕ → List ℕ
shown c room = cond (fits c.size (length c.output) room) (answer_text c) []

-- `put` determines the line and the count; the others follow from it and serve whoever writes the first r bytes out
pub record Printed (c : Compiled) (before after : List ℕ) (r : ℕ) : Type 0 where
  pub put : Put before after 0 (shown c (length before)) r
  pub within : r ≤ length after
  pub counted : r ≡ length (take r after)
