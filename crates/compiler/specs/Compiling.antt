-- The compiler's answers, and what its parts are given.
--     outcome r output work     the code's answer r, with the bytes that it leaves, as the outcome of `paper`'s calls
--     Room output work      output and working slice are as long as No. 1 asks
-- Assumes nothing.
use Rattle.std.specs.Prelude.{ℕ, ◌≤◌, List, length}
use Rattle.paper.specs.Calls as calls
use Rattle.paper.specs.Calls.{output_bytes, work_bytes}
use Rattle.compiler.specs.declared.Compiled.{Compiled}

abbrev pub outcome : Compiled → List ℕ → List ℕ → calls.Compiled
outcome r output work =
    record { number = r.number; place = r.place; states = r.states; size = r.size; output = output; work = work }

-- No. 1 does not hold
pub record Room (output work : List ℕ) : Type 0 where
  pub long : output_bytes ≤ length output
  pub wide : work_bytes ≤ length work
