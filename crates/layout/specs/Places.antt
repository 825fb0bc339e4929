-- Places in a table as numbers.
--     place m n s l         the bit where the entry of state s and letter l begins, in a table of m modules and n events
-- Assumes nothing.
use Rattle.std.specs.Prelude.{ℕ, ◌+◌, ◌*◌}

-- `entry_place` of `paper` over the counts
abbrev pub place : (m n s l : ℕ) → ℕ
place m n s l = 24 + 6 * (m + n) + (s * (m + n) + l) * (10 + 2 * m)
