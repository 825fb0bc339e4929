-- What the entries of a table say, of the check of No. 19.
--     next_of e w r          the next state of the entry e with orders of w bits; r says what an entry of zeros counts as
--     run_right, row_right    the entries one after the other; those of a state
-- Assumes nothing.
use Rattle.std.specs.Prelude.{ℕ, ◌+◌, ◌*◌, ◌/◌, ◌%◌, ◌^◌, Bool, ◌&&◌, List, ltb}
use Rattle.paper.specs.Lists.{every}
use Rattle.paper.specs.IsTable.{field}

-- "1 bit possible, 9 bits next state": where the first is 0, this is 512 at least, and no state; or 0, where entry and round are together below 2 ^ 26
abbrev pub next_of : (entry down round : ℕ) → ℕ
next_of entry down round = (entry / 2 ^ down + 512) % 1024 * ((entry + round) / 67108864)

unfoldable pub run_right : List ℕ → (from count down states round : ℕ) → Bool
run_right t from count down states round =
    every count (λ k. ltb (next_of (field t (from + k * (10 + down)) (10 + down)) down round) states)

unfoldable pub row_right : List ℕ → (from m n states : ℕ) → Bool
row_right t from m n states =
    run_right t from m (2 * m) states 67108863 && run_right t (from + m * (10 + 2 * m)) n (2 * m) states 67108864
