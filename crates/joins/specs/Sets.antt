-- The names on both sides of a `||`, for all letters in one pass over the nodes: a set of letters is a number, and bit k of it says that the letter
-- base + k is in.
--     own_set base on c       the set of the letter c alone; none where it is not one of the 26 from base on, or `on` says that it does not count
--     node_set base on c y z  the set of a node, from its code and the sets of its parts: a join has the letters of both, a star those of its part
--     sharing_any base on     worth: the set; passes: a `||` with a letter in both sets
-- Assumes nothing.
use Rattle.std.specs.Prelude.{ℕ, ◌-◌, ◌^◌, Bool, cond, not, ◌&&◌, eqb}
use Rattle.std.specs.Int.Bits.{bit_and, bit_or}
use Rattle.letters.specs.Letters.{is_letter}
use Rattle.stars.specs.Nodes.{is_star, is_join, is_bars, Rule}

abbrev pub own_set : ℕ → (ℕ → Bool) → ℕ → ℕ
own_set base on c = cond (is_letter base c && on (c - base)) (2 ^ (c - base)) 0

abbrev pub node_set : ℕ → (ℕ → Bool) → ℕ → ℕ → ℕ → ℕ
node_set base on c y z = cond (is_join c) (bit_or y z) (cond (is_star c) z (own_set base on c))

-- "The two sides of a `||` may not share a module, nor a standard event"
abbrev pub sharing_any : ℕ → (ℕ → Bool) → Rule ℕ
sharing_any base on = record { none_yet = 0; worth = node_set base on; passes = λ c y z. is_bars c && not (eqb (bit_and y z) 0) }
