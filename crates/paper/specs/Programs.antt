-- What the two programs print. Document 01, "Numbers a caller may get back":
--     "Two programs, one for each edition, read a file from standard input and print `ok STATES BYTES` and a line of lower-case hex, or `refused NUMBER
--     at PLACE`."
--     decimal n             the digits of a number
--     hex bs                two lower-case digits for each byte
--     answer_text c          the text for what a compile answered; each line ends in byte 10
-- Assumes nothing.
use Rattle.std.specs.Prelude.{ℕ, zero, suc, ◌+◌, ◌/◌, ◌%◌, cond, List, [], ◌∷◌, ◌++◌, eqb, ltb, take}
use Rattle.paper.specs.Lists.{bytes, choose, gather}
use Rattle.paper.specs.Bytes.{line_end}
use Rattle.paper.specs.Calls.{Compiled}

-- at most `few` digits; a number has fewer than it counts
unfoldable pub digits : (few n : ℕ) → List ℕ
digits zero n = []
digits (suc few) n = choose (ltb n 10) (λ u. (48 + n) ∷ []) (λ u. digits few (n / 10) ++ ((48 + n % 10) ∷ []))

unfoldable pub decimal : ℕ → List ℕ
decimal n = digits (suc n) n

-- 0 to 9, a to f
abbrev pub hex_digit : ℕ → ℕ
hex_digit n = cond (ltb n 10) (48 + n) (87 + n)

unfoldable pub hex : List ℕ → List ℕ
hex bs = gather (λ b. hex_digit (b / 16) ∷ hex_digit (b % 16) ∷ []) bs

unfoldable pub ok_text : Compiled → List ℕ
ok_text c =
    bytes "ok " ++ decimal c.states ++ bytes " " ++ decimal c.size ++ (line_end ∷ []) ++ hex (take c.size c.output) ++ (line_end ∷ [])

unfoldable pub refused_text : Compiled → List ℕ
refused_text c = bytes "refused " ++ decimal c.number ++ bytes " at " ++ decimal c.place ++ (line_end ∷ [])

unfoldable pub answer_text : Compiled → List ℕ
answer_text c = cond (eqb c.number 0) (ok_text c) (refused_text c)
