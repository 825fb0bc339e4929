-- The layout of the 128 bytes. Document 01: "The live state is 128 bytes with a one-to-one coding that the team writes down, unused bytes zero".
--     0 to 95       the low eight bits of the word's units, a unit a byte, zeros behind the word
--     96 to 119     their two high bits, four units a byte, the first of them in the byte's high bits
--     120           how many units the word has; none at the end
--     121           the stopped set: the bit of value 2 ^ i is the i-th of the program's modules
--     122 to 125    the memory, oldest first: two events a byte, the first in the high half, each as its place in the program's events plus one, zeros behind
--     126, 127      zero
--     bytes_of w k m         the bytes of the word w, the stopped set's number k and the memory's marks m
--     unit_in b i, word_in b  the i-th unit that the bytes b say, and their word; `marks_in b` the memory's eight marks
--     set_number ms xs       the number of the set xs of the list ms; `set_of ms n` the set of the number
--     marks_of es xs         the marks of the events xs, where es are the program's; `events_of es ns` the events of marks, up to the first zero
-- Assumes nothing.
use Rattle.std.specs.Prelude.{ℕ, zero, suc, ◌+◌, ◌-◌, ◌*◌, ◌/◌, ◌%◌, ◌^◌, cond, List, [], ◌∷◌, map, eqb, ltb, length, get_or}
use Rattle.paper.specs.Lists.{with_if, has, below}
use Rattle.paper.specs.Table.{flag}

-- ---- the bytes

abbrev pub low : List ℕ → ℕ → ℕ
low w i = get_or w i 0 % 256

abbrev pub high_of : List ℕ → ℕ → ℕ
high_of w i = get_or w i 0 / 256

abbrev pub high : List ℕ → ℕ → ℕ
high w j = high_of w (4 * j) * 64 + high_of w (4 * j + 1) * 16 + high_of w (4 * j + 2) * 4 + high_of w (4 * j + 3)

abbrev pub pair : List ℕ → ℕ → ℕ
pair m j = get_or m (2 * j) 0 * 16 + get_or m (2 * j + 1) 0

unfoldable pub byte_of : List ℕ → ℕ → List ℕ → ℕ → ℕ
byte_of w k m i =
    cond (ltb i 96) (low w i)
    (cond (ltb i 120) (high w (i - 96))
    (cond (eqb i 120) (length w) (cond (eqb i 121) k (cond (ltb i 126) (pair m (i - 122)) 0))))

unfoldable pub bytes_of : List ℕ → ℕ → List ℕ → List ℕ
bytes_of w k m = map (byte_of w k m) (below 128)

-- ---- what bytes say

abbrev pub unit_in : List ℕ → ℕ → ℕ
unit_in b i = get_or b i 0 + get_or b (96 + i / 4) 0 / 4 ^ (3 - i % 4) % 4 * 256

unfoldable pub word_in : List ℕ → List ℕ
word_in b = map (unit_in b) (below (get_or b 120 0))

abbrev pub mark_in : List ℕ → ℕ → ℕ
mark_in b i = get_or b (122 + i / 2) 0 / 16 ^ (1 - i % 2) % 16

unfoldable pub marks_in : List ℕ → List ℕ
marks_in b = map (mark_in b) (below 8)

-- ---- the stopped set as a number

unfoldable pub set_number : List ℕ → List ℕ → ℕ
set_number [] xs = 0
set_number (m ∷ ms) xs = flag (has m xs) + 2 * set_number ms xs

unfoldable pub set_of : List ℕ → ℕ → List ℕ
set_of [] n = []
set_of (m ∷ ms) n = with_if (eqb (n % 2) 1) m (set_of ms (n / 2))

-- ---- the memory as marks

-- where e stands in the list; its length where it does not
unfoldable pub place_in : List ℕ → ℕ → ℕ
place_in [] e = 0
place_in (x ∷ xs) e = cond (eqb e x) 0 (suc (place_in xs e))

unfoldable pub marks_of : List ℕ → List ℕ → List ℕ
marks_of es xs = map (λ e. suc (place_in es e)) xs

unfoldable pub events_of : List ℕ → List ℕ → List ℕ
events_of es [] = []
events_of es (zero ∷ ns) = []
events_of es (suc n ∷ ns) = get_or es n 0 ∷ events_of es ns
