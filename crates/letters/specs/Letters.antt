-- Letters of a text, and the flags that the code keeps for them: one flag for each of 26 letters that begin at a base, 97 for modules, 65 for events.
--     is_letter base b       the byte b is one of them; `is_letter 97` is the paper's `is_module`, `is_letter 65` its `is_event`
--     flag_of fs base b      it is one whose flag is set in fs
--     marked fs base b      fs with the flag of b set, where b is one
--     Tells fs ls           fs says which of the letters 0 to 25 stand in ls
--     TellsFrom base fs v   fs says which letters the text v uses
--     Events v              each byte of v is an event letter: what No. 6 leaves of a list
--     names_of ls            at most eight letters in their array, with their count; zeros beyond
-- Assumes nothing.
use Rattle.std.specs.Prelude.{ℕ, ◌+◌, ◌-◌, ◌<◌, ◌≡◌, Bool, true, false, cond, ◌&&◌, List, ◌++◌, leb, length, get_or, set, replicate}
use Rattle.paper.specs.Lists.{has}
use Rattle.paper.specs.Bytes.{is_event}
use Rattle.letters.specs.declared.Names.{Names}

abbrev pub is_letter : ℕ → ℕ → Bool
is_letter base b = leb base b && leb b (base + 25)

abbrev pub flag_of : List Bool → ℕ → ℕ → Bool
flag_of fs base b = is_letter base b && get_or fs (b - base) false

abbrev pub marked : List Bool → ℕ → ℕ → List Bool
marked fs base b = cond (is_letter base b) (set fs (b - base) true) fs

abbrev pub Tells : List Bool → List ℕ → Type 0
Tells fs ls = (l : ℕ) → l < 26 → get_or fs l false ≡ has l ls

abbrev pub TellsFrom : ℕ → List Bool → List ℕ → Type 0
TellsFrom base fs v = (l : ℕ) → l < 26 → get_or fs l false ≡ has (base + l) v

abbrev pub Events : List ℕ → Type 0
Events v = (k : ℕ) → k < length v → is_event (get_or v k 0) ≡ true

abbrev pub names_of : List ℕ → Names
names_of ls = record { letters = ls ++ replicate (8 - length ls) 0; count = length ls }
