-- What the writing of a table asks of its caller, and what each part of it writes. "26,640" bytes are 213,120 bits.
--     Emits ms es states n o        what `emit` asks: names, states, n entries, o bytes to write to
--     Room w n              the writer w has as many bytes as any table, and n bits more lie within it
--     head_of m n states     the bits of layout, counts of modules and events, states less one
--     kind_bits fs e         the bit of the event e, 1 for fugitive
--     entry_word m n         the bits of an entry's number n: possible, next state, the orders of m modules
--     filled at             how many bytes hold the bits below `at`
-- Assumes nothing.
use Rattle.std.specs.Prelude.{ℕ, ◌+◌, ◌-◌, ◌*◌, ◌/◌, ◌^◌, ◌≤◌, ◌<◌, Bool, false, List, ◌++◌, length, get_or}
use Rattle.paper.specs.Table.{flag, bits}
use Rattle.fields.specs.declared.FieldWriter.{FieldWriter}

pub record Emits (ms es : List ℕ) (states n o : ℕ) : Type 0 where
  pub few_modules : length ms ≤ 8
  pub few_events : length es ≤ 8
  pub letter : (i : ℕ) → i < length es → get_or es i 0 < 26
  pub some_states : 1 ≤ states
  pub few_states : states ≤ 512
  pub all : states * (length ms + length es) ≤ n
  pub long : 26640 ≤ o

pub record Room (w : FieldWriter) (n : ℕ) : Type 0 where
  pub long : 26640 ≤ length w.out.now
  pub within : w.bit + n ≤ 213120

abbrev pub kind_bits : List Bool → ℕ → List ℕ
kind_bits fs e = bits 1 (flag (get_or fs e false))

abbrev pub head_of : (m n states : ℕ) → List ℕ
head_of m n states = bits 4 1 ++ bits 4 m ++ bits 4 n ++ bits 12 (states - 1)

-- eight orders are kept, the first m of them count
abbrev pub entry_word : ℕ → ℕ → List ℕ
entry_word m n = bits (10 + 2 * m) (n / 2 ^ (16 - 2 * m))

abbrev pub filled : ℕ → ℕ
filled at = (at + 7) / 8
