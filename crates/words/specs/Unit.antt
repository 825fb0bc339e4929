-- A unit as the code holds it: what it says (`unit_mark`), and the number that it is written as (`number_of`).
-- Assumes nothing.
use Rattle.std.specs.Prelude.{ℕ, ◌+◌, ◌<◌, List}
use Rattle.laws.specs.Nodes.{count}
use Rattle.words.specs.declared.Unit.{Unit as Given}
use Rattle.words.specs.declared.Unit.TheVariants.{Sequence, Star, Act, Wait, One, Par, Module}
use Rattle.words.specs.Word.{Mark, u_seq, u_star, u_act, u_wait, u_one, u_par, u_mod}

abbrev pub unit_mark : Given → Mark
unit_mark (Sequence j) = u_seq j
unit_mark (Star j) = u_star j
unit_mark (Act i) = u_act i
unit_mark (Wait i) = u_wait i
unit_mark One = u_one
unit_mark Par = u_par
unit_mark (Module m) = u_mod m

abbrev pub number_of : Given → ℕ
number_of (Sequence j) = j
number_of (Star j) = 192 + j
number_of (Act i) = 384 + i
number_of (Wait i) = 576 + i
number_of One = 768
number_of Par = 769
number_of (Module m) = 770 + m

-- its node has room in a table
abbrev pub HasNode : Given → Type 0
HasNode (Sequence j) = j < 192
HasNode (Star j) = j < 192
HasNode (Act i) = i < 192
HasNode (Wait i) = i < 192
HasNode One = Unit {0}
HasNode Par = Unit {0}
HasNode (Module m) = Unit {0}

-- its interruption is one of the table P
abbrev pub HasEvent : List ℕ → Given → Type 0
HasEvent P (Sequence j) = Unit {0}
HasEvent P (Star j) = Unit {0}
HasEvent P (Act i) = i < count P
HasEvent P (Wait i) = i < count P
HasEvent P One = Unit {0}
HasEvent P Par = Unit {0}
HasEvent P (Module m) = Unit {0}
