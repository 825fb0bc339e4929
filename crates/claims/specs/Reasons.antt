-- Why Basic's compile does not accept a file. Document 01, "Numbers a caller may get back", No. 1 to 18.
--     Starts before         a line starts behind these bytes
--     LineAt file p text    the text, its end behind it, is a line of the file that starts at p
--     FugitiveLine file p   a `fugitive` line starts at p
--     Joint v k             at the place k of the text v stands a `||` between two interruptions
--     JoinedAt file p       the first `||` of the file's program that joins interruptions stands at p
--     Reason file output work number place      one that Adaptive's reading gives at the same place; or 15 or 16, and the file contains that
--                           construct there; or 17 or 18; or 1
-- Not here: that every refusal has such a reason (the proofs' `Demand3`). Assumes nothing.
use Rattle.std.specs.Prelude.{ℕ, ◌+◌, ◌<◌, false, List, [], ◌∷◌, ◌++◌, ◌≡◌, length}
use Rattle.std.proofs.Math.Option.{some}
use Rattle.paper.specs.Lists.{bytes, has}
use Rattle.paper.specs.Bytes.{line_end, bar_mark}
use Rattle.paper.specs.Grammar.{Sequence, Interruption, print_n, printed}
use Rattle.paper.specs.Parse.{parse}
use Rattle.paper.specs.File.{refused, accepted}
use Rattle.paper.specs.Limits.{braces_joined}
use Rattle.paper.specs.Reaction.{Program, State}
use Rattle.paper.specs.Discovery.{Reach}
use Rattle.paper.specs.Refusals.{basic, adaptive, most_parts, parts_of, reading}
use Rattle.paper.specs.Calls.{output_bytes, work_bytes}
use Rattle.laws.proofs.Exact.{Many}

-- at the front of the file, or behind a line's end
pub data Starts : List ℕ → Type 0 where
  first : Starts []
  behind : (front : List ℕ) → Starts (front ++ (line_end ∷ []))

-- "Lines end in byte 10, the last one too."
pub record LineAt (file : List ℕ) (p : ℕ) (text : List ℕ) : Type 0 where
  pub before : List ℕ
  pub after : List ℕ
  pub is : file ≡ before ++ (text ++ (line_end ∷ after))
  pub place : length before ≡ p
  pub starts : Starts before
  pub one_line : has line_end text ≡ false

-- "a `fugitive` line", "line's start"
pub record FugitiveLine (file : List ℕ) (p : ℕ) : Type 0 where
  pub value : List ℕ
  pub line : LineAt file p (bytes "fugitive " ++ value)

-- "interruptions joined by `||`"
pub record Joint (v : List ℕ) (k : ℕ) : Type 0 where
  pub before : List ℕ
  pub left : Interruption
  pub right : Interruption
  pub after : List ℕ
  pub is : v ≡ before ++ (print_n left ++ (bar_mark ∷ bar_mark ∷ (print_n right ++ after)))
  pub place : k ≡ length before + length (print_n left)

-- "first such `||`": in the value of the `program` line, which begins eight bytes behind the line's start
pub record JoinedAt (file : List ℕ) (p : ℕ) : Type 0 where
  pub begins : ℕ
  pub tree : Sequence
  pub line : LineAt file begins (bytes "program " ++ printed tree)
  pub inside : ℕ
  pub joint : Joint (printed tree) inside
  pub place : p ≡ begins + 8 + inside
  pub first : braces_joined (begins + 8) tree ≡ some p

pub data Reason (file output work : List ℕ) : (number place : ℕ) → Type 0 where
  -- "output under 26,640 or working slice under 65,536 bytes"
  short_output : length output < output_bytes → Reason file output work 1 0
  short_work : length work < work_bytes → Reason file output work 1 0
  -- one that Adaptive's reading gives, at the same place
  as_adaptive : {number place : ℕ} → reading parse adaptive file ≡ refused number place → Reason file output work number place
  -- "Basic: a `fugitive` line", "Basic: interruptions joined by `||`": Adaptive accepts the file, and there it stands
  has_fugitive : {place : ℕ} (q : Program) → reading parse adaptive file ≡ accepted q → FugitiveLine file place → Reason file output work 15 place
  has_joined : {place : ℕ} (q : Program) → reading parse adaptive file ≡ accepted q → JoinedAt file place → Reason file output work 16 place
  -- "more than 512 reachable states"; where not, "a reachable term of more than 8,192 parts"
  too_many : (q : Program) → reading parse basic file ≡ accepted q → Many q → Reason file output work 17 0
  too_large : (q : Program) → reading parse basic file ≡ accepted q → (Many q → ⊥) → (s : State) → Reach q s → most_parts < parts_of s.left → Reason file output work 18 0
