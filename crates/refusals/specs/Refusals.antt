-- Refusals and editions as the code has them, and what they stand for. Document 01, "Numbers a caller may get back":
--     "A refusal gives number and place"
--     number_of r            the number of the reason r
--     refused_by r           the refusal r, as an answer of `paper`
--     answered f r           what the code answers, as an answer of `paper`: f of what it read, or its refusal
--     edition_of e           the edition
--     found o                the place that a check found, or none
-- Assumes nothing.
use Rattle.std.specs.Prelude.{ℕ, Option, Some, None, Result, Ok, Err}
use Rattle.std.proofs.Math.Option as math
use Rattle.std.proofs.Math.Option.{none, some}
use Rattle.paper.specs.File.{Answer, refused, accepted}
use Rattle.paper.specs.Refusals.{basic, adaptive}
use Rattle.paper.specs.Refusals as paper
use Rattle.refusals.specs.declared.Edition.{Edition}
use Rattle.refusals.specs.declared.Edition.TheVariants.{Basic, Adaptive}
use Rattle.refusals.specs.declared.Reason.{Reason}
use Rattle.refusals.specs.declared.Reason.TheVariants.{
  Lengths,
  FileTooLong,
  BrokenLine,
  UnknownKey,
  KeyTwice,
  WrongLetter,
  NoProgram,
  NotWritten,
  TooLarge,
  Unlisted,
  Unused,
  NinthLetter,
  SharedModule,
  SharedEvent,
  FugitiveLine,
  JoinedCalls,
  TooManyStates,
  TooManyParts,
  NoTable,
  NoState,
  ForeignLetter,
  NotRunning,
  NoLiveState,
}
use Rattle.refusals.specs.declared.Refusal.{Refusal}

abbrev pub number_of : Reason → ℕ
number_of Lengths = 1
number_of FileTooLong = 2
number_of BrokenLine = 3
number_of UnknownKey = 4
number_of KeyTwice = 5
number_of WrongLetter = 6
number_of NoProgram = 7
number_of NotWritten = 8
number_of TooLarge = 9
number_of Unlisted = 10
number_of Unused = 11
number_of NinthLetter = 12
number_of SharedModule = 13
number_of SharedEvent = 14
number_of FugitiveLine = 15
number_of JoinedCalls = 16
number_of TooManyStates = 17
number_of TooManyParts = 18
number_of NoTable = 19
number_of NoState = 20
number_of ForeignLetter = 21
number_of NotRunning = 22
number_of NoLiveState = 23

abbrev pub refused_by : {A : Type 0} → Refusal → Answer A
refused_by r = refused (number_of r.reason) r.place

abbrev pub answered : {T A : Type 0} → (T → A) → Result T Refusal → Answer A
answered f (Ok x) = accepted (f x)
answered f (Err r) = refused_by r

abbrev pub edition_of : Edition → paper.Edition
edition_of Basic = basic
edition_of Adaptive = adaptive

abbrev pub found : Option ℕ → math.Option ℕ
found (Some p) = some p
found None = none
