-- Each reason has a number of its own, and none is 0. Assumes nothing.
use Rattle.std.proofs.Common.{ℕ, ◌≤◌, ◌≡◌, refl, sym, ap, ◌∙◌, List, [], ◌∷◌, get_or, arith}
use Rattle.refusals.specs.declared.Reason.{Reason}
use Rattle.refusals.specs.declared.Reason.TheVariants.{
  Lengths,
  FileTooLong,
  BrokenLine,
  UnknownKey,
  KeyTwice,
  WrongLetter,
  NoProgram,
  NotWritten,
  TooLarge,
  Unlisted,
  Unused,
  NinthLetter,
  SharedModule,
  SharedEvent,
  FugitiveLine,
  JoinedCalls,
  TooManyStates,
  TooManyParts,
  NoTable,
  NoState,
  ForeignLetter,
  NotRunning,
  NoLiveState,
}
use Rattle.refusals.specs.declared.Refusal.{Refusal}
use Rattle.refusals.specs.Refusals.{number_of}

pub number_of_some : (r : Reason) → 1 ≤ number_of r
number_of_some Lengths = omega arith
number_of_some FileTooLong = omega arith
number_of_some BrokenLine = omega arith
number_of_some UnknownKey = omega arith
number_of_some KeyTwice = omega arith
number_of_some WrongLetter = omega arith
number_of_some NoProgram = omega arith
number_of_some NotWritten = omega arith
number_of_some TooLarge = omega arith
number_of_some Unlisted = omega arith
number_of_some Unused = omega arith
number_of_some NinthLetter = omega arith
number_of_some SharedModule = omega arith
number_of_some SharedEvent = omega arith
number_of_some FugitiveLine = omega arith
number_of_some JoinedCalls = omega arith
number_of_some TooManyStates = omega arith
number_of_some TooManyParts = omega arith
number_of_some NoTable = omega arith
number_of_some NoState = omega arith
number_of_some ForeignLetter = omega arith
number_of_some NotRunning = omega arith
number_of_some NoLiveState = omega arith

-- from the number back to its reason
pub number_of_one : (r s : Reason) → number_of r ≡ number_of s → r ≡ s
number_of_one r s e = sym (back r) ∙ ap of_number e ∙ back s
  where
    all : List Reason
    all = Lengths ∷ Lengths ∷ FileTooLong ∷ BrokenLine ∷ UnknownKey ∷ KeyTwice ∷ WrongLetter ∷ NoProgram ∷ NotWritten ∷ TooLarge ∷ Unlisted ∷ Unused ∷ NinthLetter ∷ SharedModule ∷ SharedEvent ∷ FugitiveLine ∷ JoinedCalls ∷ TooManyStates ∷ TooManyParts ∷ NoTable ∷ NoState ∷ ForeignLetter ∷ NotRunning ∷ NoLiveState ∷ []

    of_number : ℕ → Reason
    of_number n = get_or all n Lengths

    back : (r : Reason) → of_number (number_of r) ≡ r
    back Lengths = refl
    back FileTooLong = refl
    back BrokenLine = refl
    back UnknownKey = refl
    back KeyTwice = refl
    back WrongLetter = refl
    back NoProgram = refl
    back NotWritten = refl
    back TooLarge = refl
    back Unlisted = refl
    back Unused = refl
    back NinthLetter = refl
    back SharedModule = refl
    back SharedEvent = refl
    back FugitiveLine = refl
    back JoinedCalls = refl
    back TooManyStates = refl
    back TooManyParts = refl
    back NoTable = refl
    back NoState = refl
    back ForeignLetter = refl
    back NotRunning = refl
    back NoLiveState = refl

-- a refusal is its number and its place
pub refusal_one : (r s : Refusal) → number_of r.reason ≡ number_of s.reason → r.place ≡ s.place → r ≡ s
refusal_one r s e f = λ i. record { reason = number_of_one r.reason s.reason e i; place = f i }
