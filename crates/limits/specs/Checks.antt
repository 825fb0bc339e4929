-- The checks one after the other.
--     checked r a           what is refused by r, or else a
--     text_checks r at v a   No. 10 to 12, or else a
--     ListsAre r file ls    ls has the event lists of the file's lines r: the parts where they stand, the earlier first, and flags for their letters
-- Assumes nothing.
use Rattle.std.specs.Prelude.{ℕ, ◌≡◌, List, ◌++◌}
use Rattle.std.proofs.Math.Seq.{slice}
use Rattle.paper.specs.Grammar.{event_byte}
use Rattle.paper.specs.File.{Answer, refused, unless, Read, listed_from, letters_of}
use Rattle.paper.specs.Bytes.{is_module, is_event}
use Rattle.paper.specs.Limits.{unlisted, unused, ninth}
use Rattle.paper.specs.Reaction.{Program}
use Rattle.paper.specs.Refusals.{ascending, fugitive_text}
use Rattle.limits.specs.declared.Checked.{Checked}
use Rattle.limits.specs.declared.Checked.TheVariants.{Refused, Fine}
use Rattle.limits.specs.declared.Lists.{Lists}
use Rattle.letters.specs.Letters.{Tells}

abbrev pub checked : Checked → Answer Program → Answer Program
checked (Refused number place) a = refused number place
checked Fine a = a

-- the part of `with_letters` that looks at the text alone
abbrev pub text_checks : Read → ℕ → List ℕ → Answer Program → Answer Program
text_checks r at v a =
    unless (unlisted (letters_of r.listed) at v) 10
    (unless (unused v r.listed) 11 (unless (ninth is_module at v) 12 (unless (ninth is_event at v) 12 a)))

pub record ListsAre (r : Read) (file : List ℕ) (lists : Lists) : Type 0 where
  pub are-listed :
      r.listed ≡ listed_from lists.from (slice lists.from lists.to file) ++ listed_from lists.from2 (slice lists.from2 lists.to2 file)
  pub tells_listed : Tells lists.listed (letters_of r.listed)
  pub tells_fugitive : Tells lists.fugitive (ascending event_byte (fugitive_text r.fugitive))
