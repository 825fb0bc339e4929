-- What stands between the parts of the reading.
--     Taken bs ls           ls are the lines of the file bs: No. 2 to 7 refuse nothing
--     text_of bs ls          the program's text
--     Listing bs ls r       r has the event lists of the lines ls, and each byte of them is an event letter
--     HasTree bs ls c l p n the text is a program, and the lists have its n nodes in postorder, as many as there is room for
--     limited e bs ls q a   No. 9 to 14, and for Basic 15 and 16, of the program q; else a
--     Passes e bs ls        they refuse nothing
--     Fit bs ls c l n       a program that is accepted, and its nodes in the lists
-- Assumes nothing.
use Rattle.std.specs.Prelude.{ℕ, ◌≤◌, List, ◌≡◌, length, replicate}
use Rattle.std.proofs.lemmas.List.Edits.{sets}
use Rattle.std.proofs.Math.Seq.{slice}
use Rattle.paper.specs.Grammar.{Sequence}
use Rattle.paper.specs.Parse.{program, parse}
use Rattle.paper.specs.File.{Answer, accepted}
use Rattle.paper.specs.Reaction.{Program}
use Rattle.paper.specs.Refusals.{Edition, within_limits, with_letters, for_edition}
use Rattle.laws.specs.Placed.{placed_s, size, codes, lefts, places}
use Rattle.text.specs.declared.Lines.{Lines}
use Rattle.text.specs.declared.Reading.TheVariants.{Read}
use Rattle.text.specs.Spans.{part, read_of, Answers}
use Rattle.limits.specs.declared.Lists.{Lists}
use Rattle.letters.specs.Letters.{Events}
use Rattle.limits.specs.Checks.{ListsAre}

abbrev pub Taken : List ℕ → Lines → Type 0
Taken bs ls = Answers bs (Read ls)

abbrev pub text_of : List ℕ → Lines → List ℕ
text_of bs ls = part bs ls.program.at ls.program.end

pub record Listing (bs : List ℕ) (ls : Lines) (r : Lists) : Type 0 where
  pub lists : ListsAre (read_of bs ls) bs r
  pub first : (r.to ≤ length bs) × Events (slice r.from r.to bs)
  pub second : (r.to2 ≤ length bs) × Events (slice r.from2 r.to2 bs)

pub record HasTree (bs : List ℕ) (ls : Lines) (c l p : List ℕ) (n : ℕ) : Type 0 where
  pub tree : Sequence
  pub parsed : parse (text_of bs ls) ≡ program tree
  pub free : n ≡ size (placed_s ls.program.at tree)
  pub code : c ≡ sets (replicate 192 0) 0 (codes (placed_s ls.program.at tree))
  pub left : l ≡ sets (replicate 192 0) 0 (lefts 0 (placed_s ls.program.at tree))
  pub place : p ≡ sets (replicate 192 0) 0 (places (placed_s ls.program.at tree))

abbrev pub limited : Edition → List ℕ → Lines → Sequence → Answer Program → Answer Program
limited e bs ls q a =
    within_limits ls.program.at (text_of bs ls) q
    (with_letters (read_of bs ls) ls.program.at (text_of bs ls) q (for_edition e (read_of bs ls) ls.program.at q a))

abbrev pub Passes : Edition → List ℕ → Lines → Type 0
Passes e bs ls =
    (q : Sequence) (p : Program) → parse (text_of bs ls) ≡ program q → limited e bs ls q (accepted p) ≡ accepted p

-- the text is a program that nothing refuses, and the lists have its n nodes
pub record Fit (bs : List ℕ) (ls : Lines) (c l : List ℕ) (n : ℕ) : Type 0 where
  pub taken : Taken bs ls
  pub places : List ℕ
  pub has_tree : HasTree bs ls c l places n
  pub edition : Edition
  pub passes : Passes edition bs ls
