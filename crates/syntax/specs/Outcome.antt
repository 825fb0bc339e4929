-- What the reader of a program answers.
--     Outcome ..            the program's tree in the three lists, or No. 8's place
-- Assumes nothing.
use Rattle.std.specs.Prelude.{ℕ, ◌-◌, ◌≤◌, List, ◌≡◌, length, drop, replicate}
use Rattle.std.proofs.lemmas.List.Edits.{sets}
use Rattle.paper.specs.Grammar.{Sequence}
use Rattle.paper.specs.Parse.{program, stops, parse}
use Rattle.laws.specs.Placed.{placed_s, size, codes, lefts, places}
use Rattle.syntax.specs.declared.Got.{Got}
use Rattle.syntax.specs.declared.Got.TheVariants.{At, Bad}

-- the value is a program: `.` ends the text, and the lists have the tree's nodes from their start on, as many as there is room for
pub record IsRead (s : List ℕ) (at : ℕ) (c l p c' l' p' : List ℕ) (n f : ℕ) : Type 0 where
  pub tree : Sequence
  pub parsed : parse (drop at s) ≡ program tree
  pub end : n ≡ length s
  pub free : f ≡ size (placed_s at tree)
  pub code : c' ≡ sets c 0 (codes (placed_s at tree))
  pub left : l' ≡ sets l 0 (lefts 0 (placed_s at tree))
  pub place : p' ≡ sets p 0 (places (placed_s at tree))

-- No. 8: "first byte that no program continues with; the line end if the value stops short"
pub record StopsAt (s : List ℕ) (at p : ℕ) : Type 0 where
  pub from : at ≤ p
  pub stopped : parse (drop at s) ≡ stops (p - at)

-- "A refusal gives number and place, all else zero"
pub record IsStopped (s : List ℕ) (at : ℕ) (c' l' p' : List ℕ) (p : ℕ) : Type 0 where
  pub stop : StopsAt s at p
  pub code : c' ≡ replicate 192 0
  pub left : l' ≡ replicate 192 0
  pub place : p' ≡ replicate 192 0

-- the text s read from `at` on, with the lists before and after
abbrev pub Outcome : List ℕ → ℕ → List ℕ → List ℕ → List ℕ → List ℕ → List ℕ → List ℕ → Got → Type 0
Outcome s at c l p c' l' p' (At n f) = IsRead s at c l p c' l' p' n f
Outcome s at c l p c' l' p' (Bad q) = IsStopped s at c' l' p' q

-- the same before the lists are cleared
abbrev pub TextSays : List ℕ → ℕ → List ℕ → List ℕ → List ℕ → List ℕ → List ℕ → List ℕ → Got → Type 0
TextSays s at c l p c' l' p' (At n f) = IsRead s at c l p c' l' p' n f
TextSays s at c l p c' l' p' (Bad q) = StopsAt s at q
