-- The passes over the nodes of a program, in the order in which the reader wrote them: parts before the node that joins them.
--     far                   above every place: what a pass answers where no node passes
--     there m               the place m, or none where m is far
--     is_star, is_join, is_bars        the kind of a node, by its code: a star; a join; a `||` of sequences or of interruptions
--     Rule A                what a node is worth, from its code and the worths of its left part and of the part before it, and whether it passes
--     scan r cs ls ps ws m  the least of m and the places of the nodes that pass, where ws are the worths of the nodes before them
--     nesting               worth: how many stars nest; passes: a star over a part with three nested
--     sharing x               worth: the letter x is used; passes: a `||` with x on both sides
--     joining               passes: a `||` of interruptions
--     Written at q ..       the arrays hold the nodes of the program q, whose text begins at `at`, in their first n places
-- Assumes nothing.
use Rattle.std.specs.Prelude.{ℕ, ◌+◌, ◌-◌, ◌≤◌, min, max, ◌≡◌, Bool, false, cond, ◌&&◌, ◌||◌, List, [], ◌∷◌, ◌++◌, eqb, leb, ltb, length, take, get_or}
use Rattle.std.proofs.Math.Option.{Option, none, some}
use Rattle.paper.specs.Bytes.{star_mark, slash_mark, colon_mark, bar_mark}
use Rattle.paper.specs.Grammar.{Sequence, printed}
use Rattle.paper.specs.Refusals.{most_bytes}
use Rattle.laws.specs.Placed.{seq_code, either_code, both_code, placed_s, codes, lefts, places}

abbrev pub far : ℕ
far = 65536

abbrev pub there : ℕ → Option ℕ
there m = cond (ltb m far) (some m) none

abbrev pub is_star : ℕ → Bool
is_star c = eqb c star_mark

abbrev pub is_bars : ℕ → Bool
is_bars c = eqb c bar_mark || eqb c both_code

abbrev pub is_join : ℕ → Bool
is_join c = is_bars c || eqb c seq_code || eqb c slash_mark || eqb c colon_mark || eqb c either_code

pub record Rule (A : Type 0) : Type 0 where
  pub none_yet : A
  pub worth : ℕ → A → A → A
  pub passes : ℕ → A → A → Bool

unfoldable pub scan : {A : Type 0} → Rule A → List ℕ → List ℕ → List ℕ → List A → ℕ → ℕ
scan r [] ls ps ws m = m
scan r (c ∷ cs) [] ps ws m = m
scan r (c ∷ cs) (l ∷ ls) [] ws m = m
scan r (c ∷ cs) (l ∷ ls) (p ∷ ps) ws m =
    scan r cs ls ps
    (ws ++ (r.worth c (get_or ws l r.none_yet) (get_or ws (length ws - 1) r.none_yet) ∷ []))
    (min m (cond (r.passes c (get_or ws l r.none_yet) (get_or ws (length ws - 1) r.none_yet)) p far))

-- "stars 3 deep (treatments inside a starred part count)"
abbrev pub nest : ℕ → ℕ → ℕ → ℕ
nest c y z = cond (is_star c) (z + 1) (cond (is_join c) (max y z) 0)

abbrev pub nesting : Rule ℕ
nesting = record { none_yet = 0; worth = nest; passes = λ c y z. is_star c && leb 3 z }

-- "The two sides of a `||` may not share a module, nor a standard event"
abbrev pub uses : ℕ → ℕ → Bool → Bool → Bool
uses x c y z = is_star c && z || is_join c && (y || z) || eqb x c

abbrev pub sharing : ℕ → Rule Bool
sharing x = record { none_yet = false; worth = uses x; passes = λ c y z. is_bars c && y && z }

-- "interruptions joined by `||`"
abbrev pub joining : Rule Bool
joining = record { none_yet = false; worth = λ c y z. false; passes = λ c y z. eqb c both_code }

pub record Written (at : ℕ) (q : Sequence) (code left place : List ℕ) (n : ℕ) : Type 0 where
  pub are_codes : take n code ≡ codes (placed_s at q)
  pub are_lefts : take n left ≡ lefts 0 (placed_s at q)
  pub are_places : take n place ≡ places (placed_s at q)
  pub within : at + length (printed q) ≤ most_bytes
