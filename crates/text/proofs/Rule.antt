-- The table of kinds is right at each of its 256 entries, by one computed test: an entry is the number of its byte's kind, and it is 1 at the
-- module letters and 2 at the event letters alone. The list is the constant's; `at` of `Table` turns the test into the rules.
-- Assumes nothing.
use Prim.Native.Nat.{ℕ, ◌<◌}
use mathlib.Core.Path.{◌≡◌, refl, sym, ap, ◌∙◌}
use mathlib.Core.Bool.{Bool, true, false, ◌&&◌}
use mathlib.Core.List.{List, [], ◌∷◌}
use lib.Dec.{T, eqb, eqb→eq}
use lib.ListN.{get_or}
use Rattle.paper.specs.Bytes.{is_module, is_event, kind_of}
use Rattle.text.specs.Kinds.{kind_number}
use Rattle.text.proofs.Table.{at}

unfoldable pub kinds : List ℕ
kinds =
    0 ∷ 0 ∷ 0 ∷ 0 ∷ 0 ∷ 0 ∷ 0 ∷ 0 ∷ 0 ∷ 0 ∷ 13 ∷ 0 ∷ 0 ∷ 0 ∷ 0 ∷ 0 ∷ 0 ∷ 0 ∷ 0 ∷ 0 ∷ 0 ∷ 0 ∷ 0 ∷ 0 ∷ 0 ∷ 0 ∷ 0 ∷ 0 ∷ 0 ∷ 0 ∷ 0 ∷ 0 ∷ 0 ∷ 0 ∷
    0 ∷ 0 ∷ 0 ∷ 0 ∷ 0 ∷ 0 ∷ 0 ∷ 0 ∷ 3 ∷ 0 ∷ 0 ∷ 0 ∷ 4 ∷ 5 ∷ 0 ∷ 6 ∷ 0 ∷ 0 ∷ 0 ∷ 0 ∷ 0 ∷ 0 ∷ 0 ∷ 0 ∷ 7 ∷ 0 ∷ 0 ∷ 0 ∷ 0 ∷ 0 ∷ 0 ∷ 2 ∷ 2 ∷ 2 ∷
    2 ∷ 2 ∷ 2 ∷ 2 ∷ 2 ∷ 2 ∷ 2 ∷ 2 ∷ 2 ∷ 2 ∷ 2 ∷ 2 ∷ 2 ∷ 2 ∷ 2 ∷ 2 ∷ 2 ∷ 2 ∷ 2 ∷ 2 ∷ 2 ∷ 2 ∷ 2 ∷ 8 ∷ 0 ∷ 9 ∷ 0 ∷ 0 ∷ 0 ∷ 1 ∷ 1 ∷ 1 ∷ 1 ∷ 1 ∷
    1 ∷ 1 ∷ 1 ∷ 1 ∷ 1 ∷ 1 ∷ 1 ∷ 1 ∷ 1 ∷ 1 ∷ 1 ∷ 1 ∷ 1 ∷ 1 ∷ 1 ∷ 1 ∷ 1 ∷ 1 ∷ 1 ∷ 1 ∷ 1 ∷ 10 ∷ 11 ∷ 12 ∷ 0 ∷ 0 ∷ 0 ∷ 0 ∷ 0 ∷ 0 ∷ 0 ∷ 0 ∷ 0 ∷
    0 ∷ 0 ∷ 0 ∷ 0 ∷ 0 ∷ 0 ∷ 0 ∷ 0 ∷ 0 ∷ 0 ∷ 0 ∷ 0 ∷ 0 ∷ 0 ∷ 0 ∷ 0 ∷ 0 ∷ 0 ∷ 0 ∷ 0 ∷ 0 ∷ 0 ∷ 0 ∷ 0 ∷ 0 ∷ 0 ∷ 0 ∷ 0 ∷ 0 ∷ 0 ∷ 0 ∷ 0 ∷ 0 ∷ 0 ∷
    0 ∷ 0 ∷ 0 ∷ 0 ∷ 0 ∷ 0 ∷ 0 ∷ 0 ∷ 0 ∷ 0 ∷ 0 ∷ 0 ∷ 0 ∷ 0 ∷ 0 ∷ 0 ∷ 0 ∷ 0 ∷ 0 ∷ 0 ∷ 0 ∷ 0 ∷ 0 ∷ 0 ∷ 0 ∷ 0 ∷ 0 ∷ 0 ∷ 0 ∷ 0 ∷ 0 ∷ 0 ∷ 0 ∷ 0 ∷
    0 ∷ 0 ∷ 0 ∷ 0 ∷ 0 ∷ 0 ∷ 0 ∷ 0 ∷ 0 ∷ 0 ∷ 0 ∷ 0 ∷ 0 ∷ 0 ∷ 0 ∷ 0 ∷ 0 ∷ 0 ∷ 0 ∷ 0 ∷ 0 ∷ 0 ∷ 0 ∷ 0 ∷ 0 ∷ 0 ∷ 0 ∷ 0 ∷ 0 ∷ 0 ∷ 0 ∷ 0 ∷ 0 ∷ 0 ∷
    0 ∷ 0 ∷ 0 ∷ 0 ∷ 0 ∷ 0 ∷ 0 ∷ 0 ∷ 0 ∷ 0 ∷ 0 ∷ 0 ∷ 0 ∷ 0 ∷ 0 ∷ 0 ∷ 0 ∷ 0 ∷ 0 ∷ []

-- both tests hold, or neither
abbrev alike : Bool → Bool → Bool
alike true b = b
alike false true = false
alike false false = true

abbrev right : ℕ → ℕ → Bool
right b n = eqb n (kind_number (kind_of b)) && (alike (eqb n 1) (is_module b) && alike (eqb n 2) (is_event b))

and_first : (a b : Bool) → T (a && b) → T a
and_first true b t = tt
and_first false b t = absurd t

and_second : (a b : Bool) → T (a && b) → T b
and_second true b t = t
and_second false b t = absurd t

alike_same : (a b : Bool) → T (alike a b) → a ≡ b
alike_same true true t = refl
alike_same true false t = absurd t
alike_same false true t = absurd t
alike_same false false t = refl

module _ (b : ℕ) (h : b < 256) where
  all_right : T (right b (get_or kinds b 0))
  unfolding kinds kind_of
  all_right = at (λ k n. right k n) kinds tt b h

  pub kinds-number : get_or kinds b 0 ≡ kind_number (kind_of b)
  kinds-number = eqb→eq (get_or kinds b 0) (kind_number (kind_of b)) (and_first (eqb (get_or kinds b 0) (kind_number (kind_of b))) _ all_right)

  letters-right : T (alike (eqb (get_or kinds b 0) 1) (is_module b) && alike (eqb (get_or kinds b 0) 2) (is_event b))
  letters-right = and_second (eqb (get_or kinds b 0) (kind_number (kind_of b))) _ all_right

  pub kind_number-module : eqb (kind_number (kind_of b)) 1 ≡ is_module b
  kind_number-module =
      ap (λ (n : ℕ). eqb n 1) (sym kinds-number)
      ∙ alike_same (eqb (get_or kinds b 0) 1) (is_module b) (and_first (alike (eqb (get_or kinds b 0) 1) (is_module b)) _ letters-right)

  pub kind_number-event : eqb (kind_number (kind_of b)) 2 ≡ is_event b
  kind_number-event =
      ap (λ (n : ℕ). eqb n 2) (sym kinds-number)
      ∙ alike_same (eqb (get_or kinds b 0) 2) (is_event b) (and_second (alike (eqb (get_or kinds b 0) 1) (is_module b)) _ letters-right)
