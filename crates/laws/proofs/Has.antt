-- What `contains` answers on a slice of numbers, that one of them equals n, is `has` of the rules.
use Rattle.std.proofs.Common.{ℕ, ◌≡◌, ◌==◌, List, [], ◌∷◌, eqb, refl, arith}
use Rattle.std.proofs.lemmas.Bool.Decides.{nat_tests}
use Rattle.std.specs.List.{list_any}
use Rattle.paper.specs.Lists.{has}

eqb-swap : (m n : ℕ) → (m == n) ≡ eqb n m
eqb-swap m n = grind (arith, nat_tests)

pub list_any-has : (n : ℕ) (xs : List ℕ) → list_any (λ y. y == n) xs ≡ has n xs
unfolding has
list_any-has n [] = refl
list_any-has n (x ∷ xs) = let e = eqb-swap x n in let h = list_any-has n xs in cc
