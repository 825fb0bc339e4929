-- Lists, tests and texts: the common words of the other files. Nothing here is document 01's own.
--     bytes "text"          the bytes of a text
--     choose b x y          x where the test b holds, else y; each waits until it is asked for
--     chosen o x k          x where nothing is there, else k of what is
--     with_if b x xs        xs with x in front, where the test b holds
--     is_nil xs              xs is empty
--     has n xs              n stands in xs
--     without n xs          xs less its first n
--     keep p xs             what of xs passes p
--     eq_l xs ys             the two lists are the same
--     gather g xs           g of each of xs, one after the other
--     from k n, below n     k, k + 1, ..: n numbers; 0 to n - 1
--     every n p             p holds of each number below n
--     first_place p at xs    the place of the first of xs that passes p, where xs begins at `at`
-- Assumes nothing.
use Rattle.std.specs.Prelude.{ℕ, zero, suc, ◌+◌, Bool, true, false, cond, ◌&&◌, ◌||◌, List, [], ◌∷◌, ◌++◌, eqb}
use Prim.Native.Char.{code}
use Prim.Native.String.{String}
use Prim.Native.String as Text
use Rattle.std.proofs.Math.Option.{Option, none, some}

unfoldable pub bytes : String → List ℕ
bytes Text.[] = []
bytes (Text.◌∷◌ c s) = code c ∷ bytes s

abbrev pub choose : {A : Type 0} → Bool → (Unit {0} → A) → (Unit {0} → A) → A
choose true x y = x tt
choose false x y = y tt

abbrev pub chosen : {A B : Type 0} → Option A → (Unit {0} → B) → (A → B) → B
chosen none x k = x tt
chosen (some a) x k = k a

abbrev pub with_if : {A : Type 0} → Bool → A → List A → List A
with_if true x xs = x ∷ xs
with_if false x xs = xs

abbrev pub is_nil : {A : Type 0} → List A → Bool
is_nil [] = true
is_nil (x ∷ xs) = false

unfoldable pub has : ℕ → List ℕ → Bool
has n [] = false
has n (x ∷ xs) = eqb n x || has n xs

unfoldable pub without : ℕ → List ℕ → List ℕ
without n [] = []
without n (x ∷ xs) = cond (eqb n x) xs (x ∷ without n xs)

unfoldable pub keep : {A : Type 0} → (A → Bool) → List A → List A
keep p [] = []
keep p (x ∷ xs) = with_if (p x) x (keep p xs)

unfoldable pub eq_l : List ℕ → List ℕ → Bool
eq_l [] [] = true
eq_l [] (y ∷ ys) = false
eq_l (x ∷ xs) [] = false
eq_l (x ∷ xs) (y ∷ ys) = eqb x y && eq_l xs ys

unfoldable pub gather : {A B : Type 0} → (A → List B) → List A → List B
gather g [] = []
gather g (x ∷ xs) = g x ++ gather g xs

unfoldable pub from : ℕ → ℕ → List ℕ
from k zero = []
from k (suc n) = k ∷ from (suc k) n

unfoldable pub below : ℕ → List ℕ
below n = from 0 n

unfoldable pub every : ℕ → (ℕ → Bool) → Bool
every zero p = true
every (suc n) p = every n p && p n

unfoldable pub first_place : (ℕ → Bool) → ℕ → List ℕ → Option ℕ
first_place p at [] = none
first_place p at (x ∷ xs) = cond (p x) (some at) (first_place p (at + 1) xs)
