-- The word of a term, as a function of the term alone (`words`, `Word`, says what a word means): units of the walk that runs, and for each part right
-- of it the number of its node in the program's table.
--     first f i n           the first of the n numbers from i on that passes f; i + n where none does
--     node_of P t, intr_of P i        the node of the term t, of the interruption i; the number of nodes where there is none
--     word_of P t, word_l P r         the word of a term, of what is left
--     IsTerm P t, IsIntr P i        some node of the table is this term, this interruption
--     Over P ms t, OverL    each part right of the walk is a node of P, and each module on it one of ms; `over`, `over_l` are the tests
--     owns ms us            each module's unit in the word us is of one of ms
-- Assumes nothing.
use Rattle.std.specs.Prelude.{ℕ, zero, suc, ◌+◌, ◌-◌, ◌≤◌, ◌<◌, Bool, true, false, cond, ◌&&◌, ◌||◌, List, [], ◌∷◌, ◌++◌, ◌≡◌, T, leb, ltb}
use Rattle.std.proofs.Math.Decide.{ℕ_discrete}
use Rattle.paper.specs.Lists.{has}
use Rattle.paper.specs.Term.{Term, Intr, Left, Mod, One, Seq, Par, Star, Act, gone, still, eq_t, is_yes, Intr-discrete}
use Rattle.laws.specs.Nodes.{kind, count, tree, intr}

-- the recursive call waits: it is made only where i does not pass
unfoldable pub first : (ℕ → Bool) → ℕ → ℕ → ℕ
first f i zero = i
first f i (suc n) = let r = first f (i + 1) n in cond (f i) i r

unfoldable pub eq_i : Intr → Intr → Bool
eq_i i j = is_yes (Intr-discrete ℕ_discrete i j)

-- node j is this term, this interruption
abbrev pub is_term : List ℕ → Term → ℕ → Bool
is_term P t j = leb (kind P j) 5 && eq_t (tree P j) t

abbrev pub is_intr : List ℕ → Intr → ℕ → Bool
is_intr P i j = ltb 5 (kind P j) && eq_i (intr P j) i

unfoldable pub node_of : List ℕ → Term → ℕ
node_of P t = first (is_term P t) 0 (count P)

unfoldable pub intr_of : List ℕ → Intr → ℕ
intr_of P i = first (is_intr P i) 0 (count P)

-- `/` with the interruption j, before the word of its first part; where that is `1`, in its place
abbrev pub acting : (is_one : Bool) → ℕ → List ℕ → List ℕ
acting true j w = (576 + j) ∷ []
acting false j w = (384 + j) ∷ w

unfoldable pub word_of : List ℕ → Term → List ℕ
word_of P (Mod m) = (770 + m) ∷ []
word_of P One = 768 ∷ []
word_of P (Seq x y) = node_of P y ∷ word_of P x
word_of P (Par x y) = 769 ∷ (word_of P x ++ word_of P y)
word_of P (Star x) = (192 + node_of P (Star x)) ∷ word_of P x
word_of P (Act x i) = acting (eq_t x One) (intr_of P i) (word_of P x)

-- nothing left is no unit
unfoldable pub word_l : List ℕ → Left → List ℕ
word_l P gone = []
word_l P (still t) = word_of P t

abbrev pub IsTerm : List ℕ → Term → Type 0
IsTerm P t = (j : ℕ) × ((j < count P) × ((kind P j ≤ 5) × (tree P j ≡ t)))

abbrev pub IsIntr : List ℕ → Intr → Type 0
IsIntr P i = (j : ℕ) × ((j < count P) × ((5 < kind P j) × (intr P j ≡ i)))

unfoldable pub Over : List ℕ → List ℕ → Term → Type 0
Over P ms (Mod m) = T (has m ms)
Over P ms One = Unit {0}
Over P ms (Seq x y) = Over P ms x × IsTerm P y
Over P ms (Par x y) = Over P ms x × Over P ms y
Over P ms (Star x) = Over P ms x × IsTerm P (Star x)
Over P ms (Act x i) = Over P ms x × IsIntr P i

unfoldable pub OverL : List ℕ → List ℕ → Left → Type 0
OverL P ms gone = Unit {0}
OverL P ms (still t) = Over P ms t

unfoldable pub over : List ℕ → List ℕ → Term → Bool
over P ms (Mod m) = has m ms
over P ms One = true
over P ms (Seq x y) = over P ms x && ltb (node_of P y) (count P)
over P ms (Par x y) = over P ms x && over P ms y
over P ms (Star x) = over P ms x && ltb (node_of P (Star x)) (count P)
over P ms (Act x i) = over P ms x && ltb (intr_of P i) (count P)

unfoldable pub over_l : List ℕ → List ℕ → Left → Bool
over_l P ms gone = true
over_l P ms (still t) = over P ms t

unfoldable pub owns : List ℕ → List ℕ → Bool
owns ms [] = true
owns ms (u ∷ us) = (ltb u 770 || has (u - 770) ms) && owns ms us
