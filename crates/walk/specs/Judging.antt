-- The test of a word, unit by unit from its end. Document 01: "No. 23 refuses exactly what lies outside a written set of states".
--     Tells b A             b says whether A
--     Weighted P vs          a table of nodes, and the weight of each; `Known P vs ms` with the letters of a program's modules
--     Placed P ms m ts      a unit that says m may stand before the terms ts: it is fine there, and its module is one of ms
--     May P ms u ts         the unit u may stand before the terms ts: it is fine there, its module is one of ms, and its term weighs at most 96
--     Sound P ms us         each unit of the word may stand where it does
--     Judged P ms m ts r    r is the weight of the term that such a unit makes, where it may stand; else none
--     Lights ts             each of the terms weighs at most 96
--     Stacked xs ts         the stack xs has the weights of the terms, the first on top
--     Behind P W i xs       the word W is right behind place i, and xs has the weights of its terms there
-- Assumes nothing.
use Rattle.std.specs.Prelude.{ℕ, ◌+◌, ◌-◌, ◌≤◌, ◌<◌, Bool, true, false, ◌||◌, List, [], ◌∷◌, map, reverse, ◌≡◌, T, ltb, length, drop, get_or, Option, MatchOption}
use Rattle.paper.specs.Lists.{has}
use Rattle.paper.specs.Term.{Term}
use Rattle.laws.specs.Nodes.{count}
use Rattle.laws.specs.Weight.{weight}
use Rattle.nodes.specs.Weights.{node_weight}
use Rattle.words.specs.Word.{Mark, u_mod, mark, hd, apply, terms, Fine, Right}
use Rattle.words.specs.Pieces.{Table}

unfoldable pub Tells : Bool → Type 0 → Type 0
Tells true A = A
Tells false A = A → ⊥

pub record Weighted (P vs : List ℕ) : Type 0 where
  pub table : Table P
  pub places : count P ≤ length vs
  pub weights : (i : ℕ) → i < count P → get_or vs i 0 ≡ node_weight P i

abbrev pub Known : List ℕ → List ℕ → List ℕ → Type 0
Known P vs ms = Weighted P vs × ((m : ℕ) → T (has m ms) → m < 26)

pub record Placed (P ms : List ℕ) (m : Mark) (ts : List Term) : Type 0 where
  pub fine : Fine P m ts
  pub own : (a : ℕ) → m ≡ u_mod a → T (has a ms)

pub record May (P ms : List ℕ) (u : ℕ) (ts : List Term) : Type 0 where
  pub fine : Fine P (mark u) ts
  pub own : T (ltb u 770 || has (u - 770) ms)
  pub light : weight (hd (apply P (mark u) ts)) ≤ 96

unfoldable pub Sound : List ℕ → List ℕ → List ℕ → Type 0
Sound P ms [] = Unit {0}
Sound P ms (u ∷ us) = Sound P ms us × May P ms u (terms P us)

abbrev pub Judged : List ℕ → List ℕ → Mark → List Term → Option ℕ → Type 0
Judged P ms m ts r = MatchOption r (Placed P ms m ts → ⊥) (λ v. Placed P ms m ts × (v ≡ weight (hd (apply P m ts))))

unfoldable pub Lights : List Term → Type 0
Lights [] = Unit {0}
Lights (t ∷ ts) = (weight t ≤ 96) × Lights ts

abbrev pub Stacked : List ℕ → List Term → Type 0
Stacked xs ts = reverse xs ≡ map weight ts

pub record Behind (P W : List ℕ) (i : ℕ) (xs : List ℕ) : Type 0 where
  pub right : Right P (drop (i + 1) W)
  pub long : length W ≡ 96
  pub here : i < 96
  pub light : Lights (terms P (drop (i + 1) W))
  pub stacked : Stacked xs (terms P (drop (i + 1) W))
