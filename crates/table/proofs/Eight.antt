-- Numbers below a count, one more of them; and the orders in their eight places, one more of them. Assumes nothing.
use Prim.Native.Nat.{ℕ, zero, suc, ◌+◌, ◌*◌, ◌≤◌, ◌<◌}
use mathlib.Core.Path.{◌≡◌, refl, sym, ap, ap₂, ◌∙◌}
use mathlib.Core.List.{List, [], ◌∷◌, ◌++◌, map}
use native.Mathlib.Nat.{add-zero, zero-add, lt_of_lt_of_le}
use native.Mathlib.Numerals.{add-one}
use native.Mathlib.Omega.{arith}
use lib.ListN.{set, replicate}
use lib.Pow.{pow_mono}
use Rattle.paper.specs.Lists.{from, below}
use Rattle.paper.specs.IsTable.{field}
use Rattle.paper.specs.Calls.{eight}
use Rattle.laws.proofs.Eight.{eight-set}
use Rattle.fields.proofs.Fields.{field_lt}
use Rattle.layout.proofs.Lists.{below_length}
use Rattle.table.specs.Answers.{fields_from}

from-snoc : (f : ℕ → ℕ) (k n : ℕ) → map f (from k (suc n)) ≡ map f (from k n) ++ (f (k + n) ∷ [])
unfolding from
from-snoc f k zero = ap (λ (i : ℕ). f i ∷ []) (sym (add-zero k))
from-snoc f k (suc n) =
    let e : suc k + n ≡ k + suc n = omega arith in
    ap (λ (l : List ℕ). f k ∷ l) (from-snoc f (suc k) n ∙ ap (λ (i : ℕ). map f (from (suc k) n) ++ (f i ∷ [])) e)

below_more : (f : ℕ → ℕ) (k : ℕ) → map f (below (k + 1)) ≡ map f (below k) ++ (f k ∷ [])
unfolding below
below_more f k =
    ap (λ (n : ℕ). map f (from 0 n)) (add-one k) ∙ from-snoc f 0 k ∙ ap (λ (i : ℕ). map f (from 0 k) ++ (f i ∷ [])) (zero-add k)

pub orders_none : (t : List ℕ) (at w : ℕ) → replicate 8 0 ≡ eight (fields_from t at w 0)
unfolding fields_from below from
orders_none t at w = refl

pub orders_more : (t : List ℕ) (at w k v : ℕ) (o : List ℕ) → o ≡ eight (fields_from t at w k) → v ≡ field t (at + w * k) w → k < 8
    → set o k v ≡ eight (fields_from t at w (k + 1))
unfolding fields_from
orders_more t at w k v o e f h =
    let g : ℕ → ℕ = λ i. field t (at + w * i) w in
    ap₂ (λ (l : List ℕ) (x : ℕ). set l k x) e f ∙ eight-set (map g (below k)) k (g k) (below_length g k) h
    ∙ ap eight (sym (below_more g k))

-- a narrow field is a byte
pub field_byte : (t : List ℕ) (at w : ℕ) → w ≤ 2 → field t at w < 4
field_byte t at w h = lt_of_lt_of_le (field_lt t at w) (pow_mono h)
