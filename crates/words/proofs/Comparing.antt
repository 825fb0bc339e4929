-- Two stretches of units are the same exactly when they are as long as each other and agree place by place.
-- Assumes nothing.
use Prim.Native.Nat.{ℕ, ◌+◌, ◌-◌, ◌≤◌, ◌<◌}
use mathlib.Core.List.{List}
use mathlib.Core.Path.{◌≡◌, ap, sym, ◌∙◌}
use native.Mathlib.Numerals.{add-one}
use native.Mathlib.Omega.{arith}
use lib.ListN.{get_or, length, take, drop, length-drop, length-take}
use lib.Seq.{get_or-drop, get_or-take, take-suc}

module _ (x y : List ℕ) (a z b e : ℕ) (ok : ((a ≤ z) × (z ≤ length x)) × ((b ≤ e) × (e ≤ length y))) where
  abbrev old : List ℕ
  old = take (z - a) (drop a x)

  abbrev new : List ℕ
  new = take (e - b) (drop b y)

  pub lengths_differ : (z - a ≡ e - b → ⊥) → old ≡ new → ⊥
  lengths_differ d q =
      let l : length old ≡ z - a = simp (length-take, length-drop) (omega arith) in
      let r : length new ≡ e - b = simp (length-take, length-drop) (omega arith) in
      d (sym l ∙ ap length q ∙ r)

  pub units-differ : (n i : ℕ) → i < n → n ≡ z - a → n ≡ e - b → (get_or x (a + i) 0 ≡ get_or y (b + i) 0 → ⊥) → old ≡ new → ⊥
  units-differ n i h p q d s =
      let l : get_or old i 0 ≡ get_or x (a + i) 0 = get_or-take (z - a) (drop a x) i 0 (omega arith) ∙ get_or-drop a x i 0 in
      let r : get_or new i 0 ≡ get_or y (b + i) 0 = get_or-take (e - b) (drop b y) i 0 (omega arith) ∙ get_or-drop b y i 0 in
      d (sym l ∙ ap (λ (weight : List ℕ). get_or weight i 0) s ∙ r)

  pub one_more : (n i : ℕ) → i < n → n ≡ z - a → n ≡ e - b → get_or x (a + i) 0 ≡ get_or y (b + i) 0 → take i (drop a x) ≡ take i (drop b y) → take (i + 1) (drop a x) ≡ take (i + 1) (drop b y)
  one_more n i h p q d s =
      let u : i < length (drop a x) = omega (arith, length-drop a x) in
      let v : i < length (drop b y) = omega (arith, length-drop b y) in
      rw (add-one i, take-suc (drop a x) i 0 u, take-suc (drop b y) i 0 v, get_or-drop a x i 0, get_or-drop b y i 0, d, s)

  pub all-agree : (n i : ℕ) → n ≤ i → i ≤ n → n ≡ z - a → n ≡ e - b → take i (drop a x) ≡ take i (drop b y) → old ≡ new
  all-agree n i h k p q s =
      let ix : i ≡ z - a = omega arith in
      let iy : i ≡ e - b = omega arith in
      rw (← ix, ← iy) s
