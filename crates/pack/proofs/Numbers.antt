-- The numbers that are written: units of a word, the stopped set's number, the marks of the stored events.
-- Assumes nothing.
use Prim.Native.Nat.{ℕ, zero, suc, ◌+◌, ◌*◌, ◌≤◌, ◌<◌}
use mathlib.Core.Bool.{cond}
use mathlib.Core.List.{List, [], ◌∷◌, map}
use mathlib.Core.Path.{◌≡◌, refl, ap, sym, ◌∙◌}
use native.Mathlib.Numerals.{add-one}
use native.Mathlib.Omega.{arith}
use lib.Dec.{eqb}
use lib.ListN.{length, get_or, drop, length-drop, length-take, get_or-eq_default}
use lib.Seq.{drop-cons, get_or-take, drop-length}
use lib.Pow.{pow_mono}
use Rattle.std.specs.List.{position, position_or_len}
use Rattle.std.specs.Option.{unwrap_or}
use Rattle.std.proofs.Common.{Some, None, nat_lt}
use Rattle.std.proofs.lemmas.Bool.Decides.{nat_tests}
use Rattle.std.proofs.lemmas.List.Recursion.{is_position_or_len}
use Rattle.paper.specs.Lists.{has}
use Rattle.paper.specs.Table.{flag}
use Rattle.rewrite.specs.declared.Memory.{Memory}
use Rattle.rewrite.specs.Stored.{stored}
use Rattle.react.specs.States.{Modules, stopped_of, Flags}
use Rattle.react.proofs.Flagged.{stopped-flag}
use Rattle.coding.specs.Layout.{low, high, pair, set_number, place_in, marks_of}
use Rattle.coding.proofs.Bytes.{set-small, marks-long, marks-small}
use Rattle.pack.specs.Packing.{Known}

-- ---- units

-- no unit, no bits
pub low-behind : (w : List ℕ) (i : ℕ) → length w ≤ i → low w i ≡ 0
low-behind w i h = omega (arith, get_or-eq_default w 0 {n = i} h)

pub high-behind : (w : List ℕ) (j : ℕ) → length w ≤ 4 * j → high w j ≡ 0
high-behind w j h =
    omega (arith, get_or-eq_default w 0 {n = 4 * j} h, get_or-eq_default w 0 {n = 4 * j + 1} (omega arith), get_or-eq_default w 0 {n = 4 * j + 2} (omega arith), get_or-eq_default w 0 {n = 4 * j + 3} (omega arith))

-- ---- the stopped set

flag_is : (f : ℕ) → f ≤ 1 → flag (eqb f 1) ≡ f
flag_is zero h = refl
flag_is (suc zero) h = refl
flag_is (suc (suc f)) h = absurd (omega arith)

module _ (ms fs : List ℕ) (g : Modules ms) (h : Flags (length ms) fs) where
  -- one module more, from the last on
  pub set_more : (i j n : ℕ) → j ≡ i + 1 → i < length ms → n ≡ set_number (drop j ms) (stopped_of ms fs) → get_or fs i 0 + 2 * n ≡ set_number (drop i ms) (stopped_of ms fs)
  unfolding set_number
  set_more i j n q k e =
      let z : drop i ms ≡ get_or ms i 0 ∷ drop j ms = drop-cons ms i 0 k ∙ ap (λ (x : ℕ). get_or ms i 0 ∷ drop x ms) (sym (q ∙ add-one i)) in
      let f : flag (has (get_or ms i 0) (stopped_of ms fs)) ≡ get_or fs i 0 =
      ap flag (sym (stopped-flag 0 i ms fs g.ascend k)) ∙ flag_is (get_or fs i 0) (h i).0
      in
      rw (z, f, e)

  pub set-byte : (i : ℕ) → set_number (drop i ms) (stopped_of ms fs) < 256
  set-byte i =
      omega (arith, set-small (drop i ms) (stopped_of ms fs), pow_mono {i = length (drop i ms)} {j = 8} (omega (arith, length-drop i ms, g.few)))

pub set-none : (ms xs : List ℕ) → 0 ≡ set_number (drop (length ms) ms) xs
unfolding set_number
set-none ms xs = rw (drop-length ms)

-- ---- the place of an event

place-most : (es : List ℕ) (e : ℕ) → place_in es e ≤ length es
unfolding place_in
place-most [] e = omega arith
place-most (x ∷ xs) e = grind (arith, place-most xs e)

place-steps : (es : List ℕ) (e : ℕ) → place_in es e ≡ position_or_len (λ x. eqb e x) es
unfolding place_in
place-steps es e = is_position_or_len (λ xs. place_in xs e) (λ x. eqb e x) refl (λ x xs. ap (cond (eqb e x) 0) (omega arith)) es

or_len : (p n : ℕ) → p ≤ n → unwrap_or (cond (nat_lt p n) (Some p) None) n ≡ p
or_len p n h = grind (arith, nat_tests)

-- where an event stands, or how many they are
pub place_is : (es : List ℕ) (e : ℕ) → unwrap_or (position (λ x. eqb e x) es) (length es) ≡ place_in es e
place_is es e = rw (place-steps es e) (or_len (position_or_len (λ x. eqb e x) es) (length es) (omega (arith, place-most es e, place-steps es e)))

-- ---- marks

at_map : (f : ℕ → ℕ) (xs : List ℕ) (i : ℕ) → i < length xs → get_or (map f xs) i 0 ≡ f (get_or xs i 0)
at_map f [] i h = absurd (omega arith)
at_map f (x ∷ xs) zero h = refl
at_map f (x ∷ xs) (suc i) h = at_map f xs i (omega arith)

module _ (es : List ℕ) (m : Memory) (l : length m.events ≡ 8) (k : Known es m) where
  stored-long : length (stored m) ≡ m.count
  stored-long = omega (arith, length-take m.count m.events, k.count)

  pub mark-small : (i : ℕ) → get_or (marks_of es (stored m)) i 0 < 16
  mark-small = marks-small es (stored m) k.few k.among

  pub mark-in : (i p : ℕ) → i < m.count → p ≡ place_in es (get_or m.events i 0) → p + 1 ≡ get_or (marks_of es (stored m)) i 0
  unfolding marks_of
  mark-in i p h e =
      let z = at_map (λ x. suc (place_in es x)) (stored m) i (omega (arith, stored-long)) in
      let t = get_or-take m.count m.events i 0 h in
      add-one p ∙ (ap suc (e ∙ ap (place_in es) (sym t)) ∙ sym z)

  pub mark-behind : (i : ℕ) → m.count ≤ i → get_or (marks_of es (stored m)) i 0 ≡ 0
  mark-behind i h = get_or-eq_default (marks_of es (stored m)) 0 {n = i} (omega (arith, marks-long es (stored m), stored-long))

  pub pair-behind : (j : ℕ) → m.count ≤ 2 * j → pair (marks_of es (stored m)) j ≡ 0
  pair-behind j h = omega (arith, mark-behind (2 * j) h, mark-behind (2 * j + 1) (omega arith))
