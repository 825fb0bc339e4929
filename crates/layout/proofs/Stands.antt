-- What stands where in a list of bits: it splits and joins as the fields do, and a field is the number of the bits that stand at its place.
--     Stands l at fs        the bits fs stand in l from the place `at` on
-- Assumes nothing.
use Prim.Native.Nat.{ℕ, zero, suc, ◌+◌, ◌*◌, ◌/◌, ◌%◌, ◌^◌, ◌≤◌, ◌<◌}
use mathlib.Core.Path.{◌≡◌, refl, sym, ap, ap₂, ◌∙◌, subst}
use mathlib.Core.List.{List, [], ◌∷◌, ◌++◌}
use native.Mathlib.Nat.{one-mul, suc-mul, mod-eq_of_lt, not-suc-le-zero, le_of_suc-le-suc}
use native.Mathlib.Omega.{arith}
use lib.ListN.{length, get_or, take, drop, length-append, length-drop}
use lib.Seq.{take-add, take-take, drop-drop, take_at, drop_at, take_all, length-take-le}
use lib.Pow.{high}
use Rattle.paper.specs.Lists.{gather}
use Rattle.paper.specs.Table.{bits}
use Rattle.paper.specs.IsTable.{bits_of, number_from, field}
use Rattle.fields.proofs.Bits.{bits-length, bits_of-length, bits-low, number_is}
use Rattle.fields.proofs.Fields.{number-from, AreBits, bits_of-are, drop-are, number_lt}

abbrev pub Stands : List ℕ → ℕ → List ℕ → Type 0
Stands l at fs = take (length fs) (drop at l) ≡ fs

module _ (l : List ℕ) where
  pub stands-join : (at n to : ℕ) (fs gs : List ℕ) → length fs ≡ n → at + n ≡ to → Stands l at fs → Stands l to gs → Stands l at (fs ++ gs)
  stands-join at n to fs gs e f p q =
      let o : at + length fs ≡ to = ap (λ (k : ℕ). at + k) e ∙ f in
      ap (λ (k : ℕ). take k (drop at l)) (length-append fs gs) ∙ take-add (length fs) (length gs) (drop at l)
      ∙ ap₂ (λ (x y : List ℕ). x ++ y) p
      (ap (take (length gs)) (drop-drop (length fs) at l ∙ ap (λ (k : ℕ). drop k l) o) ∙ q)

  pub stands-first : (at : ℕ) (fs gs : List ℕ) → Stands l at (fs ++ gs) → Stands l at fs
  stands-first at fs gs p =
      let h : length fs ≤ length (fs ++ gs) = simp length-append (omega arith) in
      sym (take-take (length fs) (length (fs ++ gs)) (drop at l) h) ∙ ap (take (length fs)) p ∙ take_at fs gs (length fs) refl

  pub stands-rest : (at n to : ℕ) (fs gs : List ℕ) → length fs ≡ n → at + n ≡ to → Stands l at (fs ++ gs) → Stands l to gs
  stands-rest at n to fs gs e f p =
      let o : at + length fs ≡ to = ap (λ (k : ℕ). at + k) e ∙ f in
      let d : List ℕ = drop at l in
      let a : length (take (length fs) d) ≡ length fs = ap length (stands-first at fs gs p) in
      ap (λ (k : ℕ). take (length gs) (drop k l)) (sym o) ∙ ap (take (length gs)) (sym (drop-drop (length fs) at l))
      ∙ sym (drop_at (take (length fs) d) (take (length gs) (drop (length fs) d)) (length fs) a)
      ∙ ap (drop (length fs)) (sym (take-add (length fs) (length gs) d) ∙ ap (λ (k : ℕ). take k d) (sym (length-append fs gs)) ∙ p)
      ∙ drop_at fs gs (length fs) refl

-- pieces of one length, side by side
module _ {A : Type 0} (g : A → List ℕ) (d : A) (w : ℕ) (l : List ℕ) where
  next_place : (at k : ℕ) → at + w + k * w ≡ at + suc k * w
  next_place at k = omega (arith, suc-mul k w)

  pub pieces-join : (xs : List A) (at : ℕ) → ((k : ℕ) → k < length xs → length (g (get_or xs k d)) ≡ w)
      → ((k : ℕ) → k < length xs → Stands l (at + k * w) (g (get_or xs k d))) → Stands l at (gather g xs)
  unfolding gather
  pieces-join [] at h p = refl
  pieces-join (x ∷ xs) at h p =
      let o : at + 0 * w ≡ at = omega arith in
      stands-join l at w (at + w) (g x) (gather g xs) (h 0 (omega arith)) refl (subst (λ (k : ℕ). Stands l k (g x)) o (p 0 (omega arith)))
      (pieces-join xs (at + w) (λ k q. h (suc k) (omega arith))
      (λ k q. subst (λ (n : ℕ). Stands l n (g (get_or xs k d))) (sym (next_place at k)) (p (suc k) (omega arith))))

  pub piece-at : (xs : List A) (at : ℕ) → ((k : ℕ) → k < length xs → length (g (get_or xs k d)) ≡ w) → Stands l at (gather g xs)
      → (k : ℕ) → k < length xs → Stands l (at + k * w) (g (get_or xs k d))
  unfolding gather
  piece-at [] at h p k q = absurd (not-suc-le-zero q)
  piece-at (x ∷ xs) at h p zero q =
      let o : at ≡ at + 0 * w = omega arith in
      subst (λ (k : ℕ). Stands l k (g x)) o (stands-first l at (g x) (gather g xs) p)
  piece-at (x ∷ xs) at h p (suc k) q =
      subst (λ (n : ℕ). Stands l n (g (get_or xs k d))) (next_place at k)
      (piece-at xs (at + w) (λ i r. h (suc i) (omega arith)) (stands-rest l at w (at + w) (g x) (gather g xs) (h 0 (omega arith)) refl p) k
      (le_of_suc-le-suc q))

-- ---- the number of bits, and its bits

pub bits-number : (w : ℕ) (l : List ℕ) → length l ≡ w → AreBits l → bits w (number_from 0 l) ≡ l
unfolding bits number_from
bits-number zero [] e h = refl
bits-number zero (x ∷ xs) e h = absurd (no (length xs) e)
  where
    no : (n : ℕ) → suc n ≡ 0 → ⊥
    no n q = omega arith
bits-number (suc w) [] e h = absurd (no w e)
  where
    no : (n : ℕ) → 0 ≡ suc n → ⊥
    no n q = omega arith
bits-number (suc w) (x ∷ xs) e h =
    let k : length xs ≡ w = omega arith in
    let z : 0 * 2 + x ≡ x = omega arith in
    let hx : x < 2 = h 0 in
    let n : ℕ = number_from 0 xs in
    let f : number_from (0 * 2 + x) xs ≡ x * 2 ^ w + n = number-from (0 * 2 + x) xs ∙ ap₂ (λ (a b : ℕ). a * 2 ^ b + n) z k in
    let b : n < 2 ^ w = small xs w k (λ i. h (suc i)) in
    ap₂ (λ (a : ℕ) (r : List ℕ). (a % 2) ∷ r) (ap (λ (a : ℕ). a / 2 ^ w) f ∙ high x w b) (ap (bits w) f ∙ bits-low w x n ∙ bits-number w xs k (λ i. h (suc i)))
    ∙ ap (λ (a : ℕ). a ∷ xs) (mod-eq_of_lt hx)
  where
    small : (xs : List ℕ) (w : ℕ) → length xs ≡ w → AreBits xs → number_from 0 xs < 2 ^ w
    small xs w k h =
        let t : take w xs ≡ xs = take_all w xs (omega arith) in
        let o : (0 + 1) * 2 ^ w ≡ 2 ^ w = one-mul (2 ^ w) in
        subst (λ (p : ℕ). number_from 0 xs < p) o (subst (λ (y : List ℕ). number_from 0 y < (0 + 1) * 2 ^ w) t (number_lt 0 w xs h))

-- ---- fields

pub field-stands : (t : List ℕ) (at w v : ℕ) → v < 2 ^ w → Stands (bits_of t) at (bits w v) → field t at w ≡ v
unfolding field
field-stands t at w v h p =
    ap (λ (k : ℕ). number_from 0 (take k (drop at (bits_of t)))) (sym (bits-length w v)) ∙ ap (number_from 0) p ∙ number_is w v ∙ mod-eq_of_lt h

pub take-are : (n : ℕ) (l : List ℕ) → AreBits l → AreBits (take n l)
take-are zero l h i = omega arith
take-are (suc n) [] h i = h i
take-are (suc n) (x ∷ xs) h zero = h 0
take-are (suc n) (x ∷ xs) h (suc i) = take-are n xs (λ j. h (suc j)) i

pub stands-field : (t : List ℕ) (at w : ℕ) → at + w ≤ 8 * length t → Stands (bits_of t) at (bits w (field t at w))
unfolding field
stands-field t at w h =
    let l : List ℕ = drop at (bits_of t) in
    let n : w ≤ length l = simp (length-drop, bits_of-length) (omega arith) in
    ap (λ (k : ℕ). take k l) (bits-length w (field t at w))
    ∙ sym (bits-number w (take w l) (length-take-le w l n) (take-are w l (drop-are at (bits_of t) (bits_of-are t))))
