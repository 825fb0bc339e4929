-- Packing loses nothing: the bits of the bytes that a list of bits is packed into are that list and fewer than eight zeros. Bytes with those bits are
-- made eight by eight, and `packed-is` says that the packing is no other. Assumes nothing.
use Prim.Native.Nat.{ℕ, zero, suc, ◌+◌, ◌-◌, ◌*◌, ◌/◌, ◌^◌, ◌<◌}
use mathlib.Core.Path.{◌≡◌, refl, sym, ap, ap₂, ◌∙◌, subst}
use mathlib.Core.List.{List, [], ◌∷◌, ◌++◌}
use native.Mathlib.Omega.{arith}
use lib.Dec.{lit<}
use lib.ListN.{length, take, drop, replicate, length-append, length-drop, length-replicate, take-append-drop}
use lib.Seq.{length-take-le}
use Rattle.paper.specs.Lists.{gather}
use Rattle.paper.specs.Table.{bits, packed}
use Rattle.paper.specs.IsTable.{bits_of, number_from}
use Rattle.fields.specs.Window.{Bytes}
use Rattle.fields.proofs.Bits.{bits_of-length}
use Rattle.fields.proofs.Fields.{AreBits, drop-are, number_lt}
use Rattle.fields.proofs.Packed.{packed-is}
use Rattle.layout.proofs.Stands.{bits-number, take-are}

-- ---- lists of bits

pub are-append : (xs ys : List ℕ) → AreBits xs → AreBits ys → AreBits (xs ++ ys)
are-append [] ys h k i = k i
are-append (x ∷ xs) ys h k zero = h 0
are-append (x ∷ xs) ys h k (suc i) = are-append xs ys (λ j. h (suc j)) k i

pub are-zeros : (n : ℕ) → AreBits (replicate n 0)
are-zeros zero i = lit< tt
are-zeros (suc n) zero = lit< tt
are-zeros (suc n) (suc i) = are-zeros n i

pub are-gather : {A : Type 0} (g : A → List ℕ) → ((x : A) → AreBits (g x)) → (xs : List A) → AreBits (gather g xs)
unfolding gather
are-gather g h [] i = lit< tt
are-gather g h (x ∷ xs) i = are-append (g x) (gather g xs) (h x) (are-gather g h xs) i

-- ---- packed

-- the bits bs and fewer than eight zeros are those of the bytes s
pub record Filled (bs s : List ℕ) : Type 0 where
  pub bytes : Bytes s
  pub pad : ℕ
  pub few : pad < 8
  pub are : bits_of s ≡ bs ++ replicate pad 0

bytes_of : (n : ℕ) (l : List ℕ) → length l ≡ 8 * n → AreBits l → (s : List ℕ) × (Bytes s × (bits_of s ≡ l))
unfolding bits_of gather
bytes_of zero [] e h = ([], ((λ i. lit< tt), refl))
bytes_of zero (x ∷ xs) e h = absurd (none (length xs) e)
  where
    none : (n : ℕ) → suc n ≡ 8 * 0 → ⊥
    none n q = omega arith
bytes_of (suc n) l e h =
    let x : ℕ = number_from 0 (take 8 l) in
    let k : length (drop 8 l) ≡ 8 * n = length-drop 8 l ∙ omega arith in
    let r = bytes_of n (drop 8 l) k (drop-are 8 l h) in
    let b : bits 8 x ≡ take 8 l = bits-number 8 (take 8 l) (length-take-le 8 l (omega arith)) (take-are 8 l h) in
    (x ∷ r.0, (byte-first x r.0 (number_lt 0 8 l h) r.1.0, ap₂ (λ (y z : List ℕ). y ++ z) b r.1.1 ∙ take-append-drop 8 l))
  where
    byte-first : (x : ℕ) (s : List ℕ) → x < (0 + 1) * 2 ^ 8 → Bytes s → Bytes (x ∷ s)
    byte-first x s h k zero = h
    byte-first x s h k (suc i) = k i

pub packed-filled : (bs : List ℕ) → AreBits bs → Filled bs (packed bs)
packed-filled bs h =
    let n : ℕ = (length bs + 7) / 8 in
    let k : ℕ = 8 * n - length bs in
    let l : List ℕ = bs ++ replicate k 0 in
    let e : length l ≡ 8 * n = simp (length-append, length-replicate) (omega arith) in
    let r = bytes_of n l e (are-append bs (replicate k 0) h (are-zeros k)) in
    let few : k < 8 = omega arith in
    subst (Filled bs) (sym (packed-is r.0 bs k r.1.0 few r.1.1)) (record { bytes = r.1.0; pad = k; few = few; are = r.1.1 })

pub filled-bits : (bs s : List ℕ) (f : Filled bs s) → 8 * length s ≡ length bs + f.pad
filled-bits bs s f =
    sym (bits_of-length s) ∙ ap length f.are ∙ length-append bs (replicate f.pad 0) ∙ ap (λ (n : ℕ). length bs + n) (length-replicate f.pad 0)

-- "zero bits to a whole byte"
pub filled-length : (bs s : List ℕ) → Filled bs s → length s ≡ (length bs + 7) / 8
filled-length bs s f = omega (arith, filled-bits bs s f, f.few)
