-- Bytes whose bits are a list of bits and fewer than eight zeros are that list packed: eight bits are one byte, and what is left of them, shifted up
-- by the zeros, is the last. Assumes nothing.
use mathlib.Core.Path.{◌≡◌, refl, sym, ap, ap₂, ◌∙◌}
use mathlib.Core.List.{List, [], ◌∷◌, ◌++◌, append-nil}
use Prim.Native.Nat.{ℕ, zero, suc, ◌+◌, ◌-◌, ◌*◌, ◌^◌, ◌≤◌, ◌<◌}
use native.Mathlib.Nat.{add-zero, mod-eq_of_lt, suc-ne-zero}
use native.Mathlib.Decide.{dec_lt}
use native.Mathlib.Omega.{arith}
use borrow.Author.Tests.{ne_eqb}
use lib.ListN.{length, take, drop, replicate, length-append, length-replicate, take-append-drop}
use lib.Seq.{take_at, drop_at, take-append-le, drop-append-le}
use mathlib.Core.Bool.{Bool, cond}
use Rattle.paper.specs.Lists.{choose, gather}
use Rattle.paper.specs.Table.{bits, packed_from, packed}
use Rattle.paper.specs.IsTable.{bits_of, number_from}
use Rattle.fields.specs.Window.{Bytes}
use Rattle.fields.proofs.Bits.{bits-length, bits_of-length, number_append, number_is}
use Rattle.fields.proofs.Fields.{number-from}

-- eight bits are one byte
packed_byte : (x : ℕ) (bs : List ℕ) → packed_from 0 0 (bits 8 x ++ bs) ≡ number_from 0 (bits 8 x) ∷ packed_from 0 0 bs
unfolding bits packed_from number_from
packed_byte x bs = refl

-- fewer are the last one
packed-last : (c v : ℕ) (bs : List ℕ) → 1 ≤ c + length bs → c + length bs < 8 → packed_from c v bs ≡ number_from v bs * 2 ^ (8 - (c + length bs)) ∷ []
unfolding packed_from number_from
packed-last c v [] h l =
    ap (λ (b : Bool). cond b [] (v * 2 ^ (8 - c) ∷ [])) (ne_eqb c 0 (λ e. omega arith)) ∙ ap (λ (n : ℕ). v * 2 ^ (8 - n) ∷ []) (sym (add-zero c))
packed-last c v (b ∷ bs) h l =
    let e : c + 1 + length bs ≡ c + suc (length bs) = omega arith in
    ap (λ (t : Bool). choose t (λ u. (v * 2 + b) ∷ packed_from 0 0 bs) (λ u. packed_from (c + 1) (v * 2 + b) bs)) (ne_eqb c 7 (λ q. omega arith))
    ∙ packed-last (c + 1) (v * 2 + b) bs (omega arith) (omega arith)
    ∙ ap (λ (n : ℕ). number_from (v * 2 + b) bs * 2 ^ (8 - n) ∷ []) e

pub number-zeros : (k : ℕ) → number_from 0 (replicate k 0) ≡ 0
unfolding number_from
number-zeros zero = refl
number-zeros (suc k) = number-zeros k

-- zeros behind shift the number up
number-padded : (bs : List ℕ) (k : ℕ) → number_from 0 (bs ++ replicate k 0) ≡ number_from 0 bs * 2 ^ k
number-padded bs k =
    number_append 0 bs (replicate k 0) ∙ number-from (number_from 0 bs) (replicate k 0)
    ∙ ap₂ (λ (n z : ℕ). number_from 0 bs * 2 ^ n + z) (length-replicate k 0) (number-zeros k) ∙ add-zero (number_from 0 bs * 2 ^ k)

byte-number : (x : ℕ) → x < 256 → number_from 0 (bits 8 x) ≡ x
byte-number x h = number_is 8 x ∙ mod-eq_of_lt h

packed_none : packed_from 0 0 [] ≡ []
unfolding packed_from
packed_none = refl

-- the first eight of them, and the others
module _ (x : ℕ) (xs bs : List ℕ) (k : ℕ) (e : bits 8 x ++ bits_of xs ≡ bs ++ replicate k 0) where
  long : length bs + k ≡ 8 + 8 * length xs
  long =
      ap (λ (n : ℕ). length bs + n) (sym (length-replicate k 0)) ∙ sym (length-append bs (replicate k 0)) ∙ ap length (sym e)
      ∙ length-append (bits 8 x) (bits_of xs) ∙ ap₂ (λ (a b : ℕ). a + b) (bits-length 8 x) (bits_of-length xs)

  first-bits : 8 ≤ length bs → bs ≡ bits 8 x ++ drop 8 bs
  first-bits h =
      sym (take-append-drop 8 bs)
      ∙ ap (λ (l : List ℕ). l ++ drop 8 bs)
      (sym (take-append-le 8 bs (replicate k 0) h) ∙ ap (take 8) (sym e) ∙ take_at (bits 8 x) (bits_of xs) 8 (bits-length 8 x))

  other-bits : 8 ≤ length bs → bits_of xs ≡ drop 8 bs ++ replicate k 0
  other-bits h = sym (drop_at (bits 8 x) (bits_of xs) 8 (bits-length 8 x)) ∙ ap (drop 8) e ∙ drop-append-le 8 bs (replicate k 0) h

pub packed-is : (s bs : List ℕ) (k : ℕ) → Bytes s → k < 8 → bits_of s ≡ bs ++ replicate k 0 → packed bs ≡ s
unfolding packed bits_of gather
packed-is [] [] k hb hk e = packed_none
packed-is [] (b ∷ bs) k hb hk e = absurd (suc-ne-zero (length (bs ++ replicate k 0)) (sym (ap length e)))
packed-is (x ∷ xs) bs k hb hk e = by (dec_lt (length bs) 8) (λ h. packed-is xs (drop 8 bs) k (λ i. hb (suc i)) hk (other-bits x xs bs k e h))
  where
    nil : (l : List ℕ) → length l ≡ 0 → l ≡ []
    nil [] h = refl
    nil (y ∷ ys) h = absurd (suc-ne-zero (length ys) h)

    by : Dec (length bs < 8) → (8 ≤ length bs → packed (drop 8 bs) ≡ xs) → packed bs ≡ x ∷ xs
    by (no h) f =
        let l : 8 ≤ length bs = omega arith in
        ap (packed_from 0 0) (first-bits x xs bs k e l) ∙ packed_byte x (drop 8 bs)
        ∙ ap₂ (λ (y : ℕ) (ys : List ℕ). y ∷ ys) (byte-number x (hb 0)) (f l)
    by (yes h) f =
        let n = long x xs bs k e in
        let z : xs ≡ [] = nil xs (omega arith) in
        let q : 8 - (0 + length bs) ≡ k = omega arith in
        packed-last 0 0 bs (omega arith) (omega arith)
        ∙ ap₂ (λ (y : ℕ) (ys : List ℕ). y ∷ ys)
        (ap (λ (i : ℕ). number_from 0 bs * 2 ^ i) q ∙ sym (number-padded bs k) ∙ ap (number_from 0) (sym e ∙ ap (λ (l : List ℕ). bits 8 x ++ bits_of l) z ∙ append-nil (bits 8 x)) ∙ byte-number x (hb 0))
        (sym z)
