-- The bits tell the bytes: equal bits of equally many bytes are those of the same bytes, eight by eight. Assumes nothing.
use mathlib.Core.Path.{◌≡◌, refl, sym, ap, ap₂, ◌∙◌}
use mathlib.Core.List.{List, [], ◌∷◌}
use Prim.Native.Nat.{ℕ, suc, ◌%◌, ◌<◌}
use native.Mathlib.Nat.{suc_inj, suc-ne-zero}
use native.Mathlib.Omega.{arith}
use lib.ListN.{length, get_or, take, drop}
use lib.Seq.{take_at, drop_at}
use Rattle.paper.specs.Lists.{gather}
use Rattle.paper.specs.Table.{bits}
use Rattle.paper.specs.IsTable.{bits_of, number_from}
use Rattle.fields.proofs.Bits.{bits-length, number_is}

-- two lists of bytes with the same bits_of are the same
pub bits-inj : (s t : List ℕ) → length s ≡ length t → ((i : ℕ) → get_or s i 0 < 256) → ((i : ℕ) → get_or t i 0 < 256) → bits_of s ≡ bits_of t → s ≡ t
unfolding bits_of gather
bits-inj [] [] l hs ht e = refl
bits-inj [] (y ∷ ys) l hs ht e = absurd (suc-ne-zero (length ys) (sym l))
bits-inj (x ∷ xs) [] l hs ht e = absurd (suc-ne-zero (length xs) l)
bits-inj (x ∷ xs) (y ∷ ys) l hs ht e =
    let f : bits 8 x ≡ bits 8 y =
    sym (take_at (bits 8 x) (bits_of xs) 8 (bits-length 8 x)) ∙ ap (take 8) e ∙ take_at (bits 8 y) (bits_of ys) 8 (bits-length 8 y)
    in
    let d : bits_of xs ≡ bits_of ys =
    sym (drop_at (bits 8 x) (bits_of xs) 8 (bits-length 8 x)) ∙ ap (drop 8) e ∙ drop_at (bits 8 y) (bits_of ys) 8 (bits-length 8 y)
    in
    let g : x % 256 ≡ y % 256 = sym (number_is 8 x) ∙ ap (number_from 0) f ∙ number_is 8 y in
    let hx : x < 256 = hs 0 in
    let hy : y < 256 = ht 0 in
    let h : x ≡ y = omega arith in
    ap₂ (λ (z : ℕ) (zs : List ℕ). z ∷ zs) h (bits-inj xs ys (suc_inj l) (λ i. hs (suc i)) (λ i. ht (suc i)) d)
