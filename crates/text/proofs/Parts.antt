-- A part of a file, from one place up to another: with one byte more at its end or its front, and as the front of what is left of the file.
-- All of it is `take` and `drop` of a list, with the places turned into the numbers that the library's laws speak of.
-- Assumes nothing.
use Prim.Native.Nat.{ℕ, suc, ◌+◌, ◌-◌, ◌≤◌, ◌<◌}
use mathlib.Core.Path.{◌≡◌, ap, sym, ◌∙◌}
use mathlib.Core.List.{List, [], ◌∷◌, ◌++◌}
use native.Mathlib.Omega.{arith}
use native.Mathlib.Numerals.{add-one}
use lib.ListN.{length, get_or, take, drop, length-drop, take-append-drop}
use lib.Seq.{take-suc, drop-cons, get_or-drop, drop-drop, length-take-le, take-length, take-add}
use Rattle.text.specs.Spans.{part}

pub part_none : (bs : List ℕ) (f : ℕ) → part bs f f ≡ []
part_none bs f = let e : f - f ≡ 0 = omega arith in ap (λ (n : ℕ). take n (drop f bs)) e

-- the byte at an offset from the part's start
drop-get_or : (bs : List ℕ) (f i : ℕ) → f ≤ i → get_or (drop f bs) (i - f) 0 ≡ get_or bs i 0
drop-get_or bs f i h =
    let e : f + (i - f) ≡ i = omega arith in
    get_or-drop f bs (i - f) 0 ∙ ap (λ (n : ℕ). get_or bs n 0) e

drop-rest : (bs : List ℕ) (f i : ℕ) → f ≤ i → drop (suc (i - f)) (drop f bs) ≡ drop (i + 1) bs
drop-rest bs f i h =
    let e : f + suc (i - f) ≡ i + 1 = omega arith in
    drop-drop (suc (i - f)) f bs ∙ ap (λ (n : ℕ). drop n bs) e

-- one byte more at the end
pub part-more : (bs : List ℕ) (f i : ℕ) → f ≤ i → i < length bs → part bs f (i + 1) ≡ part bs f i ++ (get_or bs i 0 ∷ [])
part-more bs f i h k =
    let e : (i + 1) - f ≡ suc (i - f) = omega arith in
    let l : i - f < length (drop f bs) = simp length-drop (omega arith) in
    ap (λ (n : ℕ). take n (drop f bs)) e
    ∙ (take-suc (drop f bs) (i - f) 0 l ∙ ap (λ (b : ℕ). part bs f i ++ (b ∷ [])) (drop-get_or bs f i h))

-- one byte more at the front
pub part-cons : (bs : List ℕ) (f t : ℕ) → f < t → t ≤ length bs → part bs f t ≡ get_or bs f 0 ∷ part bs (f + 1) t
part-cons bs f t h k =
    let e : t - f ≡ suc (t - (f + 1)) = omega arith in
    ap (λ (n : ℕ). take n (drop f bs)) e
    ∙ (ap (take (suc (t - (f + 1)))) (drop-cons bs f 0 (omega arith))
    ∙ ap (λ (n : ℕ). get_or bs f 0 ∷ take (t - (f + 1)) (drop n bs)) (sym (add-one f)))

-- what is left of the file: up to a byte, the byte, and what is left after it
pub drop-part : (bs : List ℕ) (f i : ℕ) → f ≤ i → i < length bs → drop f bs ≡ part bs f i ++ (get_or bs i 0 ∷ drop (i + 1) bs)
drop-part bs f i h k =
    let l : i - f < length (drop f bs) = simp length-drop (omega arith) in
    sym (take-append-drop (i - f) (drop f bs))
    ∙ ap (λ (xs : List ℕ). part bs f i ++ xs)
    (drop-cons (drop f bs) (i - f) 0 l
    ∙ (ap (λ (b : ℕ). b ∷ drop (suc (i - f)) (drop f bs)) (drop-get_or bs f i h)
    ∙ ap (λ (xs : List ℕ). get_or bs i 0 ∷ xs) (drop-rest bs f i h)))

pub drop-whole : (bs : List ℕ) (f : ℕ) → drop f bs ≡ part bs f (length bs)
drop-whole bs f =
    sym (take-length (drop f bs)) ∙ ap (λ (n : ℕ). take n (drop f bs)) (length-drop f bs)

pub length_part : (bs : List ℕ) (f t : ℕ) → t ≤ length bs → length (part bs f t) ≡ t - f
length_part bs f t h = length-take-le (t - f) (drop f bs) (simp length-drop (omega arith))

-- a part, at a byte within it
pub part-split : (bs : List ℕ) (f m t : ℕ) → f ≤ m → m < t → t ≤ length bs → part bs f t ≡ part bs f m ++ (get_or bs m 0 ∷ part bs (m + 1) t)
part-split bs f m t h k l =
    let e : t - f ≡ (m - f) + (t - m) = omega arith in
    let d : f + (m - f) ≡ m = omega arith in
    ap (λ (n : ℕ). take n (drop f bs)) e
    ∙ (take-add (m - f) (t - m) (drop f bs)
    ∙ ap (λ (xs : List ℕ). part bs f m ++ xs)
    (ap (take (t - m)) (drop-drop (m - f) f bs ∙ ap (λ (n : ℕ). drop n bs) d) ∙ part-cons bs m t k l))
