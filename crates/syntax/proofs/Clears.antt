-- A list that is cleared from its start on: the zeros so far stand in front of what is left, and the next store moves one element over (`clear_next`).
-- Assumes nothing.
use Prim.Native.Nat.{ℕ, suc, ◌+◌, ◌≤◌, ◌<◌}
use mathlib.Core.List.{List, ◌∷◌, ◌++◌, append-nil}
use mathlib.Core.Path.{◌≡◌, sym, ap, ◌∙◌}
use native.Mathlib.Numerals.{add-one}
use native.Mathlib.Omega.{arith}
use lib.ListN.{length, get_or, set, drop, replicate, length-append, length-drop, length-replicate, replicate-append-replicate, drop_of_length-le}
use lib.Seq.{drop-cons, set-append_seam, append_snoc}

-- the first i elements of l cleared
abbrev pub cleared : ℕ → List ℕ → List ℕ
cleared i l = replicate {A = ℕ} i 0 ++ drop i l

pub clear_next : (l m : List ℕ) (i : ℕ) → i < length l → m ≡ cleared i l → set m i 0 ≡ cleared (i + 1) l
clear_next l m i h e = let d = drop (suc i) l in let z = replicate {A = ℕ} i 0 in
    ap (λ (x : List ℕ). set x i 0) (e ∙ ap (λ (x : List ℕ). z ++ x) (drop-cons l i 0 h))
    ∙ ap (λ (k : ℕ). set (z ++ (get_or l i 0 ∷ d)) k 0) (sym (length-replicate i 0))
    ∙ set-append_seam z (get_or l i 0) d 0
    ∙ sym (append_snoc z 0 d)
    ∙ ap (λ (x : List ℕ). x ++ d) (replicate-append-replicate i 1 0)
    ∙ ap (λ (k : ℕ). replicate (i + 1) 0 ++ drop k l) (sym (add-one i))

pub clear-length : (l m : List ℕ) (i : ℕ) → i ≤ length l → m ≡ cleared i l → length m ≡ length l
clear-length l m i h e = ap length e ∙ length-append (replicate i 0) (drop i l) ∙ simp (length-replicate, length-drop) (omega (arith, h))

pub clear-all : (l m : List ℕ) (i n : ℕ) → length l ≡ n → i ≡ n → m ≡ cleared i l → m ≡ replicate n 0
clear-all l m i n h k e =
    e ∙ ap (λ (j : ℕ). cleared j l) k ∙ ap (λ (x : List ℕ). replicate n 0 ++ x) (drop_of_length-le l {i = n} (omega (arith, h))) ∙ append-nil (replicate n 0)
