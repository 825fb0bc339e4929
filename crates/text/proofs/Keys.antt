-- The comparison of two texts byte by byte, and which key a key part is by three such comparisons.
-- From a place on, two texts are the same where the bytes there are and the texts after it (`eq_l-step`). Assumes nothing.
use Prim.Native.Nat.{ℕ, suc, ◌+◌, ◌<◌}
use mathlib.Core.Path.{◌≡◌, refl, ap, ◌∙◌}
use mathlib.Core.Bool.{Bool, true, false, ◌&&◌}
use mathlib.Core.List.{List, [], ◌∷◌}
use mathlib.Core.Option.{none, some}
use native.Mathlib.Numerals.{add-one}
use lib.Dec.{eqb}
use lib.ListN.{length, get_or, drop}
use lib.Seq.{drop-cons, drop-length}
use Rattle.paper.specs.Lists.{bytes, eq_l}
use Rattle.paper.specs.File.{key_of, standard_key, fugitive_key, program_key}

and-false : (a : Bool) → (a && false) ≡ false
and-false true = refl
and-false false = refl

pub eq_l-lengths : (xs ys : List ℕ) → (length xs ≡ length ys → ⊥) → eq_l xs ys ≡ false
unfolding eq_l
eq_l-lengths [] [] h = absurd (h refl)
eq_l-lengths [] (y ∷ ys) h = refl
eq_l-lengths (x ∷ xs) [] h = refl
eq_l-lengths (x ∷ xs) (y ∷ ys) h = rw (eq_l-lengths xs ys (λ e. h (ap suc e))) (and-false (eqb x y))

pub eq_l-step : (xs ys : List ℕ) (i : ℕ) → i < length xs → i < length ys → eq_l (drop i xs) (drop i ys) ≡ (eqb (get_or xs i 0) (get_or ys i 0) && eq_l (drop (i + 1) xs) (drop (i + 1) ys))
unfolding eq_l
eq_l-step xs ys i h k = rw (add-one i, drop-cons xs i 0 h, drop-cons ys i 0 k)

pub eq_l-end : (xs ys : List ℕ) (i : ℕ) → i ≡ length xs → i ≡ length ys → eq_l (drop i xs) (drop i ys) ≡ true
unfolding eq_l
eq_l-end xs ys i h k =
    ap (λ (n : ℕ). eq_l (drop n xs) (drop i ys)) h
    ∙ (ap (λ (zs : List ℕ). eq_l zs (drop i ys)) (drop-length xs)
    ∙ (ap (λ (n : ℕ). eq_l [] (drop n ys)) k ∙ ap (eq_l []) (drop-length ys)))

module _ (k : List ℕ) where
  pub key_of-standard : eq_l k (bytes "standard") ≡ true → some standard_key ≡ key_of k
  unfolding key_of
  key_of-standard h = rw h

  module _ (h : eq_l k (bytes "standard") ≡ false) where
    pub key_of-fugitive : eq_l k (bytes "fugitive") ≡ true → some fugitive_key ≡ key_of k
    unfolding key_of
    key_of-fugitive i = rw (h, i)

    module _ (i : eq_l k (bytes "fugitive") ≡ false) where
      pub key_of-program : eq_l k (bytes "program") ≡ true → some program_key ≡ key_of k
      unfolding key_of
      key_of-program j = rw (h, i, j)

      pub key_of-none : eq_l k (bytes "program") ≡ false → none ≡ key_of k
      unfolding key_of
      key_of-none j = rw (h, i, j)
