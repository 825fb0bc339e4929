-- A list in an array of a fixed size: the rest of the array has one value. Reading past the list gives that value, and storing behind its end makes
-- it longer by one. Assumes nothing.
use Prim.Native.Nat.{ℕ, zero, suc, ◌+◌, ◌-◌, ◌<◌}
use mathlib.Core.Path.{◌≡◌, refl, sym, ap, ◌∙◌}
use mathlib.Core.List.{List, [], ◌∷◌, ◌++◌, append_assoc}
use native.Mathlib.Omega.{arith}
use lib.ListN.{length, get_or, set, replicate, length-append}
use lib.Seq.{set-append_seam}

unfoldable pub padded : {A : Type 0} → ℕ → A → List A → List A
padded size d ws = ws ++ replicate (size - length ws) d

pub rest_read : {A : Type 0} (j k : ℕ) (d : A) → get_or (replicate j d) k d ≡ d
rest_read zero k d = refl
rest_read (suc j) zero d = refl
rest_read (suc j) (suc k) d = rest_read j k d

pub append-read : {A : Type 0} (ws : List A) (j k : ℕ) (d : A) → get_or (ws ++ replicate j d) k d ≡ get_or ws k d
append-read [] j k d = rest_read j k d
append-read (w ∷ ws) j zero d = refl
append-read (w ∷ ws) j (suc k) d = append-read ws j k d

pub padded-read : {A : Type 0} (size : ℕ) (d : A) (ws : List A) (k : ℕ) → get_or (padded size d ws) k d ≡ get_or ws k d
unfolding padded
padded-read size d ws k = append-read ws (size - length ws) k d

pub padded-more : {A : Type 0} (size : ℕ) (d : A) (ws : List A) (x : A) (k : ℕ) → k ≡ length ws → k < size
    → set (padded size d ws) k x ≡ padded size d (ws ++ (x ∷ []))
unfolding padded
padded-more {A} size d ws x k q h =
    let e : size - length ws ≡ suc (size - (length ws + 1)) = omega arith in
    let m : size - (length ws + 1) ≡ size - length (ws ++ (x ∷ [])) = omega (arith, length-append ws (x ∷ [])) in
    ap (λ (n : ℕ). set (ws ++ replicate (size - length ws) d) n x) q
    ∙ (ap (λ (n : ℕ). set (ws ++ replicate n d) (length ws) x) e
    ∙ (set-append_seam ws d (replicate (size - (length ws + 1)) d) x
    ∙ (ap (λ (n : ℕ). ws ++ (x ∷ replicate n d)) m ∙ sym (append_assoc ws (x ∷ []) (replicate (size - length (ws ++ (x ∷ []))) d)))))
