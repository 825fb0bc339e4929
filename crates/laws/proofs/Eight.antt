-- Eight places filled one by one, zeros behind: storing behind the end of the list makes it longer by one. Assumes nothing.
use Prim.Native.Nat.{ℕ, ◌≤◌, ◌<◌}
use mathlib.Core.Path.{◌≡◌, sym, ap, ◌∙◌}
use mathlib.Core.List.{List, [], ◌∷◌, ◌++◌, append_assoc}
use native.Mathlib.Omega.{arith}
use lib.ListN.{length, take, set, replicate, length-append}
use lib.Seq.{take-set-lt, set_at, take-append-le}
use Rattle.paper.specs.Calls.{eight}

-- one zero fewer is enough where something stands in front
eight-fewer : (ys : List ℕ) → 1 ≤ length ys → take 8 (ys ++ replicate 7 0) ≡ eight ys
eight-fewer ys h =
    let l : 8 ≤ length (ys ++ replicate 7 0) = simp length-append (omega arith) in
    sym (take-append-le 8 (ys ++ replicate 7 0) (0 ∷ []) l) ∙ ap (take 8) (append_assoc ys (replicate 7 0) (0 ∷ []))

pub eight-set : (xs : List ℕ) (k v : ℕ) → length xs ≡ k → k < 8 → set (eight xs) k v ≡ eight (xs ++ (v ∷ []))
eight-set xs k v e h =
    let l : 1 ≤ length (xs ++ (v ∷ [])) = simp length-append (omega arith) in
    sym (take-set-lt 8 (xs ++ replicate 8 0) k v h) ∙ ap (take 8) (set_at xs 0 (replicate 7 0) v k e)
    ∙ ap (take 8) (sym (append_assoc xs (v ∷ []) (replicate 7 0))) ∙ eight-fewer (xs ++ (v ∷ [])) l
