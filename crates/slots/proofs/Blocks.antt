-- Blocks of a list of bytes: when one is b, what a copy makes of them. For callers: at first none is held (`holds-none`), each that is held has 128 bytes
-- (`holds-long`).
-- Assumes nothing.
use Prim.Native.Nat.{ℕ, zero, suc, ◌+◌, ◌*◌, ◌≤◌, ◌<◌}
use mathlib.Core.Path.{◌≡◌, refl, sym, ap, subst, ◌∙◌}
use mathlib.Core.Bool.{Bool, true, false}
use mathlib.Core.List.{List, [], ◌∷◌, ◌++◌, append_assoc}
use native.Mathlib.Nat.{suc-add, zero-add}
use native.Mathlib.Omega.{arith}
use lib.Dec.{T}
use lib.ListN.{length, get_or, take, drop, length-drop}
use lib.Seq.{drop-drop, take-take, take-nil, take_all, take_at, drop_at, length-take-le, paste}
use Rattle.std.specs.Simd.{first_chunks}
use Rattle.paper.specs.Lists.{eq_l}
use Rattle.paper.proofs.Equal.{eq_l-sound, eq_l-refl}
use Rattle.slots.specs.Slots.{block, last_below, Holds}

-- ---- the test of equality

pub test-true : (b c : List ℕ) → c ≡ b → true ≡ eq_l b c
test-true b c e = known (eq_l b c) (subst (λ (x : List ℕ). T (eq_l b x)) (sym e) (eq_l-refl b)) where
  known : (t : Bool) → T t → true ≡ t
  known true h = refl
  known false h = absurd h

pub test-false : (b c : List ℕ) → (c ≡ b → ⊥) → false ≡ eq_l b c
test-false b c d = known (eq_l b c) (λ h. d (sym (eq_l-sound b c h))) where
  known : (t : Bool) → (T t → ⊥) → false ≡ t
  known true h = absurd (h tt)
  known false h = refl

-- ---- the blocks of a list, n of them

pub chunk-is : (n : ℕ) (W : List ℕ) (i : ℕ) → i < n → get_or (first_chunks 128 n W) i [] ≡ block W i
chunk-is zero W i h = absurd (omega arith)
chunk-is (suc n) W zero h = refl
chunk-is (suc n) W (suc i) h =
    let e : 128 + 128 * i ≡ 128 * suc i = omega arith in
    chunk-is n (drop 128 W) i (omega arith) ∙ ap (take 128) (drop-drop (128 * i) 128 W ∙ ap (λ (k : ℕ). drop k W) e)

-- ---- the bytes of a part

module _ (W : List ℕ) (at : ℕ) (fits : at + 128 ≤ length W) where
  pub part-long : length (take 128 (drop at W)) ≡ 128
  part-long = length-take-le 128 (drop at W) (omega (arith, length-drop at W))

-- ---- a copy behind the first n blocks

drop-take : (n m : ℕ) (l : List ℕ) → drop n (take (n + m) l) ≡ take m (drop n l)
drop-take zero m l = ap (λ (k : ℕ). take k l) (zero-add m)
drop-take (suc n) m [] = ap (drop (suc n)) (take-nil (suc n + m)) ∙ sym (take-nil m)
drop-take (suc n) m (x ∷ xs) = ap (λ (k : ℕ). drop (suc n) (take k (x ∷ xs))) (suc-add n m) ∙ drop-take n m xs

-- the first n blocks are in the first 128 * n bytes
block-front : (W : List ℕ) (n i : ℕ) → i < n → block W i ≡ drop (128 * i) (take (128 * i + 128) (take (128 * n) W))
block-front W n i h =
    sym (drop-take (128 * i) 128 W) ∙ ap (drop (128 * i)) (sym (take-take (128 * i + 128) (128 * n) W (omega arith)))

module _ (W b : List ℕ) (n : ℕ) (fits : 128 * n + 128 ≤ length W) (long : length b ≡ 128) where
  front_long : length (take (128 * n) W) ≡ 128 * n
  front_long = length-take-le (128 * n) W (omega arith)

  pasted : paste W (128 * n) b 128 ≡ take (128 * n) W ++ (take 128 b ++ drop (128 * n + 128) W)
  pasted = append_assoc (take (128 * n) W) (take 128 b) (drop (128 * n + 128) W)

  pub paste-before : (i : ℕ) → i < n → block (paste W (128 * n) b 128) i ≡ block W i
  paste-before i h =
      let e : take (128 * n) (paste W (128 * n) b 128) ≡ take (128 * n) W =
      ap (take (128 * n)) pasted ∙ take_at (take (128 * n) W) (take 128 b ++ drop (128 * n + 128) W) (128 * n) front_long
      in
      block-front (paste W (128 * n) b 128) n i h
      ∙ ap (λ (l : List ℕ). drop (128 * i) (take (128 * i + 128) l)) e
      ∙ sym (block-front W n i h)

  pub paste-there : block (paste W (128 * n) b 128) n ≡ b
  paste-there =
      let e : take 128 b ≡ b = take_all 128 b (omega arith) in
      ap (λ (l : List ℕ). take 128 (drop (128 * n) l)) pasted
      ∙ ap (take 128) (drop_at (take (128 * n) W) (take 128 b ++ drop (128 * n + 128) W) (128 * n) front_long)
      ∙ take_at (take 128 b) (drop (128 * n + 128) W) 128 (ap length e ∙ long)
      ∙ e

-- ---- the blocks held

-- at first there are none, and no bucket has one
pub holds-none : (W X : List ℕ) → ((k : ℕ) → k < 512 → get_or X (1024 + k) 0 ≡ 0) → Holds W X []
unfolding last_below
holds-none W X z = record {
  blocks = λ i h. absurd (omega arith);
  hashes = λ i h. absurd (omega arith);
  links = λ i h. absurd (omega arith);
  heads = z;
  once = λ i h. absurd (omega arith);
  few = omega arith;
}

pub holds-long : {W X : List ℕ} {cs : List (List ℕ)} → 65536 ≤ length W → Holds W X cs → (i : ℕ) → i < length cs → length (get_or cs i []) ≡ 128
holds-long {W} l s i h = ap length (sym (s.blocks i h)) ∙ part-long W (128 * i) (omega (arith, s.few))
