-- The columns of a table with one node more: those of the new node are what was given, all others are as before, and one node more is counted.
-- Each is a read behind five stores, whose places differ because there are fewer than 192 nodes. Assumes nothing.
use Prim.Native.Nat.{ℕ, ◌+◌, ◌≤◌, ◌<◌}
use mathlib.Core.List.{List}
use mathlib.Core.Path.{◌≡◌, ◌∙◌}
use native.Mathlib.Omega.{arith}
use lib.ListN.{length, get_or, set, length-set}
use lib.Seq.{get_or-set_same, get_or-set_other}
use Rattle.laws.specs.Nodes.{kind, left, right, letter, count}
use Rattle.nodes.specs.Made.{append}

-- after the stores one by one
abbrev kind_set : List ℕ → ℕ → List ℕ
kind_set P k = set P (count P) k

abbrev left_set : List ℕ → ℕ → ℕ → List ℕ
left_set P k l = set (kind_set P k) (count P + 192) l

abbrev right_set : List ℕ → ℕ → ℕ → ℕ → List ℕ
right_set P k l r = set (left_set P k l) (count P + 384) r

abbrev letter_set : List ℕ → ℕ → ℕ → ℕ → ℕ → List ℕ
letter_set P k l r a = set (right_set P k l r) (count P + 576) a

module _ (P : List ℕ) (k l r a : ℕ) (long : length P ≡ 768) (some : 1 ≤ count P) (room : count P ≤ 191) where
  pub append-long : length (append P k l r a) ≡ 768
  unfolding append
  append-long = simp length-set long

  -- a place that is none of the five
  append-other : (j : ℕ) → (j ≡ count P → ⊥) → (j ≡ count P + 192 → ⊥) → (j ≡ count P + 384 → ⊥) → (j ≡ count P + 576 → ⊥) → (j ≡ 576 → ⊥)
      → get_or (append P k l r a) j 0 ≡ get_or P j 0
  unfolding append
  append-other j n₁ n₂ n₃ n₄ n₅ =
      get_or-set_other (letter_set P k l r a) 576 j (count P + 1) 0 n₅
      ∙ (get_or-set_other (right_set P k l r) (count P + 576) j a 0 n₄
      ∙ (get_or-set_other (left_set P k l) (count P + 384) j r 0 n₃
      ∙ (get_or-set_other (kind_set P k) (count P + 192) j l 0 n₂ ∙ get_or-set_other P (count P) j k 0 n₁)))

  pub kind-old : (i : ℕ) → i < 192 → (i ≡ count P → ⊥) → kind (append P k l r a) i ≡ kind P i
  kind-old i h d = append-other i d (λ e. omega arith) (λ e. omega arith) (λ e. omega arith) (λ e. omega arith)

  pub left-old : (i : ℕ) → i < 192 → (i ≡ count P → ⊥) → left (append P k l r a) i ≡ left P i
  left-old i h d =
      append-other (i + 192) (λ e. omega arith) (λ e. d (omega arith)) (λ e. omega arith) (λ e. omega arith) (λ e. omega arith)

  pub right-old : (i : ℕ) → i < 192 → (i ≡ count P → ⊥) → right (append P k l r a) i ≡ right P i
  right-old i h d =
      append-other (i + 384) (λ e. omega arith) (λ e. omega arith) (λ e. d (omega arith)) (λ e. omega arith) (λ e. omega arith)

  pub letter-old : (i : ℕ) → 0 < i → i < 192 → (i ≡ count P → ⊥) → letter (append P k l r a) i ≡ letter P i
  letter-old i o h d =
      append-other (i + 576) (λ e. omega arith) (λ e. omega arith) (λ e. omega arith) (λ e. d (omega arith)) (λ e. omega arith)

  pub count-new : count (append P k l r a) ≡ count P + 1
  unfolding append
  count-new = get_or-set_same (letter_set P k l r a) 576 (count P + 1) 0 (simp length-set (omega arith))

  pub letter-new : letter (append P k l r a) (count P) ≡ a
  unfolding append
  letter-new =
      get_or-set_other (letter_set P k l r a) 576 (count P + 576) (count P + 1) 0 (λ e. omega arith)
      ∙ get_or-set_same (right_set P k l r) (count P + 576) a 0 (simp length-set (omega arith))

  pub right_new : right (append P k l r a) (count P) ≡ r
  unfolding append
  right_new =
      get_or-set_other (letter_set P k l r a) 576 (count P + 384) (count P + 1) 0 (λ e. omega arith)
      ∙ (get_or-set_other (right_set P k l r) (count P + 576) (count P + 384) a 0 (λ e. omega arith)
      ∙ get_or-set_same (left_set P k l) (count P + 384) r 0 (simp length-set (omega arith)))

  pub left-new : left (append P k l r a) (count P) ≡ l
  unfolding append
  left-new =
      get_or-set_other (letter_set P k l r a) 576 (count P + 192) (count P + 1) 0 (λ e. omega arith)
      ∙ (get_or-set_other (right_set P k l r) (count P + 576) (count P + 192) a 0 (λ e. omega arith)
      ∙ (get_or-set_other (left_set P k l) (count P + 384) (count P + 192) r 0 (λ e. omega arith)
      ∙ get_or-set_same (kind_set P k) (count P + 192) l 0 (simp length-set (omega arith))))

  pub kind-new : kind (append P k l r a) (count P) ≡ k
  unfolding append
  kind-new =
      get_or-set_other (letter_set P k l r a) 576 (count P) (count P + 1) 0 (λ e. omega arith)
      ∙ (get_or-set_other (right_set P k l r) (count P + 576) (count P) a 0 (λ e. omega arith)
      ∙ (get_or-set_other (left_set P k l) (count P + 384) (count P) r 0 (λ e. omega arith)
      ∙ (get_or-set_other (kind_set P k) (count P + 192) (count P) l 0 (λ e. omega arith) ∙ get_or-set_same P (count P) k 0 (omega arith))))
