-- The search along a bucket, from its last block down. Assumes nothing.
use Rattle.std.specs.Prelude.{Option, Some, None, MatchOption, IfSome}
use Prim.Native.Nat.{ℕ, ◌+◌, ◌-◌, ◌≤◌, ◌<◌}
use mathlib.Core.Path.{◌≡◌, sym, ap, subst, ◌∙◌}
use mathlib.Core.Bool.{Bool, true, false}
use mathlib.Core.List.{List, []}
use native.Mathlib.Omega.{arith}
use lib.Dec.{eqb}
use lib.Pointwise.{pointwise}
use lib.ListN.{length, get_or}
use Rattle.std.specs.Bool.{Decides}
use Rattle.std.specs.Simd.{first_chunks}
use Rattle.std.proofs.lemmas.Slice.Eq.{slice_eq-Decides}
use Rattle.std.proofs.lemmas.Bool.Decides.{Decides-eqb}
use Rattle.slots.specs.Slots.{hash_of, bucket_of, last_below, Holds, number_in}
use Rattle.slots.proofs.Blocks.{chunk-is}
use Rattle.slots.proofs.Numbers.{number-within, number-there}
use Rattle.slots.proofs.Buckets.{bucket-low, last_within, last-there, last-past}

-- one more than a number, 0 for none
abbrev pub place : Option ℕ → ℕ
place None = 0
place (Some i) = i + 1

-- b is none of the blocks from the i-th on, and the one before is of its bucket
pub record Sought (cs : List (List ℕ)) (b : List ℕ) (i : ℕ) : Type 0 where
  pub past : number_in b cs < length cs → number_in b cs < i
  pub alike : 0 < i → bucket_of (get_or cs (i - 1) []) ≡ bucket_of b

-- what a link x leads to below n
abbrev pub Linked : Option ℕ → ℕ → ℕ → Type 0
Linked r x n = MatchOption r (x ≤ n → x ≡ 0) (λ i. (i < n) × (x ≡ i + 1))

linked-place : (r : Option ℕ) (x n : ℕ) → Linked r x n → x ≤ n → place r ≡ x
linked-place None x n h l = sym (h l)
linked-place (Some i) x n h l = sym h.1

pub linked_below : (r : Option ℕ) (x n m : ℕ) → Linked r x n → n ≤ m → IfSome r (λ i. i < m)
linked_below None x n m h l = tt
linked_below (Some i) x n m h l = omega arith

module _ {W X : List ℕ} {cs : List (List ℕ)} (s : Holds W X cs) (b : List ℕ) where
  -- b, where it is there, is of its own bucket
  own : number_in b cs < length cs → bucket_of (get_or cs (number_in b cs) []) ≡ bucket_of b
  own l = ap (λ (c : List ℕ). bucket_of c) (number-there b cs l)

  last-sought : (n : ℕ) → (number_in b cs < length cs → number_in b cs < n) → Sought cs b (last_below cs (bucket_of b) n)
  last-sought n f = record { past = λ l. last-past cs (bucket_of b) n (number_in b cs) (f l) (own l); alike = last-there cs (bucket_of b) n }

  -- the bucket's last block, where k is the bucket
  pub sought-first : (k : ℕ) (r : Option ℕ) → k ≡ bucket_of b → Linked r (get_or X (1024 + k) 0) (length cs) → Sought cs b (place r)
  sought-first k r f h =
      let z : get_or X (1024 + k) 0 ≡ last_below cs (bucket_of b) (length cs) =
      ap (λ (y : ℕ). get_or X (1024 + y) 0) f ∙ s.heads (bucket_of b) (bucket-low b)
      in
      subst (Sought cs b) (sym (linked-place r (get_or X (1024 + k) 0) (length cs) h (omega (arith, z, last_within cs (bucket_of b) (length cs))) ∙ z))
      (last-sought (length cs) (λ l. l))

  module _ (i : ℕ) (v : i < length cs) where
    -- b is not the i-th block: on by its link
    pub sought-on : Sought cs b (i + 1) → (get_or cs i [] ≡ b → ⊥) → (r : Option ℕ) → Linked r (get_or X (512 + i) 0) i → Sought cs b (place r)
    sought-on w d r h =
        let p : i + 1 - 1 ≡ i = omega arith in
        let q : bucket_of (get_or cs i []) ≡ bucket_of b = ap (λ (j : ℕ). bucket_of (get_or cs j [])) (sym p) ∙ w.alike (omega arith) in
        let z : get_or X (512 + i) 0 ≡ last_below cs (bucket_of b) i = s.links i v ∙ ap (λ (k : ℕ). last_below cs k i) q in
        subst (Sought cs b) (sym (linked-place r (get_or X (512 + i) 0) i h (omega (arith, z, last_within cs (bucket_of b) i)) ∙ z))
        (last-sought i (λ l. apart (w.past l) (λ e. d (ap (λ (j : ℕ). get_or cs j []) (sym e) ∙ number-there b cs l))))
      where
        apart : {j : ℕ} → j < i + 1 → (j ≡ i → ⊥) → j < i
        apart {j} h f = omega arith

    -- the test of the i-th of the blocks as the code has them
    module _ {bs : List (List ℕ)} {m : ℕ} {r : Bool} (e : bs ≡ first_chunks 128 m W) (l : 512 ≤ m) (t : r ≡ pointwise eqb (get_or bs i []) b) where
      is-block : get_or bs i [] ≡ get_or cs i []
      is-block = ap (λ (l : List (List ℕ)). get_or l i []) e ∙ chunk-is m W i (omega (arith, s.few)) ∙ s.blocks i v

      tested : Decides r (get_or bs i [] ≡ b)
      tested = slice_eq-Decides Decides-eqb (get_or bs i []) b r t

      pub found_here : r ≡ true → i ≡ number_in b cs
      found_here q = sym (ap (λ (c : List ℕ). number_in c cs) (sym (tested.0 q) ∙ is-block) ∙ s.once i v)

      pub not_same : r ≡ false → get_or cs i [] ≡ b → ⊥
      not_same q f = let y : r ≡ true = tested.1 (is-block ∙ f) in cc

    pub not-hashed : (get_or X i 0 ≡ hash_of b → ⊥) → get_or cs i [] ≡ b → ⊥
    not-hashed d e = d (s.hashes i v ∙ ap (λ (c : List ℕ). hash_of c) e)

-- the bucket has no more
pub sought-none : {cs : List (List ℕ)} (b : List ℕ) → Sought cs b 0 → length cs ≡ number_in b cs
sought-none {cs} b w = whole (λ l. omega (arith, w.past l)) (number-within b cs) where
  whole : {m n : ℕ} → (m < n → ⊥) → m ≤ n → n ≡ m
  whole {m} {n} f h = omega arith
