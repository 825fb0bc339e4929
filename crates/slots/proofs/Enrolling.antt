-- The three ways that `enroll` goes: a block that is known, one that is new where all 512 places are taken, one that is put.
-- Assumes nothing.
use Prim.Native.Nat.{ℕ, ◌+◌, ◌*◌, ◌/◌, ◌≤◌, ◌<◌}
use mathlib.Core.Path.{◌≡◌, refl, sym, ap, subst, ◌∙◌}
use mathlib.Core.Bool.{Bool, true, false, ◌||◌}
use mathlib.Core.List.{List, [], ◌∷◌, ◌++◌}
use native.Mathlib.Omega.{arith}
use lib.Dec.{T, T_not, ltb, eqb, ltb→lt, lt→ltb, nltb→le, eqb→eq, eqb_refl}
use lib.ListN.{length, get_or, set, length-set, length-append, get_or-append}
use lib.Seq.{paste, get_or-append_seam, get_or-set_same, get_or-set_other}
use Rattle.paper.proofs.Choices.{by-test}
use Rattle.slots.specs.declared.Enrolled.{Enrolled}
use Rattle.slots.specs.Slots.{hash_of, bucket_of, block, last_below, Holds, number_in, enrolled, Enrolls, Full}
use Rattle.slots.proofs.Numbers.{number-within, number_append, number-new}
use Rattle.slots.proofs.Buckets.{bucket-low, last-append, last-new, last-other}
use Rattle.slots.proofs.Blocks.{paste-before, paste-there}

-- ---- what is enrolled

or_left : (x y : Bool) → T x → T (x || y)
or_left true y t = tt
or_left false y t = absurd t

or_right : (x y : Bool) → T y → T (x || y)
or_right true y t = tt
or_right false y t = t

or-none : (x y : Bool) → (T x → ⊥) → (T y → ⊥) → T (x || y) → ⊥
or-none true y h k t = h tt
or-none false y h k t = k t

module _ (cs : List (List ℕ)) (b : List ℕ) where
  abbrev known : Bool
  known = ltb (number_in b cs) (length cs)

  abbrev full : Bool
  full = eqb (length cs) 512

  enrolled-stays : T (known || full) → enrolled cs b ≡ cs
  unfolding enrolled
  enrolled-stays h =
      by-test (λ (l : List (List ℕ)). l ≡ cs) (known || full) (λ u. cs) (λ u. cs ++ b ∷ []) (λ t. refl) (λ t. absurd (T_not (known || full) t h))

  pub enrolled-known : number_in b cs < length cs → enrolled cs b ≡ cs
  enrolled-known h = enrolled-stays (or_left known full (lt→ltb (number_in b cs) (length cs) h))

  pub enrolled-full : length cs ≡ 512 → enrolled cs b ≡ cs
  enrolled-full e = enrolled-stays (or_right known full (subst (λ (n : ℕ). T (eqb n 512)) (sym e) (eqb_refl 512)))

  pub enrolled-new : (number_in b cs < length cs → ⊥) → (length cs ≡ 512 → ⊥) → enrolled cs b ≡ cs ++ b ∷ []
  unfolding enrolled
  enrolled-new h d =
      by-test (λ (l : List (List ℕ)). l ≡ cs ++ b ∷ []) (known || full) (λ u. cs) (λ u. cs ++ b ∷ [])
      (λ t. absurd (or-none known full (λ u. h (ltb→lt (number_in b cs) (length cs) u)) (λ u. d (eqb→eq (length cs) 512 u)) t)) (λ t. refl)

-- ---- the three ways

module _ {W X : List ℕ} {cs : List (List ℕ)} (s : Holds W X cs) (b : List ℕ) where
  -- nothing was written
  pub enrolls-kept : (r : Enrolled) → enrolled cs b ≡ cs → r.number ≡ number_in b cs → r.count ≡ length cs → Enrolls cs b W X r
  enrolls-kept r e n k = record { number_is = n; count_is = k ∙ ap length (sym e); holds = rw e s }

  -- b is known, and nothing was written
  pub enrolls-known : (r : Enrolled) → r.number ≡ number_in b cs → r.number < r.count → length cs ≡ r.count → Enrolls cs b W X r
  enrolls-known r n l k =
      let e : enrolled cs b ≡ cs = enrolled-known cs b (omega arith) in
      record { number_is = n; count_is = sym k ∙ ap length (sym e); holds = rw e s }

  -- no room
  pub full_here : length cs ≡ 512 → number_in b cs ≡ length cs → Full cs b W X
  full_here e n = record { number_is = n ∙ e; holds = rw (enrolled-full cs b e) s }

  module _ (room : 65536 ≤ length W) (places : 1536 ≤ length X) (long : length b ≡ 128) (space : length cs < 512) where
    abbrev n : ℕ
    n = length cs

    abbrev k : ℕ
    k = bucket_of b

    -- the index with b behind the others
    abbrev X₁ : List ℕ
    X₁ = set X n (hash_of b)

    abbrev X₂ : List ℕ
    X₂ = set X₁ (512 + n) (get_or X (1024 + k) 0)

    abbrev X₃ : List ℕ
    X₃ = set X₂ (1024 + k) (n + 1)

    snoc-long : length (cs ++ b ∷ []) ≡ n + 1
    snoc-long = length-append cs (b ∷ [])

    before : (i : ℕ) → i < n → get_or (cs ++ b ∷ []) i [] ≡ get_or cs i []
    before i h = get_or-append cs (b ∷ []) [] i h

    behind : get_or (cs ++ b ∷ []) n [] ≡ b
    behind = get_or-append_seam cs b [] []

    by_last : (P : ℕ → Type 0) → ((i : ℕ) → i < n → P i) → P n → (i : ℕ) → i < length (cs ++ b ∷ []) → P i
    by_last P f z i h =
        by-test (λ (x : ℕ). P i) (ltb i n) (λ u. 0) (λ u. 0) (λ t. f i (ltb→lt i n t))
        (λ t. let e : n ≡ i = omega (arith, snoc-long, nltb→le i n t) in subst P e z)

    -- what was not written
    left : (i : ℕ) → (i ≡ n → ⊥) → (i ≡ 512 + n → ⊥) → (i ≡ 1024 + k → ⊥) → get_or X₃ i 0 ≡ get_or X i 0
    left i p q r =
        get_or-set_other X₂ (1024 + k) i (n + 1) 0 r
        ∙ (get_or-set_other X₁ (512 + n) i (get_or X (1024 + k) 0) 0 q ∙ get_or-set_other X n i (hash_of b) 0 p)

    at-hash : get_or X₃ n 0 ≡ hash_of b
    at-hash =
        get_or-set_other X₂ (1024 + k) n (n + 1) 0 (λ e. omega arith)
        ∙ (get_or-set_other X₁ (512 + n) n (get_or X (1024 + k) 0) 0 (λ e. omega arith) ∙ get_or-set_same X n (hash_of b) 0 (omega arith))

    at-link : get_or X₃ (512 + n) 0 ≡ get_or X (1024 + k) 0
    at-link =
        get_or-set_other X₂ (1024 + k) (512 + n) (n + 1) 0 (λ e. omega arith)
        ∙ get_or-set_same X₁ (512 + n) (get_or X (1024 + k) 0) 0 (omega (arith, length-set X n (hash_of b)))

    at_head : get_or X₃ (1024 + k) 0 ≡ n + 1
    at_head =
        get_or-set_same X₂ (1024 + k) (n + 1) 0
        (omega (arith, bucket-low b, length-set X n (hash_of b), length-set X₁ (512 + n) (get_or X (1024 + k) 0)))

    new-links : (i : ℕ) → i < length (cs ++ b ∷ []) → get_or X₃ (512 + i) 0 ≡ last_below (cs ++ b ∷ []) (bucket_of (get_or (cs ++ b ∷ []) i [])) i
    new-links =
        by_last (λ i. get_or X₃ (512 + i) 0 ≡ last_below (cs ++ b ∷ []) (bucket_of (get_or (cs ++ b ∷ []) i [])) i)
        (λ i h.
        left (512 + i) (λ e. omega arith) (λ e. omega arith) (λ e. omega arith)
        ∙ (s.links i h
        ∙ (sym (last-append cs (b ∷ []) (bucket_of (get_or cs i [])) i (omega arith))
        ∙ ap (λ (c : List ℕ). last_below (cs ++ b ∷ []) (bucket_of c) i) (sym (before i h)))))
        (at-link
        ∙ (s.heads k (bucket-low b)
        ∙ (sym (last-append cs (b ∷ []) k n (omega arith)) ∙ ap (λ (c : List ℕ). last_below (cs ++ b ∷ []) (bucket_of c) n) (sym behind))))

    new-heads : (j : ℕ) → j < 512 → get_or X₃ (1024 + j) 0 ≡ last_below (cs ++ b ∷ []) j (length (cs ++ b ∷ []))
    new-heads j h =
        by-test (λ (x : ℕ). get_or X₃ (1024 + j) 0 ≡ last_below (cs ++ b ∷ []) j (length (cs ++ b ∷ []))) (eqb k j) (λ u. 0) (λ u. 0)
        (λ t.
        let e : k ≡ j = eqb→eq k j t in
        ap (λ (i : ℕ). get_or X₃ (1024 + i) 0) (sym e) ∙ (at_head ∙ (sym (last-new cs b j e) ∙ ap (last_below (cs ++ b ∷ []) j) (sym snoc-long))))
        (λ t.
        let d : k ≡ j → ⊥ = λ e. T_not (eqb k j) t (subst (λ (i : ℕ). T (eqb k i)) e (eqb_refl k)) in
        left (1024 + j) (λ e. omega arith) (λ e. omega arith) (λ e. d (omega arith))
        ∙ (s.heads j h ∙ (sym (last-other cs b j d) ∙ ap (last_below (cs ++ b ∷ []) j) (sym snoc-long))))

    new-once : n ≤ number_in b cs → (i : ℕ) → i < length (cs ++ b ∷ []) → number_in (get_or (cs ++ b ∷ []) i []) (cs ++ b ∷ []) ≡ i
    new-once l =
        by_last (λ i. number_in (get_or (cs ++ b ∷ []) i []) (cs ++ b ∷ []) ≡ i)
        (λ i h.
        ap (λ (c : List ℕ). number_in c (cs ++ b ∷ [])) (before i h)
        ∙ (number_append (get_or cs i []) cs (b ∷ []) (omega (arith, s.once i h)) ∙ s.once i h))
        (ap (λ (c : List ℕ). number_in c (cs ++ b ∷ [])) behind ∙ number-new b cs (omega (arith, number-within b cs)))

    holds-put : n ≤ number_in b cs → Holds (paste W (128 * n) b 128) X₃ (cs ++ b ∷ [])
    holds-put l = record {
      blocks =
          by_last (λ i. block (paste W (128 * n) b 128) i ≡ get_or (cs ++ b ∷ []) i [])
          (λ i h. paste-before W b n (omega arith) long i h ∙ (s.blocks i h ∙ sym (before i h)))
          (paste-there W b n (omega arith) long ∙ sym behind);
      hashes =
          by_last (λ i. get_or X₃ i 0 ≡ hash_of (get_or (cs ++ b ∷ []) i []))
          (λ i h.
          left i (λ e. omega arith) (λ e. omega arith) (λ e. omega arith)
          ∙ (s.hashes i h ∙ ap (λ (c : List ℕ). hash_of c) (sym (before i h))))
          (at-hash ∙ ap (λ (c : List ℕ). hash_of c) (sym behind));
      links = new-links;
      heads = new-heads;
      once = new-once l;
      few = omega (arith, snoc-long);
    }

    -- b was put behind the others, as the code has it: m blocks so far, h the hash, j its bucket
    pub enrolls-put : (W' : List ℕ) (m h j : ℕ) → length cs ≡ m → h ≡ hash_of b → j ≡ h / 8388608 → W' ≡ paste W (128 * m) b 128 → m ≡ number_in b cs
        → Enrolls cs b W' (set (set (set X m h) (512 + m) (get_or (set X m h) (1024 + j) 0)) (1024 + j) (m + 1)) (record { number = m; count = m + 1 })
    enrolls-put W' m h j e f g p q =
        let z : enrolled cs b ≡ cs ++ b ∷ [] = enrolled-new cs b (λ u. omega arith) (λ u. omega arith) in
        let l : get_or (set X m h) (1024 + j) 0 ≡ get_or X (1024 + j) 0 = get_or-set_other X m (1024 + j) h 0 (λ u. omega arith) in
        record { number_is = q; count_is = omega (arith, ap length z, snoc-long); holds = rw (l, z, p, g, f, ← e) (holds-put (omega arith)) }
