-- Bytes coded again: the number of the set that a number says is that number, the marks of the events that marks say are those marks, and so the bytes
-- of what bytes say are those bytes, where nothing stands that should be zero. Assumes nothing.
use Prim.Native.Nat.{ℕ, zero, suc, ◌+◌, ◌-◌, ◌*◌, ◌/◌, ◌%◌, ◌^◌, ◌≤◌, ◌<◌}
use mathlib.Core.Bool.{Bool, true, false, cond}
use mathlib.Core.List.{List, [], ◌∷◌}
use mathlib.Core.Path.{◌≡◌, refl, sym, ap, subst, ◌∙◌}
use native.Mathlib.Nat.{pow-suc}
use native.Mathlib.Omega.{arith}
use lib.Dec.{T, eqb, ltb, eqb_refl}
use lib.ListN.{length, get_or}
use lib.Seq.{ext_get_or}
use borrow.Author.Tests.{lt-ltb, le-ltb, eq-eqb, ne_eqb}
use Rattle.paper.specs.Lists.{with_if, has}
use Rattle.paper.specs.Table.{flag}
use Rattle.laws.proofs.Letters.{has_here, has_there, Once}
use Rattle.nodes.proofs.Choice.{by-eq}
use Rattle.words.proofs.Marks.{by-lt}
use Rattle.coding.specs.Layout.{high_of, byte_of, bytes_of, unit_in, mark_in, set_number, set_of, place_in, marks_of, events_of}
use Rattle.coding.proofs.Bytes.{at-tab, bytes-long}
use Rattle.coding.proofs.Letters.{by-or}
use Rattle.unpack.proofs.Letters.{has_get_d}

-- ---- the set's number

low_bit : (k : ℕ) → flag (eqb (k % 2) 1) + 2 * (k / 2) ≡ k
low_bit k = by-eq (k % 2) 1 (λ e. rw (eq-eqb (k % 2) 1 e) (omega arith)) (λ d. rw (ne_eqb (k % 2) 1 d) (omega arith))

set-part : (n : ℕ) (ms : List ℕ) (k : ℕ) → T (has n (set_of ms k)) → T (has n ms)
unfolding set_of has
set-part n [] k t = t
set-part n (m ∷ ms) k t = go (eqb (k % 2) 1) t (set-part n ms (k / 2))
  where
    go : (b : Bool) → T (has n (with_if b m (set_of ms (k / 2)))) → (T (has n (set_of ms (k / 2))) → T (has n ms)) → T (has n (m ∷ ms))
    go true u ih = by-or (eqb n m) (has n (set_of ms (k / 2))) u (λ h. has_here n m ms h) (λ h. has_there n m ms (ih h))
    go false u ih = has_there n m ms (ih u)

number-skip : (m : ℕ) (ms xs : List ℕ) → (T (has m ms) → ⊥) → set_number ms (m ∷ xs) ≡ set_number ms xs
unfolding set_number has
number-skip m [] xs d = refl
number-skip m (n ∷ ms) xs d =
    rw (
      ne_eqb n m (λ e. d (has_here m n ms (subst (λ (y : ℕ). T (eqb m y)) (sym e) (eqb_refl m)))),
      number-skip m ms xs (λ t. d (has_there m n ms t)),
    )

number-first : (b : Bool) (m : ℕ) (ms xs : List ℕ) → (T (has m ms) → ⊥) → (T (has m xs) → ⊥) → set_number (m ∷ ms) (with_if b m xs) ≡ flag b + 2 * set_number ms xs
unfolding set_number has
number-first true m ms xs d e = rw (eq-eqb m m refl, number-skip m ms xs d)
number-first false m ms xs d e = ap (λ (c : Bool). flag c + 2 * set_number ms xs) (off (has m xs) e)
  where
    off : (c : Bool) → (T c → ⊥) → c ≡ false
    off true h = absurd (h tt)
    off false h = refl

pub number-back : (ms : List ℕ) → Once ms → (k : ℕ) → k < 2 ^ length ms → set_number ms (set_of ms k) ≡ k
unfolding set_number set_of Once
number-back [] o k h = omega arith
number-back (m ∷ ms) o k h =
    let l : k / 2 < 2 ^ length ms = let z : k < 2 ^ length ms * 2 = rw pow-suc at h in omega arith in
    number-first (eqb (k % 2) 1) m ms (set_of ms (k / 2)) o.0 (λ t. o.0 (set-part m ms (k / 2) t))
    ∙ (ap (λ (x : ℕ). flag (eqb (k % 2) 1) + 2 * x) (number-back ms o.1 (k / 2) l) ∙ low_bit k)

-- ---- the memory's marks

place_of : (es : List ℕ) (n : ℕ) → Once es → n < length es → place_in es (get_or es n 0) ≡ n
unfolding place_in Once
place_of [] n o h = absurd (omega arith)
place_of (x ∷ xs) zero o h = rw (eq-eqb x x refl)
place_of (x ∷ xs) (suc n) o h =
    rw (
      ne_eqb (get_or xs n 0) x (λ e. o.0 (subst (λ (y : ℕ). T (has y xs)) e (has_get_d xs n (omega arith)))),
      place_of xs n o.1 (omega arith),
    )

limit-suc : (i c : ℕ) → ltb (suc i) (suc c) ≡ ltb i c
limit-suc i c =
    by-lt i c (λ h. lt-ltb (suc i) (suc c) (omega arith) ∙ sym (lt-ltb i c h))
    (λ h. le-ltb (suc i) (suc c) (omega arith) ∙ sym (le-ltb i c h))

pub limit-most : (b : Bool) (x n : ℕ) → x ≤ cond b n 0 → x ≤ n
limit-most true x n h = h
limit-most false x n h = omega arith

module _ (es : List ℕ) (once : Once es) where
  pub marks-again : (ns : List ℕ) (c : ℕ) → ((i : ℕ) → i < c → get_or ns i 0 ≡ 0 → ⊥) → ((i : ℕ) → get_or ns i 0 ≤ cond (ltb i c) (length es) 0)
      → (i : ℕ) → get_or (marks_of es (events_of es ns)) i 0 ≡ get_or ns i 0
  unfolding marks_of events_of
  marks-again [] c a l i = refl
  marks-again (zero ∷ ns) c a l i =
      by-lt 0 c (λ h. absurd (a 0 h refl))
      (λ h. let z : get_or (zero ∷ ns) i 0 ≤ 0 = rw (le-ltb i c (omega arith)) at (l i) in let y : get_or (zero ∷ ns) i 0 ≡ 0 = omega arith in sym y)
  marks-again (suc n ∷ ns) zero a l i = absurd (let z = l 0 in omega (arith, limit-none (suc n) (length es) z))
    where
      limit-none : (x m : ℕ) → x ≤ cond (ltb 0 0) m 0 → x ≤ 0
      limit-none x m h = h
  marks-again (suc n ∷ ns) (suc c) a l zero =
      let h = limit-most (ltb 0 (suc c)) (suc n) (length es) (l 0) in ap suc (place_of es n once (omega arith))
  marks-again (suc n ∷ ns) (suc c) a l (suc i) =
      marks-again ns c (λ j h. a (suc j) (omega arith))
      (λ j. subst (λ (b : Bool). get_or ns j 0 ≤ cond b (length es) 0) (limit-suc j c) (l (suc j))) i

module _ (es : List ℕ) where
  pub events-long : (ns : List ℕ) (c : ℕ) → c ≤ length ns → ((i : ℕ) → i < c → get_or ns i 0 ≡ 0 → ⊥) → (c < length ns → get_or ns c 0 ≡ 0) → length (events_of es ns) ≡ c
  unfolding events_of
  events-long [] c l a s = omega arith
  events-long (zero ∷ ns) zero l a s = refl
  events-long (zero ∷ ns) (suc c) l a s = absurd (a 0 (omega arith) refl)
  events-long (suc n ∷ ns) zero l a s = absurd (let z : suc n ≡ 0 = s (omega arith) in omega arith)
  events-long (suc n ∷ ns) (suc c) l a s = ap suc (events-long ns c (omega arith) (λ i h. a (suc i) (omega arith)) (λ h. s (omega arith)))

  pub events-at : (ns : List ℕ) (i c : ℕ) → i < c → ((j : ℕ) → j < c → get_or ns j 0 ≡ 0 → ⊥) → get_or (events_of es ns) i 0 ≡ get_or es (get_or ns i 0 - 1) 0
  unfolding events_of
  events-at [] i c h a = absurd (a i h refl)
  events-at (zero ∷ ns) i c h a = absurd (a 0 (omega arith) refl)
  events-at (suc n ∷ ns) zero c h a = let z : suc n - 1 ≡ n = omega arith in rw z
  events-at (suc n ∷ ns) (suc i) c h a = events-at ns i (c - 1) (omega arith) (λ j u. a (suc j) (omega arith))

-- ---- the bytes

low_of : (x d : ℕ) → x < 256 → (x + d * 256) % 256 ≡ x
low_of x d h = omega arith

high-of : (x d : ℕ) → x < 256 → (x + d * 256) / 256 ≡ d
high-of x d h = omega arith

four : (x : ℕ) → x < 256 → x / 64 % 4 * 64 + x / 16 % 4 * 16 + x / 4 % 4 * 4 + x / 1 % 4 ≡ x
four x h =
    let a : x / 64 % 4 ≡ x / 64 = omega arith in
    let b : x / 16 % 4 + 4 * (x / 64) ≡ x / 16 = let z : x / 16 / 4 ≡ x / 64 = omega arith in omega arith in
    let c : x / 4 % 4 + 4 * (x / 16) ≡ x / 4 = let z : x / 4 / 4 ≡ x / 16 = omega arith in omega arith in
    let d : x / 1 % 4 + 4 * (x / 4) ≡ x = omega arith in
    rw a (sums (x / 64) (x / 16) (x / 4) (x / 16 % 4) (x / 4 % 4) (x / 1 % 4) b c d)
  where
    sums : (p q r b c d : ℕ) → b + 4 * p ≡ q → c + 4 * q ≡ r → d + 4 * r ≡ x → p * 64 + b * 16 + c * 4 + d ≡ x
    sums p q r b c d e f g = omega arith

two : (x : ℕ) → x < 256 → x / 16 % 16 * 16 + x / 1 % 16 ≡ x
two x h = omega arith

module _ (b us ns : List ℕ) (small : (i : ℕ) → get_or b i 0 < 256) (units : (i : ℕ) → i < 96 → get_or us i 0 ≡ unit_in b i) (marks : (i : ℕ) → i < 8 → get_or ns i 0 ≡ mark_in b i) where
  low_byte : (i : ℕ) → i < 96 → get_or us i 0 % 256 ≡ get_or b i 0
  low_byte i h = ap (λ (x : ℕ). x % 256) (units i h) ∙ low_of (get_or b i 0) _ (small i)

  digit : (j r : ℕ) → j < 24 → r < 4 → high_of us (4 * j + r) ≡ get_or b (96 + j) 0 / 4 ^ (3 - r) % 4
  digit j r h l =
      let d : (4 * j + r) / 4 ≡ j = omega arith in
      let m : (4 * j + r) % 4 ≡ r = omega arith in
      ap (λ (x : ℕ). x / 256) (units (4 * j + r) (omega arith)) ∙ (high-of (get_or b (4 * j + r) 0) _ (small (4 * j + r)) ∙ rw (d, m))

  high_byte : (j : ℕ) → j < 24 → high_of us (4 * j) * 64 + high_of us (4 * j + 1) * 16 + high_of us (4 * j + 2) * 4 + high_of us (4 * j + 3) ≡ get_or b (96 + j) 0
  high_byte j h =
      let z : 4 * j + 0 ≡ 4 * j = omega arith in
      let a : high_of us (4 * j) ≡ get_or b (96 + j) 0 / 64 % 4 = subst (λ (x : ℕ). high_of us x ≡ get_or b (96 + j) 0 / 64 % 4) z (digit j 0 h (omega arith)) in
      let c : high_of us (4 * j + 1) ≡ get_or b (96 + j) 0 / 16 % 4 = digit j 1 h (omega arith) in
      let d : high_of us (4 * j + 2) ≡ get_or b (96 + j) 0 / 4 % 4 = digit j 2 h (omega arith) in
      let e : high_of us (4 * j + 3) ≡ get_or b (96 + j) 0 / 1 % 4 = digit j 3 h (omega arith) in
      rw (a, c, d, e) (four (get_or b (96 + j) 0) (small (96 + j)))

  half : (j r : ℕ) → j < 4 → r < 2 → get_or ns (2 * j + r) 0 ≡ get_or b (122 + j) 0 / 16 ^ (1 - r) % 16
  half j r h l =
      let d : (2 * j + r) / 2 ≡ j = omega arith in
      let m : (2 * j + r) % 2 ≡ r = omega arith in
      marks (2 * j + r) (omega arith) ∙ rw (d, m)

  pair-byte : (j : ℕ) → j < 4 → get_or ns (2 * j) 0 * 16 + get_or ns (2 * j + 1) 0 ≡ get_or b (122 + j) 0
  pair-byte j h =
      let z : 2 * j + 0 ≡ 2 * j = omega arith in
      let a : get_or ns (2 * j) 0 ≡ get_or b (122 + j) 0 / 16 % 16 = subst (λ (x : ℕ). get_or ns x 0 ≡ get_or b (122 + j) 0 / 16 % 16) z (half j 0 h (omega arith)) in
      let c : get_or ns (2 * j + 1) 0 ≡ get_or b (122 + j) 0 / 1 % 16 = half j 1 h (omega arith) in
      rw (a, c) (two (get_or b (122 + j) 0) (small (122 + j)))

  module _ (many : length us ≡ get_or b 120 0) (spare : (get_or b 126 0 ≡ 0) × (get_or b 127 0 ≡ 0)) where
    abbrev Is : ℕ → Type 0
    Is i = byte_of us (get_or b 121 0) ns i ≡ get_or b i 0

    -- the bytes behind the word's
    tail : (i : ℕ) → 120 ≤ i → i < 128 → Is i
    unfolding byte_of
    tail i l h =
        by-eq i 120 (λ e. subst Is (sym e) many)
        (λ d.
        by-eq i 121 (λ e. subst Is (sym e) refl)
        (λ d'.
        by-lt i 126
        (λ u.
        let z : 122 + (i - 122) ≡ i = omega arith in
        rw (le-ltb i 96 (omega arith), le-ltb i 120 l, ne_eqb i 120 d, ne_eqb i 121 d', lt-ltb i 126 u)
        (pair-byte (i - 122) (omega arith) ∙ ap (λ (x : ℕ). get_or b x 0) z))
        (λ u. by-eq i 126 (λ e. subst Is (sym e) (sym spare.0)) (λ x. let e : i ≡ 127 = omega arith in subst Is (sym e) (sym spare.1)))))

    byte : (i : ℕ) → i < 128 → Is i
    unfolding byte_of
    byte i h =
        by-lt i 96 (λ u. rw (lt-ltb i 96 u) (low_byte i u))
        (λ u.
        by-lt i 120
        (λ v.
        let z : 96 + (i - 96) ≡ i = omega arith in
        rw (le-ltb i 96 u, lt-ltb i 120 v) (high_byte (i - 96) (omega arith) ∙ ap (λ (x : ℕ). get_or b x 0) z))
        (λ v. tail i v h))

    pub bytes_back : length b ≡ 128 → bytes_of us (get_or b 121 0) ns ≡ b
    unfolding bytes_of
    bytes_back long =
        let n = bytes-long us (get_or b 121 0) ns in
        ext_get_or 0 (bytes_of us (get_or b 121 0) ns) b (n ∙ sym long)
        (λ i h. let l : i < 128 = omega arith in at-tab (byte_of us (get_or b 121 0) ns) 128 i l ∙ byte i l)
