-- The bytes of the layout read back: each byte by its place, the word from the low and the high bits of its units, the set from its number, the
-- memory from its marks. Each is a list by its places (`at-tab`), and a digit of a number is the digit that was put there. Assumes nothing.
use Prim.Native.Nat.{ℕ, zero, suc, ◌+◌, ◌-◌, ◌*◌, ◌/◌, ◌%◌, ◌^◌, ◌≤◌, ◌<◌}
use mathlib.Core.Bool.{Bool, true, false, cond, ◌||◌}
use mathlib.Core.List.{List, [], ◌∷◌, map}
use mathlib.Core.Path.{◌≡◌, refl, sym, ap, subst, ◌∙◌}
use native.Mathlib.Nat.{add-zero, pow-suc}
use native.Mathlib.Omega.{arith}
use lib.Dec.{T, eqb, ltb, eqb_refl}
use lib.ListN.{length, get_or, get_or-eq_default}
use lib.Seq.{ext_get_or}
use borrow.Author.Tests.{lt-ltb, le-ltb, ne_eqb, eqb-true}
use Rattle.paper.specs.Lists.{with_if, has, keep, from, below}
use Rattle.paper.specs.Table.{flag}
use Rattle.laws.proofs.Kept.{both_ways}
use Rattle.laws.proofs.Letters.{has_here, has_there}
use Rattle.words.proofs.Marks.{by-lt}
use Rattle.coding.specs.Layout.{low, high_of, high, pair, byte_of, bytes_of, unit_in, word_in, mark_in, marks_in, set_number, set_of, place_in, marks_of, events_of}

-- ---- a list by its places

at_from : (f : ℕ → ℕ) (k n i : ℕ) → i < n → get_or (map f (from k n)) i 0 ≡ f (k + i)
unfolding from
at_from f k zero i h = absurd (omega arith)
at_from f k (suc n) zero h = ap f (sym (add-zero k))
at_from f k (suc n) (suc i) h = let e : suc k + i ≡ k + suc i = omega arith in at_from f (suc k) n i (omega arith) ∙ ap f e

length_from : (f : ℕ → ℕ) (k n : ℕ) → length (map f (from k n)) ≡ n
unfolding from
length_from f k zero = refl
length_from f k (suc n) = ap suc (length_from f (suc k) n)

pub at-tab : (f : ℕ → ℕ) (n i : ℕ) → i < n → get_or (map f (below n)) i 0 ≡ f i
unfolding below
at-tab f n i h = let e : 0 + i ≡ i = omega arith in at_from f 0 n i h ∙ ap f e

pub length-tab : (f : ℕ → ℕ) (n : ℕ) → length (map f (below n)) ≡ n
unfolding below
length-tab f n = length_from f 0 n

-- places that say the list w
tab-is : (f : ℕ → ℕ) (w : List ℕ) → ((i : ℕ) → i < length w → f i ≡ get_or w i 0) → map f (below (length w)) ≡ w
tab-is f w h =
    let n = length-tab f (length w) in
    ext_get_or 0 (map f (below (length w))) w n (λ i u. let v : i < length w = omega arith in at-tab f (length w) i v ∙ h i v)

-- ---- each byte by its place

module _ (w : List ℕ) (k : ℕ) (m : List ℕ) where
  pub bytes-long : length (bytes_of w k m) ≡ 128
  unfolding bytes_of
  bytes-long = length-tab (byte_of w k m) 128

  at_byte : (i : ℕ) → i < 128 → get_or (bytes_of w k m) i 0 ≡ byte_of w k m i
  unfolding bytes_of
  at_byte i h = at-tab (byte_of w k m) 128 i h

  pub at_low : (i : ℕ) → i < 96 → get_or (bytes_of w k m) i 0 ≡ low w i
  unfolding byte_of
  at_low i h = at_byte i (omega arith) ∙ rw (lt-ltb i 96 h)

  pub at_high : (j : ℕ) → j < 24 → get_or (bytes_of w k m) (96 + j) 0 ≡ high w j
  unfolding byte_of
  at_high j h =
      let e : 96 + j - 96 ≡ j = omega arith in
      at_byte (96 + j) (omega arith) ∙ rw (le-ltb (96 + j) 96 (omega arith), lt-ltb (96 + j) 120 (omega arith), e)

  pub at_count : get_or (bytes_of w k m) 120 0 ≡ length w
  unfolding byte_of
  at_count = at_byte 120 (omega arith)

  pub at_set : get_or (bytes_of w k m) 121 0 ≡ k
  unfolding byte_of
  at_set = at_byte 121 (omega arith)

  pub at_pair : (j : ℕ) → j < 4 → get_or (bytes_of w k m) (122 + j) 0 ≡ pair m j
  unfolding byte_of
  at_pair j h =
      let e : 122 + j - 122 ≡ j = omega arith in
      at_byte (122 + j) (omega arith)
      ∙ rw (le-ltb (122 + j) 96 (omega arith), le-ltb (122 + j) 120 (omega arith), ne_eqb (122 + j) 120 (λ q. omega arith), ne_eqb (122 + j) 121 (λ q. omega arith), lt-ltb (122 + j) 126 (omega arith), e)

  pub at-spare : (i : ℕ) → 126 ≤ i → get_or (bytes_of w k m) i 0 ≡ 0
  unfolding byte_of
  at-spare i h =
      by-lt i 128
      (λ u.
      at_byte i u
      ∙ rw (le-ltb i 96 (omega arith), le-ltb i 120 (omega arith), ne_eqb i 120 (λ q. omega arith), ne_eqb i 121 (λ q. omega arith), le-ltb i 126 h))
      (λ u. get_or-eq_default (bytes_of w k m) 0 {n = i} (omega (arith, bytes-long)))

  -- ---- the word

  module _ (small : (i : ℕ) → get_or w i 0 < 1024) where
    -- the digit of unit i among the four of its byte
    digit : (i r : ℕ) → i % 4 ≡ r → high w (i / 4) / 4 ^ (3 - r) % 4 ≡ high_of w i
    digit i zero e =
        let p : 4 * (i / 4) ≡ i = omega arith in
        let a = small (4 * (i / 4)) in
        let b = small (4 * (i / 4) + 1) in
        let c = small (4 * (i / 4) + 2) in
        let d = small (4 * (i / 4) + 3) in
        subst (λ (n : ℕ). high w (i / 4) / 64 % 4 ≡ high_of w n) p (omega arith)
    digit i (suc zero) e =
        let p : 4 * (i / 4) + 1 ≡ i = omega arith in
        let b = small (4 * (i / 4) + 1) in
        let c = small (4 * (i / 4) + 2) in
        let d = small (4 * (i / 4) + 3) in
        subst (λ (n : ℕ). high w (i / 4) / 16 % 4 ≡ high_of w n) p (omega arith)
    digit i (suc (suc zero)) e =
        let p : 4 * (i / 4) + 2 ≡ i = omega arith in
        let c = small (4 * (i / 4) + 2) in
        let d = small (4 * (i / 4) + 3) in
        subst (λ (n : ℕ). high w (i / 4) / 4 % 4 ≡ high_of w n) p (omega arith)
    digit i (suc (suc (suc zero))) e =
        let p : 4 * (i / 4) + 3 ≡ i = omega arith in
        let d = small (4 * (i / 4) + 3) in
        subst (λ (n : ℕ). high w (i / 4) / 1 % 4 ≡ high_of w n) p (omega arith)
    digit i (suc (suc (suc (suc r)))) e = absurd (omega arith)

    pub unit-back : (i : ℕ) → i < 96 → unit_in (bytes_of w k m) i ≡ get_or w i 0
    unit-back i h =
        let q : i / 4 < 24 = omega arith in
        let d = digit i (i % 4) refl in
        rw (at_low i h, at_high (i / 4) q, d) (omega arith)

    pub word_back : length w ≤ 96 → word_in (bytes_of w k m) ≡ w
    unfolding word_in
    word_back h = rw at_count (tab-is (unit_in (bytes_of w k m)) w (λ i u. unit-back i (omega arith)))

  -- ---- the memory's marks

  module _ (small : (i : ℕ) → get_or m i 0 < 16) where
    half : (i r : ℕ) → i % 2 ≡ r → pair m (i / 2) / 16 ^ (1 - r) % 16 ≡ get_or m i 0
    half i zero e =
        let p : 2 * (i / 2) ≡ i = omega arith in
        let a = small (2 * (i / 2)) in
        let b = small (2 * (i / 2) + 1) in
        subst (λ (n : ℕ). pair m (i / 2) / 16 % 16 ≡ get_or m n 0) p (omega arith)
    half i (suc zero) e =
        let p : 2 * (i / 2) + 1 ≡ i = omega arith in
        let b = small (2 * (i / 2) + 1) in
        subst (λ (n : ℕ). pair m (i / 2) / 1 % 16 ≡ get_or m n 0) p (omega arith)
    half i (suc (suc r)) e = absurd (omega arith)

    pub mark-back : (i : ℕ) → i < 8 → mark_in (bytes_of w k m) i ≡ get_or m i 0
    mark-back i h = let q : i / 2 < 4 = omega arith in rw (at_pair (i / 2) q) (half i (i % 2) refl)

-- ---- the stopped set

set-one : (b : Bool) (n m : ℕ) (ms : List ℕ) → with_if (eqb ((flag b + 2 * n) % 2) 1) m (set_of ms ((flag b + 2 * n) / 2)) ≡ with_if b m (set_of ms n)
set-one true n m ms =
    let e : (1 + 2 * n) % 2 ≡ 1 = omega arith in
    let d : (1 + 2 * n) / 2 ≡ n = omega arith in
    rw (e, d)
set-one false n m ms =
    let e : (0 + 2 * n) % 2 ≡ 0 = omega arith in
    let d : (0 + 2 * n) / 2 ≡ n = omega arith in
    rw (e, d)

pub set_back : (ms xs : List ℕ) → set_of ms (set_number ms xs) ≡ keep (λ m. has m xs) ms
unfolding set_of set_number keep
set_back [] xs = refl
set_back (m ∷ ms) xs = set-one (has m xs) (set_number ms xs) m ms ∙ ap (λ (l : List ℕ). with_if (has m xs) m l) (set_back ms xs)

pub set-none : (ms : List ℕ) → set_number ms [] ≡ 0
unfolding set_number has
set-none [] = refl
set-none (m ∷ ms) = rw (set-none ms)

flag-bit : (b : Bool) → flag b < 2
flag-bit true = omega arith
flag-bit false = omega arith

pub set-small : (ms xs : List ℕ) → set_number ms xs < 2 ^ length ms
unfolding set_number
set-small [] xs = omega arith
set-small (m ∷ ms) xs = rw (pow-suc 2 (length ms)) (omega (arith, set-small ms xs, flag-bit (has m xs)))

-- ---- the memory

pub place_is : (es : List ℕ) (e : ℕ) → T (has e es) → (place_in es e < length es) × (get_or es (place_in es e) 0 ≡ e)
unfolding has place_in
place_is [] e h = absurd h
place_is (x ∷ xs) e h = go (eqb e x) refl h (place_is xs e)
  where
    go : (b : Bool) → eqb e x ≡ b → T (b || has e xs) → (T (has e xs) → (place_in xs e < length xs) × (get_or xs (place_in xs e) 0 ≡ e))
        → (cond b 0 (suc (place_in xs e)) < suc (length xs)) × (get_or (x ∷ xs) (cond b 0 (suc (place_in xs e))) 0 ≡ e)
    go true q t ih = (omega arith, sym (eqb-true e x q))
    go false q t ih = let r = ih t in (omega arith, r.1)

pub marks-long : (es xs : List ℕ) → length (marks_of es xs) ≡ length xs
unfolding marks_of
marks-long es [] = refl
marks-long es (x ∷ xs) = ap suc (marks-long es xs)

pub marks-small : (es xs : List ℕ) → length es ≤ 8 → ((e : ℕ) → T (has e xs) → T (has e es)) → (i : ℕ) → get_or (marks_of es xs) i 0 < 16
unfolding marks_of
marks-small es [] h a i = omega arith
marks-small es (x ∷ xs) h a zero = omega (arith, place_is es x (a x (has_here x x xs (eqb_refl x))))
marks-small es (x ∷ xs) h a (suc i) = marks-small es xs h (λ e t. a e (has_there e x xs t)) i

-- marks in their places, zeros behind them
events-from : (es xs : List ℕ) (f : ℕ → ℕ) (k n : ℕ) → length xs ≤ n → ((e : ℕ) → T (has e xs) → T (has e es))
    → ((i : ℕ) → i < n → f (k + i) ≡ get_or (marks_of es xs) i 0) → events_of es (map f (from k n)) ≡ xs
unfolding from marks_of events_of
events-from es [] f k zero l a h = refl
events-from es [] f k (suc n) l a h = rw (ap f (sym (add-zero k)) ∙ h 0 (omega arith))
events-from es (x ∷ xs) f k zero l a h = absurd (omega arith)
events-from es (x ∷ xs) f k (suc n) l a h =
    let more : (i : ℕ) → i < n → f (suc k + i) ≡ get_or (marks_of es xs) i 0 =
    λ i u. let e : suc k + i ≡ k + suc i = omega arith in ap f e ∙ h (suc i) (omega arith)
    in
    rw (ap f (sym (add-zero k)) ∙ h 0 (omega arith), (place_is es x (a x (has_here x x xs (eqb_refl x)))).1, events-from es xs f (suc k) n (omega arith) (λ e t. a e (has_there e x xs t)) more)

module _ (w : List ℕ) (k : ℕ) (es xs : List ℕ) (few : length es ≤ 8) (short : length xs ≤ 8) (known : (e : ℕ) → T (has e xs) → T (has e es)) where
  pub events-back : events_of es (marks_in (bytes_of w k (marks_of es xs))) ≡ xs
  unfolding marks_in below
  events-back =
      events-from es xs (mark_in (bytes_of w k (marks_of es xs))) 0 8 short known
      (λ i h. let e : 0 + i ≡ i = omega arith in rw e (mark-back w k (marks_of es xs) (marks-small es xs few known) i h))

-- ---- they are bytes

module _ (w : List ℕ) (k : ℕ) (m : List ℕ) (units : (i : ℕ) → get_or w i 0 < 1024) (long : length w ≤ 96) (set : k < 256) (marks : (i : ℕ) → get_or m i 0 < 16) where
  low_small : (i : ℕ) → low w i < 256
  low_small i = omega arith

  high_small : (j : ℕ) → high w j < 256
  high_small j = omega (arith, units (4 * j), units (4 * j + 1), units (4 * j + 2), units (4 * j + 3))

  pair_small : (j : ℕ) → pair m j < 256
  pair_small j = omega (arith, marks (2 * j), marks (2 * j + 1))

  byte_small : (i : ℕ) → byte_of w k m i < 256
  unfolding byte_of
  byte_small i =
      both_ways (λ x. x < 256) (ltb i 96) _ _ (low_small i)
      (both_ways (λ x. x < 256) (ltb i 120) _ _ (high_small (i - 96))
      (both_ways (λ x. x < 256) (eqb i 120) _ _ (omega arith)
      (both_ways (λ x. x < 256) (eqb i 121) _ _ set (both_ways (λ x. x < 256) (ltb i 126) _ _ (pair_small (i - 122)) (omega arith)))))

  pub bytes_small : (i : ℕ) → get_or (bytes_of w k m) i 0 < 256
  bytes_small i =
      by-lt i 128 (λ h. rw (at_byte w k m i h) (byte_small i))
      (λ h. omega (arith, get_or-eq_default (bytes_of w k m) 0 {n = i} (omega (arith, bytes-long w k m))))
