-- What the loops over the bytes read: marks, bits, units, events. Assumes nothing.
use Prim.Native.Nat.{ℕ, zero, suc, ◌+◌, ◌-◌, ◌*◌, ◌/◌, ◌%◌, ◌^◌, ◌≤◌, ◌<◌}
use mathlib.Core.Bool.{Bool, true, false, not, ◌&&◌}
use mathlib.Core.List.{List, [], ◌∷◌, map}
use mathlib.Core.Path.{◌≡◌, refl, sym, ap, subst, ◌∙◌}
use native.Mathlib.Numerals.{add-one}
use native.Mathlib.Omega.{arith}
use lib.Dec.{T}
use lib.Bits.{bit_and, and_mask}
use lib.ListN.{length, drop, get_or, set, take, length-set, drop_of_length-le, length-drop}
use lib.Pow.{shr-shr}
use Rattle.std.specs.Prelude.{◌==◌}
use Rattle.std.specs.List.{All, list_any}
use Rattle.std.proofs.lemmas.Grind.{common_steps}
use Rattle.std.proofs.lemmas.Bool.Decides.{nat_tests}
use lib.Seq.{ext_get_or, get_or-take, get_or-drop, take_all, drop-cons, get_or-set_same, get_or-set_other}
use borrow.Author.Tests.{lt-ltb}
use Rattle.paper.specs.Lists.{has, below}
use Rattle.laws.proofs.Has.{list_any-has}
use Rattle.laws.proofs.Letters.{false-not}
use Rattle.nodes.proofs.Choice.{by-eq}
use Rattle.words.proofs.Marks.{by-lt}
use Rattle.rewrite.proofs.Leading.{stored-cons}
use Rattle.react.specs.States.{stopped_of, Flags}
use Rattle.coding.specs.Layout.{unit_in, word_in, mark_in, set_of}
use Rattle.coding.proofs.Bytes.{at-tab, length-tab}
use Rattle.unpack.specs.Unpacking.{Leads, Limited, fresh}
use Rattle.unpack.proofs.Letters.{fresh-drop, fresh-cons}

-- ---- two bits of a byte, and half of one

pub two_bits : (x r : ℕ) → r < 4 → bit_and (x / 2 ^ (6 - 2 * r)) 3 ≡ x / 4 ^ (3 - r) % 4
two_bits x zero h = and_mask (x / 64) 2
two_bits x (suc zero) h = and_mask (x / 16) 2
two_bits x (suc (suc zero)) h = and_mask (x / 4) 2
two_bits x (suc (suc (suc zero))) h = and_mask (x / 1) 2
two_bits x (suc (suc (suc (suc r)))) h = absurd (omega arith)

-- the two marks of the i-th pair, behind those of the pairs before
pub marks-more : (b M : List ℕ) (i u v : ℕ) → length M ≡ 8 → i < 4 → get_or b (122 + i) 0 < 256 → ((k : ℕ) → k < 2 * i → get_or M k 0 ≡ mark_in b k)
    → u ≡ get_or (take 4 (drop 122 b)) i 0 / 16 → v ≡ bit_and (get_or (take 4 (drop 122 b)) i 0) 15
    → (k : ℕ) → k < 2 * (i + 1) → get_or (set (set M (2 * i) u) (2 * i + 1) v) k 0 ≡ mark_in b k
marks-more b M i u v l h small before eu ev k lk =
    let x : ℕ = get_or b (122 + i) 0 in
    let at : get_or (take 4 (drop 122 b)) i 0 ≡ x = get_or-take 4 (drop 122 b) i 0 h ∙ get_or-drop 122 b i 0 in
    by-eq k (2 * i + 1)
    (λ e.
    let d : (2 * i + 1) / 2 ≡ i = omega arith in
    let m : (2 * i + 1) % 2 ≡ 1 = omega arith in
    rw e (get_or-set_same (set M (2 * i) u) (2 * i + 1) v 0 (simp length-set (omega arith)) ∙ (ev ∙ (ap (λ (n : ℕ). bit_and n 15) at ∙ (and_mask x 4 ∙ rw (d, m) (omega arith))))))
    (λ n.
    get_or-set_other (set M (2 * i) u) (2 * i + 1) k v 0 n
    ∙ by-eq k (2 * i)
    (λ e.
    let d : (2 * i) / 2 ≡ i = omega arith in
    let m : (2 * i) % 2 ≡ 0 = omega arith in
    rw e (get_or-set_same M (2 * i) u 0 (omega arith) ∙ (eu ∙ (ap (λ (n : ℕ). n / 16) at ∙ rw (d, m) (omega arith)))))
    (λ m. get_or-set_other M (2 * i) k u 0 m ∙ before k (omega arith)))

-- ---- bits

pub stopped-bits : (ms fs : List ℕ) (k : ℕ) → length ms ≤ length fs → ((i : ℕ) → i < length ms → get_or fs i 0 ≡ k / 2 ^ i % 2) → stopped_of ms fs ≡ set_of ms k
unfolding stopped_of set_of
stopped-bits [] fs k l h = refl
stopped-bits (m ∷ ms) [] k l h = absurd (omega arith)
stopped-bits (m ∷ ms) (f ∷ fs) k l h =
    let e : f ≡ k % 2 = h 0 (omega arith) ∙ omega arith in
    let more : (i : ℕ) → i < length ms → get_or fs i 0 ≡ k / 2 / 2 ^ i % 2 =
    λ i u.
    let z : suc i ≡ 1 + i = omega arith in
    h (suc i) (omega arith) ∙ (ap (λ (x : ℕ). k / 2 ^ x % 2) z ∙ ap (λ (x : ℕ). x % 2) (sym (shr-shr k 1 i)))
    in
    rw (e, stopped-bits ms fs (k / 2) (omega arith) more)

pub bits-flags : (n k : ℕ) (fs : List ℕ) → ((i : ℕ) → i < n → get_or fs i 0 ≡ k / 2 ^ i % 2) → ((i : ℕ) → n ≤ i → get_or fs i 0 ≡ 0) → Flags n fs
bits-flags n k fs a b i = (by-lt i n (λ h. omega (arith, a i h)) (λ h. omega (arith, b i h)), b i)

-- ---- the units

pub filled : (b D : List ℕ) → length D ≡ get_or b 120 0 → ((i : ℕ) → i < length D → get_or D i 0 ≡ unit_in b i) → D ≡ word_in b
unfolding word_in
filled b D l h =
    ext_get_or 0 D (map (unit_in b) (below (get_or b 120 0))) (l ∙ sym (length-tab (unit_in b) (get_or b 120 0)))
    (λ i k. h i k ∙ sym (at-tab (unit_in b) (get_or b 120 0) i (omega arith)))

-- ---- fresh, event by event

module _ (fs : List Bool) (xs : List ℕ) (i : ℕ) (h : i < length xs) where
  abbrev e : ℕ
  e = get_or xs i 0

  abbrev behind : List ℕ
  behind = drop (i + 1) xs

  fresh-at : fresh fs (drop i xs) ≡ ((not (has e behind) && not (get_or fs e false)) && fresh fs behind)
  unfolding fresh
  fresh-at = ap (fresh fs) (drop-cons xs i 0 h ∙ ap (λ (n : ℕ). e ∷ drop n xs) (sym (add-one i)))

  pub fresh-fugitive : get_or fs e false ≡ true → fresh fs (drop i xs) ≡ false
  fresh-fugitive f = rw (fresh-at, f) (off (not (has e behind)))
    where
      off : (b : Bool) → ((b && false) && fresh fs behind) ≡ false
      off true = refl
      off false = refl

  -- r is whether the event is among those behind, as the code tests it
  module _ (r : Bool) (t : r ≡ list_any (λ y. y == e) (take (length xs - (i + 1)) behind)) where
    again : r ≡ has e behind
    again = t ∙ ap (list_any (λ y. y == e)) (take_all (length xs - (i + 1)) behind (omega (arith, length-drop (i + 1) xs))) ∙ list_any-has e behind

    pub fresh-twice : r ≡ true → fresh fs (drop i xs) ≡ false
    fresh-twice q = rw (fresh-at, sym again, q)

    pub fresh-on : get_or fs e false ≡ false → r ≡ false → fresh fs (drop i xs) ≡ fresh fs behind
    fresh-on f q = rw (fresh-at, sym again, q, f)

pub fresh-none : (fs : List Bool) (xs : List ℕ) (i : ℕ) → length xs ≤ i → true ≡ fresh fs (drop i xs)
unfolding fresh
fresh-none fs xs i h = rw (drop_of_length-le xs {i = i} h)

-- and of a memory of n events, from the end: at the i-th of them
false_of : (b : Bool) → (T b → ⊥) → b ≡ false
false_of true h = absurd (h tt)
false_of false h = refl

both-off : (a b : Bool) → ((a && false) && b) ≡ false
both-off true b = refl
both-off false b = refl

module _ (fs : List Bool) (ev : List ℕ) (n i : ℕ) (h : 0 < i) (l : i ≤ n) (k : n ≤ length ev) where
  abbrev last : ℕ
  last = get_or ev (i - 1) 0

  back : i - 1 + 1 ≡ i
  back = omega arith

  cons : drop (i - 1) (take n ev) ≡ last ∷ drop (i - 1 + 1) (take n ev)
  cons = stored-cons ev n (i - 1) (omega arith) k

  pub fresh-more : fresh fs (drop i (take n ev)) ≡ true → get_or fs last false ≡ false → false ≡ has last (drop (i - 1 + 1) (take n ev)) → fresh fs (drop (i - 1) (take n ev)) ≡ true
  fresh-more a b c = rw cons (fresh-cons fs last (drop (i - 1 + 1) (take n ev)) (sym c) b (rw back a))

  -- the test fails at the event at hand, so it fails of all
  fails : (fresh fs (last ∷ drop (i - 1 + 1) (take n ev)) ≡ false) → false ≡ fresh fs (take n ev)
  fails f = sym (false_of (fresh fs (take n ev)) (λ t. false-not (fresh fs (last ∷ drop (i - 1 + 1) (take n ev))) f (subst (λ (x : List ℕ). T (fresh fs x)) cons (fresh-drop fs (i - 1) (take n ev) t))))

  pub all-fugitive : get_or fs last false ≡ true → false ≡ fresh fs (take n ev)
  unfolding fresh
  all-fugitive b = fails (rw b (both-off (not (has last (drop (i - 1 + 1) (take n ev)))) _))

  pub all-twice : true ≡ has last (drop (i - 1 + 1) (take n ev)) → false ≡ fresh fs (take n ev)
  unfolding fresh
  all-twice c = fails (rw (sym c))

pub fresh-all : (fs : List Bool) (i : ℕ) (m : List ℕ) → i ≤ 0 → fresh fs (drop i m) ≡ true → true ≡ fresh fs m
fresh-all fs i m h e = let z : i ≡ 0 = omega arith in sym (subst (λ (x : ℕ). fresh fs (drop x m) ≡ true) z e)

-- ---- the memory

-- marks that were read: M the list of them
module _ (b M : List ℕ) (same : (i : ℕ) → i < 8 → get_or M i 0 ≡ mark_in b i) (c : ℕ) (few : c ≤ 8) where
  pub leads-read : ((i : ℕ) → i < c → get_or M i 0 ≡ 0 → ⊥) → (c < 8 → get_or M c 0 ≡ 0) → Leads b c
  leads-read h z = record { few = few; marks = λ i l e. h i l (same i (omega arith) ∙ e); stop = λ l. sym (same c l) ∙ z l }

  module _ (n : ℕ) (long : length M ≡ 8) where
    pub limited_read : All (λ m. m ≤ n) (take c M) → All (λ m. m ≡ 0) (drop c M) → Limited b c n
    limited_read f z i h = grind (arith, common_steps, nat_tests, same i h, f i 0, z (i - c) 0)

    pub read_limited : Limited b c n → All (λ m. m ≤ n) (take c M) × All (λ m. m ≡ 0) (drop c M)
    read_limited l = (
      λ i d h. grind (arith, common_steps, nat_tests, same i, l i),
      λ i d h. grind (arith, common_steps, nat_tests, same (c + i), l (c + i)),
    )

-- a mark that leads is a place in the list
pub mark-place : (b : List ℕ) (c n i : ℕ) → Leads b c → Limited b c n → i < c → (1 ≤ mark_in b i) × (mark_in b i ≤ n)
mark-place b c n i a l h =
    let t : mark_in b i ≤ n = rw (lt-ltb i c h) at (l i (omega (arith, a.few))) in
    let d = a.marks i h in
    (omega arith, t)
