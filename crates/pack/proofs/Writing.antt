-- Bytes written one after the other from a place on: none yet, one more, and into zeros all. And a list of bytes is that of the layout, if it has each of its parts.
-- Assumes nothing.
use Prim.Native.Nat.{ℕ, ◌+◌, ◌-◌, ◌≤◌, ◌<◌}
use mathlib.Core.List.{List}
use mathlib.Core.Path.{◌≡◌, refl, ap, sym, ◌∙◌}
use native.Mathlib.Omega.{arith}
use lib.ListN.{length, get_or, set}
use lib.Seq.{get_or-set_same, get_or-set_other, ext_get_or}
use Rattle.words.proofs.Marks.{by-lt}
use Rattle.coding.specs.Layout.{low, high, pair, bytes_of}
use Rattle.coding.proofs.Bytes.{bytes-long, at_low, at_high, at_count, at_set, at_pair, at-spare}
use Rattle.pack.specs.Packing.{Wrote}

pub wrote_none : (f : ℕ → ℕ) (a : ℕ) (b : List ℕ) → Wrote f a 0 b b
wrote_none f a b = record { there = λ i h. absurd (omega arith); before = λ i h. refl; behind = λ i h. refl }

module _ {f : ℕ → ℕ} {a n : ℕ} {b b' : List ℕ} (w : Wrote f a n b b') where
  pub wrote-more : (at v : ℕ) → at ≡ a + n → at < length b' → v ≡ f n → Wrote f a (n + 1) b (set b' at v)
  wrote-more at v q h e = record {
    there =
        λ i k.
        by-lt i n (λ l. get_or-set_other b' at (a + i) v 0 (λ z. omega arith) ∙ w.there i l)
        (λ l.
        let z : i ≡ n = omega arith in
        let y : a + i ≡ at = omega arith in
        ap (λ (j : ℕ). get_or (set b' at v) j 0) y ∙ (get_or-set_same b' at v 0 h ∙ (e ∙ ap f (sym z))));
    before = λ i k. get_or-set_other b' at i v 0 (λ z. omega arith) ∙ w.before i k;
    behind = λ i k. get_or-set_other b' at i v 0 (λ z. omega arith) ∙ w.behind i (omega arith);
  }

  -- f is zero from n on, and so are the bytes that it would stand in: all of them are f's
  pub wrote-all : (z : ℕ) → ((i : ℕ) → n ≤ i → f i ≡ 0) → ((i : ℕ) → a + n ≤ i → i < z → get_or b i 0 ≡ 0) → (i : ℕ) → a + i < z → get_or b' (a + i) 0 ≡ f i
  wrote-all z zero-f zero-b i h =
      by-lt i n (w.there i) (λ k. w.behind (a + i) (omega arith) ∙ (zero-b (a + i) (omega arith) h ∙ sym (zero-f i (omega arith))))

module _ (w : List ℕ) (k : ℕ) (m b : List ℕ) where
  -- the parts of the layout, each in its place
  pub by_parts : length b ≡ 128 → ((i : ℕ) → i < 96 → get_or b i 0 ≡ low w i) → ((j : ℕ) → j < 24 → get_or b (96 + j) 0 ≡ high w j)
      → get_or b 120 0 ≡ length w → get_or b 121 0 ≡ k → ((j : ℕ) → j < 4 → get_or b (122 + j) 0 ≡ pair m j) → ((i : ℕ) → 126 ≤ i → get_or b i 0 ≡ 0)
      → b ≡ bytes_of w k m
  by_parts l lows highs count set marks spare =
      ext_get_or 0 b (bytes_of w k m) (l ∙ sym (bytes-long w k m))
      (λ i h.
      by-lt i 96 (λ u. lows i u ∙ sym (at_low w k m i u))
      (λ u.
      by-lt i 120
      (λ v.
      let z : 96 + (i - 96) ≡ i = omega arith in
      rw z at (highs (i - 96) (omega arith) ∙ sym (at_high w k m (i - 96) (omega arith))))
      (λ v.
      by-lt i 121
      (λ x. let z : i ≡ 120 = omega arith in rw z (count ∙ sym (at_count w k m)))
      (λ x.
      by-lt i 122
      (λ y. let z : i ≡ 121 = omega arith in rw z (set ∙ sym (at_set w k m)))
      (λ y.
      by-lt i 126
      (λ t.
      let z : 122 + (i - 122) ≡ i = omega arith in
      rw z at (marks (i - 122) (omega arith) ∙ sym (at_pair w k m (i - 122) (omega arith))))
      (λ t. spare i (omega arith) ∙ sym (at-spare w k m i (omega arith))))))))
