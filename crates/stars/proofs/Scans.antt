-- A turn of each loop over the nodes. The pass over all nodes is the pass from node i on, over the worths of the nodes before it and the least place
-- among those that passed; the array holds just these worths. Assumes nothing.
use Prim.Native.Nat.{ℕ, zero, suc, ◌+◌, ◌-◌, ◌<◌, ◌≤◌, min}
use mathlib.Core.Path.{◌≡◌, refl, sym, ap, ◌∙◌}
use mathlib.Core.Bool.{cond}
use mathlib.Core.List.{List, [], ◌∷◌, ◌++◌}
use native.Mathlib.Numerals.{add-one}
use native.Mathlib.Omega.{arith}
use lib.ListN.{length, take, get_or, set, replicate, length-append}
use lib.Seq.{slice, slice-cons}
use Rattle.stars.specs.Nodes.{far, Rule, scan}
use Rattle.letters.proofs.Turns.{slice-end}
use Rattle.letters.proofs.Padded.{padded, rest_read, padded-read, padded-more}

-- at node i, after the worths ws, with the least place m
pub record Passed {A : Type 0} (r : Rule A) (code left place : List ℕ) (n i : ℕ) (ws : List A) (m : ℕ) : Type 0 where
  pub long : length ws ≡ i
  pub least : m ≤ far
  pub rest : scan r (take n code) (take n left) (take n place) [] far ≡ scan r (slice i n code) (slice i n left) (slice i n place) ws m

pub passed_none : {A : Type 0} (r : Rule A) (code left place : List ℕ) (n : ℕ) → Passed r code left place n 0 [] far
passed_none r code left place n = record { long = refl; least = omega arith; rest = refl }

slice-one : (l : List ℕ) (i n : ℕ) → i < n → n ≤ length l → slice i n l ≡ get_or l i 0 ∷ slice (i + 1) n l
slice-one l i n h k = slice-cons i n l 0 h k ∙ ap (λ (j : ℕ). get_or l i 0 ∷ slice j n l) (sym (add-one i))

-- the arrays have all n nodes
pub record Held (code left place : List ℕ) (n : ℕ) : Type 0 where
  pub long_code : n ≤ length code
  pub long_left : n ≤ length left
  pub long_place : n ≤ length place

module _ {A : Type 0} (r : Rule A) (code left place : List ℕ) (n : ℕ) (held : Held code left place n) where
  pub passed-more : (i : ℕ) (ws : List A) (m : ℕ) → Passed r code left place n i ws m → i < n → (m' : ℕ)
      → m' ≡ min m (cond (r.passes (get_or code i 0) (get_or ws (get_or left i 0) r.none_yet) (get_or ws (i - 1) r.none_yet)) (get_or place i 0) far)
      → m' ≤ far
      → Passed r code left place n (i + 1)
      (ws ++ (r.worth (get_or code i 0) (get_or ws (get_or left i 0) r.none_yet) (get_or ws (i - 1) r.none_yet) ∷ [])) m'
  unfolding scan
  passed-more i ws m p h m' e f =
      let c = get_or code i 0 in
      let y = get_or ws (get_or left i 0) r.none_yet in
      record {
        long = length-append ws (r.worth c y (get_or ws (i - 1) r.none_yet) ∷ []) ∙ ap (λ (k : ℕ). k + 1) p.long;
        least = f;
        rest =
            p.rest
            ∙ (ap (λ (x : List ℕ). scan r x (slice i n left) (slice i n place) ws m) (slice-one code i n h held.long_code)
            ∙ (ap (λ (x : List ℕ). scan r (c ∷ slice (i + 1) n code) x (slice i n place) ws m) (slice-one left i n h held.long_left)
            ∙ (ap (λ (x : List ℕ). scan r (c ∷ slice (i + 1) n code) (get_or left i 0 ∷ slice (i + 1) n left) x ws m) (slice-one place i n h held.long_place)
            ∙ (ap
            (λ (k : ℕ).
            scan r (slice (i + 1) n code) (slice (i + 1) n left) (slice (i + 1) n place)
            (ws ++ (r.worth c y (get_or ws (k - 1) r.none_yet) ∷ []))
            (min m (cond (r.passes c y (get_or ws (k - 1) r.none_yet)) (get_or place i 0) far)))
            p.long
            ∙ ap
            (λ (k : ℕ).
            scan r (slice (i + 1) n code) (slice (i + 1) n left) (slice (i + 1) n place)
            (ws ++ (r.worth c y (get_or ws (i - 1) r.none_yet) ∷ [])) k)
            (sym e)))));
      }

  pub passed-end : (i : ℕ) (ws : List A) (m : ℕ) → Passed r code left place n i ws m → n ≤ i
      → scan r (take n code) (take n left) (take n place) [] far ≡ m
  unfolding scan
  passed-end i ws m p h =
      p.rest ∙ ap (λ (x : List ℕ). scan r x (slice i n left) (slice i n place) ws m) (slice-end code i n held.long_code h)

-- with the worths in an array of 256 places
pub record Scanned {A : Type 0} (r : Rule A) (code left place : List ℕ) (n i : ℕ) (array : List A) (m : ℕ) : Type 0 where
  pub worths : List A
  pub passed : Passed r code left place n i worths m
  pub holds : array ≡ padded 256 r.none_yet worths

module _ {A : Type 0} (r : Rule A) (code left place : List ℕ) (n : ℕ) (held : Held code left place n) where
  pub scanned-more : (i : ℕ) (array : List A) (m : ℕ) → Scanned r code left place n i array m → i < n → i < 256 → (k : ℕ) (x : A) (m' : ℕ)
      → k ≡ i - 1
      → x ≡ r.worth (get_or code i 0) (get_or array (get_or left i 0) r.none_yet) (get_or array k r.none_yet)
      → m' ≡ min m (cond (r.passes (get_or code i 0) (get_or array (get_or left i 0) r.none_yet) (get_or array k r.none_yet)) (get_or place i 0) far)
      → m' ≤ far
      → Scanned r code left place n (i + 1) (set array i x) m'
  scanned-more i array m s h b k x m' q v e f =
      let d = r.none_yet in
      let ws = s.worths in
      let c = get_or code i 0 in
      let l = get_or left i 0 in
      let read : (j : ℕ) → get_or array j d ≡ get_or ws j d = λ j. ap (λ (a : List A). get_or a j d) s.holds ∙ padded-read 256 d ws j in
      let z : get_or array k d ≡ get_or ws (i - 1) d = read k ∙ ap (λ (j : ℕ). get_or ws j d) q in
      let x' : x ≡ r.worth c (get_or ws l d) (get_or ws (i - 1) d) =
      v ∙ (ap (λ (y : A). r.worth c y (get_or array k d)) (read l) ∙ ap (λ (y : A). r.worth c (get_or ws l d) y) z) in
      let e' : m' ≡ min m (cond (r.passes c (get_or ws l d) (get_or ws (i - 1) d)) (get_or place i 0) far) =
      e
      ∙ (ap (λ (y : A). min m (cond (r.passes c y (get_or array k d)) (get_or place i 0) far)) (read l)
      ∙ ap (λ (y : A). min m (cond (r.passes c (get_or ws l d) y) (get_or place i 0) far)) z) in
      record {
        worths = ws ++ (r.worth c (get_or ws l d) (get_or ws (i - 1) d) ∷ []);
        passed = passed-more r code left place n held i ws m s.passed h m' e' f;
        holds =
            ap (λ (a : List A). set a i x) s.holds
            ∙ (ap (λ (y : A). set (padded 256 d ws) i y) x'
            ∙ padded-more 256 d ws (r.worth c (get_or ws l d) (get_or ws (i - 1) d)) i (sym s.passed.long) b);
      }

-- a bound on the values of an array, at first and after a store
pub none-bound : (k : ℕ) → get_or (replicate 256 0) k 0 ≤ 0
none-bound k = omega (arith, rest_read {A = ℕ} 256 k 0)

pub set-bound : (a : List ℕ) (i x k m : ℕ) → x ≤ m → get_or a k 0 ≤ m → get_or (set a i x) k 0 ≤ m
set-bound [] i x k m p q = q
set-bound (y ∷ a) zero x zero m p q = p
set-bound (y ∷ a) zero x (suc k) m p q = q
set-bound (y ∷ a) (suc i) x zero m p q = q
set-bound (y ∷ a) (suc i) x (suc k) m p q = set-bound a i x k m p q
