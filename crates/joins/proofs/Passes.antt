-- What the passes over the nodes answer for a program that was written down: the paper's checks No. 13, 14 and 16. A pass is the least place on the
-- tree of nodes (`written-scan` of `stars`), and that is the first place in the text (`Joins`). Assumes nothing.
use Prim.Native.Nat.{ℕ, ◌+◌, ◌-◌, ◌<◌, ◌≤◌}
use mathlib.Core.Path.{◌≡◌, refl, sym, ap, ◌∙◌}
use mathlib.Core.Bool.{Bool, true, false, cond, not, ◌&&◌, ◌||◌}
use mathlib.Core.List.{List, [], ◌∷◌, ◌++◌}
use native.Mathlib.Omega.{arith}
use lib.Bits.{bit_and}
use lib.Dec.{eqb}
use lib.ListN.{length, take, get_or, replicate, length-append, length-take}
use Rattle.paper.specs.Lists.{has}
use Rattle.paper.specs.Bytes.{is_module, is_event, bar_mark}
use Rattle.paper.specs.Grammar.{Sequence, print_s}
use Rattle.paper.specs.Limits.{share, first_bars, bars_s, shared_module, shared_event, braces_joined}
use Rattle.laws.specs.Placed.{Tree, leaf, star, join, both_code, size, codes, lefts, placed_s}
use Rattle.letters.specs.Letters.{Tells}
use Rattle.stars.specs.Nodes.{far, there, is_bars, scan, joining, Written}
use Rattle.letters.proofs.Padded.{rest_read}
use Rattle.letters.proofs.Flags.{letter-low, letter-high, letter-in}
use Rattle.stars.proofs.Least.{fold, Lawful}
use Rattle.stars.proofs.Sits.{sits-there}
use Rattle.stars.proofs.Written.{near, written-scan}
use Rattle.joins.specs.Sets.{sharing_any}
use Rattle.joins.proofs.Uses.{is_alpha, leaf-no-bars}
use Rattle.joins.proofs.Joins.{sequence-joins}
use Rattle.joins.proofs.Sets.{any-lawful}
use Rattle.joins.proofs.Sharing.{both_true, true-both, or_right, Picks, text-any}

or-second : (a b : Bool) → (a || b) ≡ false → b ≡ false
or-second true b e = absurd (let z : true ≡ false = e in let o : ◌≡◌ {A = ℕ} 0 1 = cc in omega arith)
or-second false b e = e

in-braces : (b : Bool) → b ≡ eqb (cond b both_code bar_mark) both_code
in-braces true = refl
in-braces false = refl

bars-code : (b : Bool) → is_bars (cond b both_code bar_mark) ≡ true
bars-code true = refl
bars-code false = refl

-- which letters count: every module; the events that are not fugitive
module-picks : Picks 97 is_module (λ k. not (get_or (replicate 26 false) k false))
module-picks = record {
  picked = λ x e.
      (omega (arith, letter-low 97 x e, letter-high 97 x e), omega (arith, letter-low 97 x e), ap not (rest_read 26 (x - 97) false));
  counted = λ k h e. letter-in 97 (97 + k) (omega arith) (omega arith);
}

event-picks : (fugitive : List Bool) (ls : List ℕ) → Tells fugitive ls → Picks 65 (λ x. is_event x && not (has (x - 65) ls)) (λ k. not (get_or fugitive k false))
event-picks fugitive ls t = record {
  picked = λ x e.
      let b = both_true (is_event x) (not (has (x - 65) ls)) e in
      let k : x - 65 < 26 = omega (arith, letter-low 65 x b.0, letter-high 65 x b.0) in
      (k, omega (arith, letter-low 65 x b.0), ap not (t (x - 65) k) ∙ b.1);
  counted = λ k h e.
      let n : 65 + k - 65 ≡ k = omega arith in
      true-both (is_event (65 + k)) (not (has (65 + k - 65) ls)) (letter-in 65 (65 + k) (omega arith) (omega arith))
      (ap (λ (i : ℕ). not (has i ls)) n ∙ (ap not (sym (t k h)) ∙ e));
}

-- as many codes as nodes, and as many left places
codes-length : (t : Tree) → length (codes t) ≡ size t
unfolding codes size
codes-length (leaf c p) = refl
codes-length (star p t) = omega (arith, length-append (codes t) (42 ∷ []), codes-length t)
codes-length (join c p t u) =
    omega (arith, length-append (codes t) (codes u ++ (c ∷ [])), length-append (codes u) (c ∷ []), codes-length t, codes-length u)

lefts-length : (f : ℕ) (t : Tree) → length (lefts f t) ≡ size t
unfolding lefts size
lefts-length f (leaf c p) = refl
lefts-length f (star p t) = omega (arith, length-append (lefts f t) (0 ∷ []), lefts-length f t)
lefts-length f (join c p t u) =
    omega (
      arith,
      length-append (lefts f t) (lefts (f + size t) u ++ ((f + size t - 1) ∷ [])),
      length-append (lefts (f + size t) u) ((f + size t - 1) ∷ []),
      lefts-length f t,
      lefts-length (f + size t) u,
    )

module _ (at : ℕ) (q : Sequence) (code left place : List ℕ) (n : ℕ) (w : Written at q code left place n) where
  below : at + length (print_s q) ≤ far
  below = near at q code left place n w

  pub left_long : n ≤ length code → n ≤ length left
  left_long h =
      let c : length (take n code) ≡ length (take n left) =
      ap length w.are_codes ∙ (codes-length (placed_s at q) ∙ (sym (lefts-length 0 (placed_s at q)) ∙ ap length (sym w.are_lefts))) in
      omega (arith, length-take n code, length-take n left)

  -- No. 16
  joining-lawful : Lawful joining
  joining-lawful = record {
    leaf_worth = λ c k y z. refl;
    leaf_passes = λ c k y z. or-second (eqb c bar_mark) (eqb c both_code) (leaf-no-bars c k);
    star_worth = λ y z. refl;
    star_passes = λ y z. refl;
  }

  pub braces-found : there (scan joining (take n code) (take n left) (take n place) [] far) ≡ braces_joined at q
  unfolding braces_joined
  braces-found =
      ap there (written-scan at q code left place n w joining joining-lawful)
      ∙ sits-there at (at + length (print_s q)) below
      (sequence-joins (λ b. b.in_braces) (λ c t u. eqb c both_code) (λ p v w t u b x y. in-braces b)
      (λ c t u e. or-second (eqb c bar_mark) (eqb c both_code) e) at q below)

  -- No. 13 and 14
  any_found : (base : ℕ) (pr on : ℕ → Bool) → Picks base pr on → ((k : ℕ) → k < 26 → is_alpha (base + k) ≡ true)
      → there (scan (sharing_any base on) (take n code) (take n left) (take n place) [] far) ≡ first_bars (λ b. share pr b.left b.right) (bars_s at q)
  any_found base pr on picks alpha =
      let r = sharing_any base on in
      ap there (written-scan at q code left place n w r (any-lawful base on))
      ∙ sits-there at (at + length (print_s q)) below
      (sequence-joins (λ b. share pr b.left b.right) (λ c t u. is_bars c && not (eqb (bit_and (fold r t) (fold r u)) 0))
      (λ p v w t u b x y. text-any base pr on picks alpha v w t u (cond b both_code bar_mark) (bars-code b) x y)
      (λ c t u e. ap (λ (a : Bool). a && not (eqb (bit_and (fold r t) (fold r u)) 0)) e) at q below)

  pub module-found : there (scan (sharing_any 97 (λ k. not (get_or (replicate 26 false) k false))) (take n code) (take n left) (take n place) [] far)
      ≡ shared_module at q
  unfolding shared_module
  module-found =
      any_found 97 is_module (λ k. not (get_or (replicate 26 false) k false)) module-picks
      (λ k h. ap (λ (a : Bool). a || is_event (97 + k)) (letter-in 97 (97 + k) (omega arith) (omega arith)))

  pub event-found : (fugitive : List Bool) (ls : List ℕ) → Tells fugitive ls
      → there (scan (sharing_any 65 (λ k. not (get_or fugitive k false))) (take n code) (take n left) (take n place) [] far) ≡ shared_event ls at q
  unfolding shared_event
  event-found fugitive ls t =
      any_found 65 (λ x. is_event x && not (has (x - 65) ls)) (λ k. not (get_or fugitive k false)) (event-picks fugitive ls t)
      (λ k h. or_right (is_module (65 + k)) (is_event (65 + k)) (letter-in 65 (65 + k) (omega arith) (omega arith)))
