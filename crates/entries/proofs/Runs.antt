-- Entries one after the other: none, one more, one that does not pass. And where they lie. Assumes nothing.
use Rattle.std.proofs.Common.{ℕ, ◌+◌, ◌*◌, ◌≤◌, ◌<◌, ◌≡◌, refl, sym, ap, ◌∙◌, Bool, true, false, List}
use lib.Dec.{ltb}
use borrow.Author.Tests.{le-ltb, lt-ltb}
use Rattle.paper.specs.Lists.{every}
use Rattle.paper.specs.IsTable.{field}
use Rattle.layout.proofs.Every.{every_more, every-not}
use Rattle.entries.specs.Entries.{next_of, run_right}

module _ (t : List ℕ) (from down states round : ℕ) where
  abbrev passes : ℕ → Bool
  passes k = ltb (next_of (field t (from + k * (10 + down)) (10 + down)) down round) states

  pub run_none : run_right t from 0 down states round ≡ true
  unfolding run_right every
  run_none = refl

  pub run_more : (k e n : ℕ) → run_right t from k down states round ≡ true → e ≡ field t (from + k * (10 + down)) (10 + down)
      → n ≡ next_of e down round → n < states → run_right t from (k + 1) down states round ≡ true
  unfolding run_right
  run_more k e n h f g l = every_more k passes h (ap (λ (x : ℕ). ltb (next_of x down round) states) (sym f) ∙ ap (λ (x : ℕ). ltb x states) (sym g) ∙ lt-ltb n states l)

  pub run_fails : (count k e n : ℕ) → k < count → e ≡ field t (from + k * (10 + down)) (10 + down)
      → n ≡ next_of e down round → states ≤ n → run_right t from count down states round ≡ false
  unfolding run_right
  run_fails count k e n h f g l = every-not count passes k h (ap (λ (x : ℕ). ltb (next_of x down round) states) (sym f) ∙ ap (λ (x : ℕ). ltb x states) (sym g) ∙ le-ltb n states l)
