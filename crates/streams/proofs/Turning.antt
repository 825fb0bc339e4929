-- Calls in turn, one at a time: how the ones so far and those that are left join. Assumes nothing.
use Rattle.std.proofs.Common.{◌≡◌, ℕ, suc, ◌-◌, ◌<◌, ◌≤◌, ◌+◌, Bool, true, false, Ok, Err, refl, arith, MutBor}
use Rattle.std.specs.Prelude.{Result}
use Rattle.std.specs.Fn.{Mut, Called, CalledAtMut}
use Rattle.streams.specs.Turns.{InTurn, most, stops, fails, goes_on}

module _ {F R E : Type 0} {g : Mut F (MutBor R × Unit {0}) (Result Bool E × (MutBor R × Unit {0}))} where
  called : {f f' : F} {r : Result Bool E} (p q : MutBor R) → Called g f (p, tt) (r, (q, tt)) f' → CalledAtMut g f p.now r f' q.now
  called p q c = record { shown = p; shows = refl; left = q; called = c; leaves = refl }

  pub one_more : (n i : ℕ) {f f' : F} (p q : MutBor R) → i < n → Called g f (p, tt) (Ok true, (q, tt)) f'
      → (r : Result (Unit {0}) E) (y : R) → InTurn g (n - (i + 1)) f' q.now r y → InTurn g (n - i) f p.now r y
  one_more n i p q h c r y rest =
      let e : n - i ≡ suc (n - (i + 1)) = omega arith in
      rw e (goes_on (called p q c) rest)

  pub the_end : (n i : ℕ) {f f' : F} (p q : MutBor R) → i < n → Called g f (p, tt) (Ok false, (q, tt)) f' → InTurn g (n - i) f p.now (Ok tt) q.now
  the_end n i p q h c =
      let e : n - i ≡ suc (n - (i + 1)) = omega arith in
      rw e (stops (called p q c))

  pub an_error : (n i : ℕ) {f f' : F} (p q : MutBor R) (e : E) → i < n → Called g f (p, tt) (Err e, (q, tt)) f' → InTurn g (n - i) f p.now (Err e) q.now
  an_error n i p q e h c =
      let k : n - i ≡ suc (n - (i + 1)) = omega arith in
      rw k (fails (called p q c))

  pub all_made : (n i : ℕ) {f : F} {x : R} → n ≤ i → InTurn g (n - i) f x (Ok tt) x
  all_made n i h =
      let e : n - i ≡ 0 = omega arith in
      rw e most
