-- A call that is made again and again, as long as it says so: what `frames` does with each frame of an input.
--     InTurn g n f x r x'    from the state f and the reader x, at most n calls: one that answers true is followed by the next; the first that answers false
--                            ends them well, and the first error ends them with that error; r is how they ended, and x' the reader then
-- Assumes nothing.
use Rattle.std.specs.Prelude.{ℕ, zero, suc, Bool, true, false, Result, Ok, Err}
use Rattle.std.specs.Fn.{Mut, CalledAtMut}
use denote.Ref.{MutBor}

module _ {F R E : Type 0} (g : Mut F (MutBor R × Unit {0}) (Result Bool E × (MutBor R × Unit {0}))) where
  pub data InTurn : ℕ → F → R → Result (Unit {0}) E → R → Type 0 where
    -- n calls were made, and each answered true
    most : {f : F} {x : R} → InTurn zero f x (Ok tt) x
    stops : {n : ℕ} {f f' : F} {x x' : R} → CalledAtMut g f x (Ok false) f' x' → InTurn (suc n) f x (Ok tt) x'
    fails : {n : ℕ} {f f' : F} {x x' : R} {e : E} → CalledAtMut g f x (Err e) f' x' → InTurn (suc n) f x (Err e) x'
    goes_on : {n : ℕ} {f f' : F} {x y x' : R} {r : Result (Unit {0}) E} → CalledAtMut g f x (Ok true) f' y → InTurn n f' y r x' → InTurn (suc n) f x r x'
