-- One letter by the engine's `go`, on a copy of the state's word: what it asks, and what its answer says. Assumes nothing.
use Prim.Native.Nat.{ℕ, ◌+◌, ◌<◌}
use mathlib.Core.Path.{◌≡◌, refl, sym, ap, subst, ◌∙◌}
use mathlib.Core.Bool.{Bool, true, false, cond}
use mathlib.Core.List.{List, map}
use native.Mathlib.Omega.{arith}
use lib.ListN.{length, length-map}
use Rattle.paper.specs.Rewriting.{Letter}
use Rattle.paper.specs.Reaction.{Program, State, possible, reaction}
use Rattle.paper.specs.Calls.{Lived, eight, lives_on, not_lived}
use Rattle.react.specs.declared.State.{State as Kept}
use Rattle.react.specs.States.{state_of}
use Rattle.coding.specs.Code.{code}
use Rattle.coding.proofs.Closed.{step_in}
use Rattle.emit.specs.Entries.{orders_from}
use Rattle.engine.specs.declared.Answer.{Answer}
use Rattle.engine.specs.Live.{outcome, Loaded, Kinds, Stated, Runs, reacted_to}
use Rattle.slots.specs.declared.Enrolled.{Enrolled}
use Rattle.slots.specs.Slots.{Holds, Enrolls, Full}
use Rattle.discover.specs.Finding.{Seen, Arrives}
use Rattle.discover.proofs.Arriving.{arrives-none, arrives-over, arrives-on}

pub runs-copied : (P ms es : List ℕ) (fs : List Bool) (W N : List ℕ) (y : Kept) (l : Letter) → N ≡ W → Runs P ms es fs W y l → Runs P ms es fs N y l
runs-copied P ms es fs W N y l e r = subst (λ (Z : List ℕ). Runs P ms es fs Z y l) (sym e) r

-- the answer's number says whether the letter is possible, and where it is, orders and bytes are the reaction's
module _ (q : Program) (l : Letter) (x : State) (live live' : List ℕ) (r : Answer) (e : outcome r live' ≡ reacted_to q l x live) where
  reacted-none : (r.number ≡ 0 → ⊥) → possible l x ≡ false
  reacted-none h = go (possible l x) refl
    where
      go : (b : Bool) → possible l x ≡ b → possible l x ≡ false
      go true k =
          absurd (h (ap (λ (y : Lived). y.number) (e ∙ ap (λ (b : Bool). cond b (lives_on (reaction q l x).does (code q (reaction q l x).state)) (not_lived 22 0 live)) k)))
      go false k = k

  reacted-on : r.number ≡ 0 → (possible l x ≡ true) × ((r.orders ≡ eight (reaction q l x).does) × (live' ≡ code q (reaction q l x).state))
  reacted-on h = go (possible l x) refl
    where
      its : (b : Bool) → possible l x ≡ b → outcome r live' ≡ cond b (lives_on (reaction q l x).does (code q (reaction q l x).state)) (not_lived 22 0 live)
      its b k = e ∙ ap (λ (b : Bool). cond b (lives_on (reaction q l x).does (code q (reaction q l x).state)) (not_lived 22 0 live)) k

      go : (b : Bool) → possible l x ≡ b → (possible l x ≡ true) × ((r.orders ≡ eight (reaction q l x).does) × (live' ≡ code q (reaction q l x).state))
      go true k = (k, (ap (λ (y : Lived). y.orders) (its true k), ap (λ (y : Lived). y.live) (its true k)))
      go false k = absurd (omega (arith, ap (λ (y : Lived). y.number) (its false k)))

module _ (q : Program) (P ms es : List ℕ) (fs : List Bool) (W N : List ℕ) (y : Kept) (l : Letter) (c : N ≡ W) (d : Loaded q P ms es) (k : Kinds q fs) (h : Stated q P ms W y l) (live live' : List ℕ) (r : Answer) where
  abbrev x : State
  x = state_of P W ms y

  -- what `go` says, on the copy of the word, for every program
  abbrev Goes : Type 0
  Goes = (q : Program) → Loaded q P ms es → Kinds q fs → Stated q P ms N y l → outcome r live' ≡ reacted_to q l (state_of P N ms y) live

  gone-on : Goes → outcome r live' ≡ reacted_to q l x live
  gone-on g = subst (λ (Z : List ℕ). Stated q P ms Z y l → outcome r live' ≡ reacted_to q l (state_of P Z ms y) live) c (g q d k) h

  module _ (g : Goes) (ss : List State) (K X : List ℕ) (seen : Seen q K X ss) where
    pub goes_none : (r.number ≡ 0 → ⊥) → (n : ℕ) → length ss ≡ n → Arrives q x l ss K X (record { over = false; count = n; entry = 0 })
    goes_none z n e = arrives-none q d.fit x l ss K X seen (reacted-none q l x live live' r (gone-on g) z) n e

    module _ (z : r.number ≡ 0) (K' X' : List ℕ) where
      its : (possible l x ≡ true) × ((r.orders ≡ eight (reaction q l x).does) × (live' ≡ code q (reaction q l x).state))
      its = reacted-on q l x live live' r (gone-on g) z

      -- what is said of the live bytes among all blocks that are held is said of the code among those of the states seen
      said : (F : List (List ℕ) → List ℕ → Type 0) → ((cs : List (List ℕ)) → Holds K X cs → length cs ≡ length ss → F cs live') → F (map (code q) ss) (code q (reaction q l x).state)
      said F t = subst (F (map (code q) ss)) its.1.1 (t (map (code q) ss) seen.held (length-map ss (code q)))

      pub goes_over : ((cs : List (List ℕ)) → Holds K X cs → length cs ≡ length ss → Full cs live' K' X') → (n b : ℕ) → Arrives q x l ss K' X' (record { over = true; count = n; entry = b })
      goes_over t = arrives-over q d.fit x l ss K X seen (step_in q d.fit x l h.written h.among) its.0 K' X' (said (λ cs b. Full cs b K' X') t)

      pub goes_on : (a : Enrolled) → a.number < 512 → ((cs : List (List ℕ)) → Holds K X cs → length cs ≡ length ss → Enrolls cs live' K' X' a) → (b : ℕ) → b ≡ orders_from (512 + a.number) r.orders
          → Arrives q x l ss K' X' (record { over = false; count = a.count; entry = b })
      goes_on a y t b e =
          arrives-on q d.fit x l ss K X seen (step_in q d.fit x l h.written h.among) its.0 K' X' a y (said (λ cs b. Enrolls cs b K' X' a) t) r.orders its.1.0 b e
