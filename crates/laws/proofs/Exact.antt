-- No. 17 and 18 are given exactly when document 01 says: "more than 512 reachable states" (no list of 512 has them all), and, where that does not
-- hold, "a reachable term of more than 8,192 parts". What was discovered is what is reachable (`Discovers`), so a test over the one is the fact over
-- the other. Assumes nothing.
use Prim.Native.Nat.{◌<◌}
use mathlib.Core.Path.{◌≡◌, refl, sym, ◌∙◌, subst}
use mathlib.Core.Bool.{Bool, true, false, true≢false}
use mathlib.Core.List.{List, [], ◌∷◌}
use mathlib.Core.Logic.{◌↔◌, ⊎_elim}
use native.Mathlib.Omega.{arith}
use borrow.Author.Tests.{ltb-true, lt-ltb}
use lib.Dec.{T, ltb}
use lib.ListN.{length}
use Rattle.paper.specs.File.{Answer, refused, accepted, unless, where_if}
use Rattle.paper.specs.Reaction.{Program, State}
use Rattle.paper.specs.Discovery.{Reach, has_s, most_states, discovered}
use Rattle.paper.specs.Refusals.{most_parts, parts_of, any_too_large, has_too_many, discovering}
use Rattle.paper.proofs.Equal.{eq_s-sound, eq_s-refl}
use Rattle.paper.proofs.Choices.{clash}
use Rattle.laws.proofs.Letters.{by_cond}
use Rattle.laws.proofs.Members.{Has, has-none, has-cases, has-head, has-tail}
use Rattle.laws.proofs.Discovers.{discovered-sound, discovered-complete, few_states, many-states}

-- ---- No. 18's test over a list is a state of the list

Large : State → Type 0
Large s = most_parts < parts_of s.left

large-found : (xs : List State) → any_too_large xs ≡ true → (s : State) × Has s xs × Large s
unfolding any_too_large Large
large-found [] e = absurd (true≢false (sym e))
large-found (x ∷ xs) e =
    by_cond (λ b. b ≡ true → (s : State) × Has s (x ∷ xs) × Large s) (ltb most_parts (parts_of x.left)) true (any_too_large xs)
    (λ q h. (x, has-head x x xs (eq_s-refl x), ltb-true most_parts (parts_of x.left) q))
    (λ q h. let r = large-found xs h in (r.0, has-tail r.0 x xs r.1, r.2))
    e

large-finds : (xs : List State) (s : State) → Has s xs → Large s → any_too_large xs ≡ true
unfolding any_too_large Large
large-finds [] s h l = absurd (has-none s h)
large-finds (x ∷ xs) s h l =
    by_cond (λ b. b ≡ true) (ltb most_parts (parts_of x.left)) true (any_too_large xs) (λ q. refl)
    (λ q.
    ⊎_elim
    (λ e.
    absurd
    (true≢false
    (sym (lt-ltb most_parts (parts_of x.left) (subst (λ (y : State). Large y) (eq_s-sound s x e) l)) ∙ q)))
    (λ k. large-finds xs s k l)
    (has-cases s x xs h))

-- ---- what `discovering` answers, by its two tests

answered : List State → Bool → List State → Answer (List State)
answered [] true seen = refused 18 0
answered [] false seen = accepted seen
answered (x ∷ xs) b seen = refused 17 0

discovering-is : (p : Program) → discovering p ≡ answered (discovered p).todo (any_too_large (discovered p).seen) (discovered p).seen
unfolding discovering answered
discovering-is p = go (discovered p).todo (any_too_large (discovered p).seen)
  where
    go : (todo : List State) (b : Bool) → unless (where_if (has_too_many (record { seen = (discovered p).seen; todo = todo })) 0) 17 (unless (where_if b 0) 18 (accepted (discovered p).seen)) ≡ answered todo b (discovered p).seen
    go [] true = refl
    go [] false = refl
    go (x ∷ xs) b = refl

-- every list of all reachable states is longer than 512
pub Many : Program → Type 0
Many p = (xs : List State) → ((s : State) → Reach p s → T (has_s s xs)) → most_states < length xs

ended : (p : Program) → (discovered p).todo ≡ [] → Many p → ⊥
unfolding Many
ended p e many = omega (arith, few_states p e, many (discovered p).seen (discovered-complete p e))

-- No. 17: "more than 512 reachable states"
pub number-17 : (p : Program) → (discovering p ≡ refused 17 0) ↔ Many p
unfolding answered
number-17 p = (
  λ e. given (discovered p).todo (any_too_large (discovered p).seen) refl (sym (discovering-is p) ∙ e),
  λ many. discovering-is p ∙ taken (discovered p).todo (any_too_large (discovered p).seen) refl many,
)
  where
    given : (todo : List State) (b : Bool) → (discovered p).todo ≡ todo → answered todo b (discovered p).seen ≡ refused 17 0 → Many p
    given [] true q e = clash (cc)
    given [] false q e = clash (cc)
    given (x ∷ xs) b q e = unfold Many in (λ ys h. many-states p (λ k. clash (cc)) ys h)

    taken : (todo : List State) (b : Bool) → (discovered p).todo ≡ todo → Many p → answered todo b (discovered p).seen ≡ refused 17 0
    taken [] b q many = absurd (ended p q many)
    taken (x ∷ xs) b q many = refl

-- No. 18: "a reachable term of more than 8,192 parts", where 17 does not hold
pub number-18 : (p : Program) → (discovering p ≡ refused 18 0) ↔ ((Many p → ⊥) × ((s : State) × Reach p s × (most_parts < parts_of s.left)))
unfolding answered Large
number-18 p = (
  λ e. given (discovered p).todo (any_too_large (discovered p).seen) refl refl (sym (discovering-is p) ∙ e),
  λ h. discovering-is p ∙ taken (discovered p).todo (any_too_large (discovered p).seen) refl refl h.0 h.1,
)
  where
    given : (todo : List State) (b : Bool) → (discovered p).todo ≡ todo → any_too_large (discovered p).seen ≡ b → answered todo b (discovered p).seen ≡ refused 18 0 → (Many p → ⊥) × ((s : State) × Reach p s × (most_parts < parts_of s.left))
    given [] true q l e =
        let r = large-found (discovered p).seen l in
        (λ many. ended p q many, (r.0, discovered-sound p r.0 r.1, r.2))
    given [] false q l e = clash (cc)
    given (x ∷ xs) b q l e = clash (cc)

    taken : (todo : List State) (b : Bool) → (discovered p).todo ≡ todo → any_too_large (discovered p).seen ≡ b → (Many p → ⊥) → ((s : State) × Reach p s × (most_parts < parts_of s.left)) → answered todo b (discovered p).seen ≡ refused 18 0
    taken [] true q l few r = refl
    taken [] false q l few r =
        absurd (true≢false (sym (large-finds (discovered p).seen r.0 (discovered-complete p q r.0 r.1) r.2) ∙ l))
    taken (x ∷ xs) b q l few r = absurd (few (unfold Many in (λ ys h. many-states p (λ k. clash (cc)) ys h)))
