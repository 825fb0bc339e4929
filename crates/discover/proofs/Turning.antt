-- Discovery turn by turn and letter by letter: one letter more, one turn more, and what holds when no state waits any more. Assumes nothing.
use Prim.Native.Nat.{ℕ, zero, suc, ◌+◌}
use mathlib.Core.Path.{◌≡◌, refl, sym, ap, ◌∙◌}
use mathlib.Core.Bool.{Bool, true, false}
use mathlib.Core.List.{List, [], ◌∷◌, ◌++◌, append_assoc, append-nil}
use native.Mathlib.Omega.{arith}
use Rattle.paper.specs.Lists.{choose}
use Rattle.paper.specs.Rewriting.{Letter}
use Rattle.paper.specs.Reaction.{Program, State, possible, reaction}
use Rattle.paper.specs.Discovery.{letters, has_s, finds, Found, discover}

module _ (p : Program) where
  -- the states seen after one letter
  unfoldable pub after : State → Letter → List State → List State
  after s l seen =
      choose (possible l s)
      (λ u. choose (has_s (reaction p l s).state seen) (λ v. seen) (λ v. seen ++ (reaction p l s).state ∷ []))
      (λ u. seen)

  pub finds-on : (s : State) (l : Letter) (ls : List Letter) (seen : List State) → seen ++ finds p s (l ∷ ls) seen ≡ after s l seen ++ finds p s ls (after s l seen)
  unfolding finds after
  finds-on s l ls seen = go (possible l s) (has_s n seen)
    where
      n : State
      n = (reaction p l s).state

      go : (b c : Bool) → seen ++ choose b (λ u. choose c (λ v. finds p s ls seen) (λ v. n ∷ finds p s ls (seen ++ n ∷ []))) (λ u. finds p s ls seen) ≡ choose b (λ u. choose c (λ v. seen) (λ v. seen ++ n ∷ [])) (λ u. seen) ++ finds p s ls (choose b (λ u. choose c (λ v. seen) (λ v. seen ++ n ∷ [])) (λ u. seen))
      go true true = refl
      go true false = sym (append_assoc seen (n ∷ []) (finds p s ls (seen ++ n ∷ [])))
      go false c = refl

  pub finds-one : (s : State) (l : Letter) (seen : List State) → seen ++ finds p s (l ∷ []) seen ≡ after s l seen
  unfolding finds
  finds-one s l seen = finds-on s l [] seen ∙ append-nil (after s l seen)

  -- more letters behind others
  pub finds-append : (s : State) (ks ls : List Letter) (seen : List State) → seen ++ finds p s (ks ++ ls) seen ≡ (seen ++ finds p s ks seen) ++ finds p s ls (seen ++ finds p s ks seen)
  unfolding finds
  finds-append s [] ls seen = ap (λ (x : List State). x ++ finds p s ls x) (sym (append-nil seen))
  finds-append s (k ∷ ks) ls seen =
      finds-on s k (ks ++ ls) seen
      ∙ (finds-append s ks ls (after s k seen)
      ∙ ap (λ (x : List State). x ++ finds p s ls x) (sym (finds-on s k ks seen)))

  -- one turn more
  pub discover-more : (k : ℕ) (todo seen : List State) → discover (suc k) p todo seen ≡ discover 1 p (discover k p todo seen).todo (discover k p todo seen).seen
  unfolding discover
  discover-more zero todo seen = refl
  discover-more (suc k) [] seen = refl
  discover-more (suc k) (s ∷ todo) seen = discover-more k (todo ++ finds p s (letters p) seen) (seen ++ finds p s (letters p) seen)

  -- where no state waits, a turn finds nothing, nor do more
  turn-ended : (f : Found) → f.todo ≡ [] → discover 1 p f.todo f.seen ≡ f
  unfolding discover
  turn-ended f e =
      ap (λ (t : List State). discover 1 p t f.seen) e
      ∙ ap (λ (t : List State). record { seen = f.seen; todo = t }) (sym e)

  pub discover-ended : (j k n : ℕ) (todo seen : List State) → n ≡ j + k → (discover k p todo seen).todo ≡ [] → discover n p todo seen ≡ discover k p todo seen
  discover-ended zero k n todo seen h e = let z : n ≡ k = omega arith in ap (λ (i : ℕ). discover i p todo seen) z
  discover-ended (suc j) k n todo seen h e =
      let z : n ≡ suc (j + k) = omega arith in
      ap (λ (i : ℕ). discover i p todo seen) z
      ∙ (discover-more (j + k) todo seen
      ∙ (ap (λ (f : Found). discover 1 p f.todo f.seen) (discover-ended j k (j + k) todo seen refl e)
      ∙ turn-ended (discover k p todo seen) e))

  -- one turn more: its state leaves those that wait, and what it finds joins both
  pub turn_on : (k : ℕ) (todo seen : List State) (x : State) (rest : List State) → (discover k p todo seen).todo ≡ x ∷ rest → discover (suc k) p todo seen ≡ record { seen = (discover k p todo seen).seen ++ finds p x (letters p) (discover k p todo seen).seen; todo = rest ++ finds p x (letters p) (discover k p todo seen).seen }
  unfolding discover
  turn_on k todo seen x rest e =
      discover-more k todo seen ∙ ap (λ (t : List State). discover 1 p t (discover k p todo seen).seen) e
