-- Discovery lists each reachable state once and no other, if it ends within its turns, and it ends within 512 exactly where there are at most 512
-- reachable states. Two things hold after every turn: what was seen either waits for its turn or leads by each letter to what was seen (`Led`), and
-- as many were seen as turns were done and states wait; the rest is that only reachable states, and none that was seen, ever join.
-- Assumes nothing.
use Prim.Native.Nat.{ℕ, zero, suc, ◌+◌, ◌≤◌, ◌<◌}
use mathlib.Core.Path.{◌≡◌, refl, subst, sym, ap, ◌∙◌}
use mathlib.Core.Bool.{true≢false}
use mathlib.Core.List.{List, [], ◌∷◌, ◌++◌, append_assoc, append-nil}
use mathlib.Core.Logic.{◌↔◌, ◌⊎◌, inl, inr, ⊎_elim}
use native.Mathlib.Omega.{arith}
use lib.Dec.{T, T_not}
use lib.ListN.{length, length-append}
use Rattle.paper.specs.Lists.{choose}
use Rattle.paper.specs.Rewriting.{Letter}
use Rattle.paper.specs.Reaction.{Program, State, start_of, possible, reaction}
use Rattle.paper.specs.Discovery.{letters, Among, here, there, Reach, begin, next, has_s, finds, Found, discover, most_states, discovered}
use Rattle.paper.proofs.Choices.{by-test}
use Rattle.paper.proofs.Equal.{eq_s-sound, eq_s-refl}
use Rattle.laws.proofs.Members.{Has, has-head, has-tail, has-cases, has-none, has_left, has_right, has-append, Distinct, distinct-one, distinct_more, distinct-shorter}

module _ (p : Program) where
  -- what holds of `finds` in each of its three cases, where the next letter finds nothing or the state n, holds of it
  by-finds : (s : State) (l : Letter) (ls : List Letter) (seen : List State) (P : List State → Type 0) → (T (possible l s) → Has (reaction p l s).state seen → P (finds p s ls seen)) → (T (possible l s) → (Has (reaction p l s).state seen → ⊥) → P ((reaction p l s).state ∷ finds p s ls (seen ++ (reaction p l s).state ∷ []))) → ((T (possible l s) → ⊥) → P (finds p s ls seen)) → P (finds p s (l ∷ ls) seen)
  unfolding finds
  by-finds s l ls seen P old new not =
      by-test P (possible l s)
      (λ u. choose (has_s n seen) (λ v. finds p s ls seen) (λ v. n ∷ finds p s ls (seen ++ n ∷ [])))
      (λ u. finds p s ls seen)
      (λ h.
      by-test P (has_s n seen)
      (λ v. finds p s ls seen)
      (λ v. n ∷ finds p s ls (seen ++ n ∷ []))
      (old h)
      (λ k. new h (T_not (has_s n seen) k)))
      (λ h. not (T_not (possible l s) h))
    where
      n : State
      n = (reaction p l s).state

  -- each letter of ls that is possible in s leads into xs
  abbrev Leads : State → List Letter → List State → Type 0
  Leads s ls xs = (l : Letter) → Among l ls → T (possible l s) → Has (reaction p l s).state xs

  -- what was seen waits for its turn, or leads to what was seen
  abbrev Led : List State → List State → Type 0
  Led todo seen = (s : State) → Has s seen → Has s todo ⊎ Leads s (letters p) seen

  leads-cons : (s : State) (l : Letter) (ls : List Letter) (xs : List State) → (T (possible l s) → Has (reaction p l s).state xs) → Leads s ls xs → Leads s (l ∷ ls) xs
  leads-cons s l ls xs h k j here q = h q
  leads-cons s l ls xs h k j (there a) q = k j a q

  finds-leads : (s : State) (ls : List Letter) (seen : List State) → Leads s ls (seen ++ finds p s ls seen)
  finds-leads s [] seen = λ l a q. elim a [ ]
  finds-leads s (l ∷ ls) seen =
      by-finds s l ls seen (λ new. Leads s (l ∷ ls) (seen ++ new))
      (λ q k. leads-cons s l ls (seen ++ finds p s ls seen) (λ q. has_left n seen _ k) (finds-leads s ls seen))
      (λ q k.
      leads-cons s l ls (seen ++ n ∷ finds p s ls (seen ++ n ∷ []))
      (λ q. has_right n seen _ (has-head n n (finds p s ls (seen ++ n ∷ [])) (eq_s-refl n)))
      (rw append_assoc at (finds-leads s ls (seen ++ n ∷ []))))
      (λ q. leads-cons s l ls (seen ++ finds p s ls seen) (λ r. absurd (q r)) (finds-leads s ls seen))
    where
      n : State
      n = (reaction p l s).state

  led-turn : (s : State) (todo seen : List State) → Led (s ∷ todo) seen → Led (todo ++ finds p s (letters p) seen) (seen ++ finds p s (letters p) seen)
  led-turn s todo seen led x h =
      ⊎_elim
      (λ k.
      ⊎_elim
      (λ m.
      ⊎_elim
      (λ e. inr (subst (λ (y : State). Leads y (letters p) (seen ++ new)) (sym (eq_s-sound x s e)) (finds-leads s (letters p) seen)))
      (λ t. inl (has_left x todo new t))
      (has-cases x s todo m))
      (λ d. inr (λ l a q. has_left (reaction p l x).state seen new (d l a q)))
      (led x k))
      (λ k. inl (has_right x todo new k))
      (has-append x seen new h)
    where
      new : List State
      new = finds p s (letters p) seen

  discover-led : (n : ℕ) (todo seen : List State) → Led todo seen → Led (discover n p todo seen).todo (discover n p todo seen).seen
  unfolding discover
  discover-led zero todo seen led = led
  discover-led (suc n) [] seen led = led
  discover-led (suc n) (s ∷ todo) seen led =
      discover-led n (todo ++ finds p s (letters p) seen) (seen ++ finds p s (letters p) seen) (led-turn s todo seen led)

  -- the order of discovery: what was seen stays in front
  discover-front : (n : ℕ) (todo seen : List State) → (more : List State) × ((discover n p todo seen).seen ≡ seen ++ more)
  unfolding discover
  discover-front zero todo seen = ([], sym (append-nil seen))
  discover-front (suc n) [] seen = ([], sym (append-nil seen))
  discover-front (suc n) (s ∷ todo) seen =
      let r = discover-front n (todo ++ finds p s (letters p) seen) (seen ++ finds p s (letters p) seen) in
      (finds p s (letters p) seen ++ r.0, r.1 ∙ append_assoc seen (finds p s (letters p) seen) r.0)

  -- every state of a list is reachable
  abbrev Reached : List State → Type 0
  Reached xs = (s : State) → Has s xs → Reach p s

  reached-append : (xs ys : List State) → Reached xs → Reached ys → Reached (xs ++ ys)
  reached-append xs ys h k s m = ⊎_elim (h s) (k s) (has-append s xs ys m)

  reached-cons : (x : State) (xs : List State) → Reach p x → Reached xs → Reached (x ∷ xs)
  reached-cons x xs h k s m =
      ⊎_elim (λ e. subst (λ (y : State). Reach p y) (sym (eq_s-sound s x e)) h) (k s) (has-cases s x xs m)

  finds-reached : (s : State) (ls : List Letter) (seen : List State) → Reach p s → ((l : Letter) → Among l ls → Among l (letters p)) → Reached (finds p s ls seen)
  unfolding finds
  finds-reached s [] seen r sub = λ x h. absurd (has-none x h)
  finds-reached s (l ∷ ls) seen r sub =
      by-finds s l ls seen Reached (λ q k. finds-reached s ls seen r (λ j a. sub j (there a)))
      (λ q k.
      reached-cons n (finds p s ls (seen ++ n ∷ [])) (next l (sub l here) q r)
      (finds-reached s ls (seen ++ n ∷ []) r (λ j a. sub j (there a))))
      (λ q. finds-reached s ls seen r (λ j a. sub j (there a)))
    where
      n : State
      n = (reaction p l s).state

  discover-reached : (n : ℕ) (todo seen : List State) → Reached todo → Reached seen → Reached (discover n p todo seen).seen
  unfolding discover
  discover-reached zero todo seen h k = k
  discover-reached (suc n) [] seen h k = k
  discover-reached (suc n) (s ∷ todo) seen h k =
      discover-reached n (todo ++ new) (seen ++ new) (reached-append todo new (λ x m. h x (has-tail x s todo m)) fresh)
      (reached-append seen new k fresh)
    where
      new : List State
      new = finds p s (letters p) seen

      fresh : Reached new
      fresh = finds-reached s (letters p) seen (h s (has-head s s todo (eq_s-refl s))) (λ l a. a)

  finds-distinct : (s : State) (ls : List Letter) (seen : List State) → Distinct seen → Distinct (seen ++ finds p s ls seen)
  unfolding finds
  finds-distinct s [] seen d = rw append-nil d
  finds-distinct s (l ∷ ls) seen d =
      by-finds s l ls seen (λ new. Distinct (seen ++ new)) (λ q k. finds-distinct s ls seen d)
      (λ q k. rw append_assoc at (finds-distinct s ls (seen ++ n ∷ []) (distinct_more seen n d k)))
      (λ q. finds-distinct s ls seen d)
    where
      n : State
      n = (reaction p l s).state

  discover-distinct : (n : ℕ) (todo seen : List State) → Distinct seen → Distinct (discover n p todo seen).seen
  unfolding discover
  discover-distinct zero todo seen d = d
  discover-distinct (suc n) [] seen d = d
  discover-distinct (suc n) (s ∷ todo) seen d =
      discover-distinct n (todo ++ finds p s (letters p) seen) (seen ++ finds p s (letters p) seen) (finds-distinct s (letters p) seen d)

  -- after k turns, one state for each, k and those that wait were seen; so n more turns that do not end it see more than k + n
  counts-turn : (k : ℕ) (s : State) (todo seen new : List State) → length seen ≡ k + length (s ∷ todo) → length (seen ++ new) ≡ suc k + length (todo ++ new)
  counts-turn k s todo seen new c = omega (arith, length-append seen new, length-append todo new)

  discover-few : (n k : ℕ) (todo seen : List State) → length seen ≡ k + length todo → (discover n p todo seen).todo ≡ [] → length (discover n p todo seen).seen ≤ k + n
  unfolding discover
  discover-few zero k todo seen c e = omega (arith, ap length e)
  discover-few (suc n) k [] seen c e = omega arith
  discover-few (suc n) k (s ∷ todo) seen c e =
      omega (
        arith,
        discover-few n (suc k) (todo ++ finds p s (letters p) seen) (seen ++ finds p s (letters p) seen)
            (counts-turn k s todo seen (finds p s (letters p) seen) c)
            e,
      )

  discover-many : (n k : ℕ) (todo seen : List State) → length seen ≡ k + length todo → ((discover n p todo seen).todo ≡ [] → ⊥) → k + n < length (discover n p todo seen).seen
  unfolding discover
  discover-many zero k [] seen c e = absurd (e refl)
  discover-many zero k (s ∷ todo) seen c e = omega arith
  discover-many (suc n) k [] seen c e = absurd (e refl)
  discover-many (suc n) k (s ∷ todo) seen c e =
      omega (
        arith,
        discover-many n (suc k) (todo ++ finds p s (letters p) seen) (seen ++ finds p s (letters p) seen)
            (counts-turn k s todo seen (finds p s (letters p) seen) c)
            e,
      )

-- discovery in any number of turns
module _ (p : Program) (n : ℕ) where
  abbrev pub found : Found
  found = discover n p (start_of p ∷ []) (start_of p ∷ [])

  -- only reachable states are listed
  pub found-sound : (s : State) → Has s found.seen → Reach p s
  found-sound = discover-reached p n (start_of p ∷ []) (start_of p ∷ []) first first
    where
      first : Reached p (start_of p ∷ [])
      first = reached-cons p (start_of p) [] begin (λ x h. absurd (has-none x h))

  -- each once
  pub found-once : Distinct found.seen
  found-once = discover-distinct p n (start_of p ∷ []) (start_of p ∷ []) (distinct-one (start_of p))

  -- the start is number 0
  pub found-begins : (more : List State) × (found.seen ≡ start_of p ∷ more)
  found-begins = discover-front p n (start_of p ∷ []) (start_of p ∷ [])

  -- every reachable state is listed, if no state waits any more
  pub found-complete : found.todo ≡ [] → (s : State) → Reach p s → Has s found.seen
  found-complete e s begin =
      subst (Has (start_of p)) (sym found-begins.1) (has-head (start_of p) (start_of p) found-begins.0 (eq_s-refl (start_of p)))
  found-complete e s (next {s = r} l a q k) =
      ⊎_elim
      (λ w. absurd (has-none r (rw e at w)))
      (λ leads. leads l a q)
      (discover-led p n (start_of p ∷ []) (start_of p ∷ []) (λ x h. inl h) r (found-complete e r k))

  -- no list of every reachable state is shorter
  pub found-least : (xs : List State) → ((s : State) → Reach p s → Has s xs) → length found.seen ≤ length xs
  found-least xs h = distinct-shorter found.seen xs found-once (λ s k. h s (found-sound s k))

  pub found-few : found.todo ≡ [] → length found.seen ≤ n
  found-few e = omega (arith, discover-few p n 0 (start_of p ∷ []) (start_of p ∷ []) (omega arith) e)

  pub found-many : (found.todo ≡ [] → ⊥) → n < length found.seen
  found-many e = omega (arith, discover-many p n 0 (start_of p ∷ []) (start_of p ∷ []) (omega arith) e)

-- the 512 turns of the table
module _ (p : Program) where
  pub discovered-sound : (s : State) → T (has_s s (discovered p).seen) → Reach p s
  unfolding discovered
  discovered-sound = found-sound p most_states

  pub discovered-complete : (discovered p).todo ≡ [] → (s : State) → Reach p s → T (has_s s (discovered p).seen)
  unfolding discovered
  discovered-complete = found-complete p most_states

  pub discovered-once : Distinct (discovered p).seen
  unfolding discovered
  discovered-once = found-once p most_states

  pub discovered-begins : (more : List State) × ((discovered p).seen ≡ start_of p ∷ more)
  unfolding discovered
  discovered-begins = found-begins p most_states

  -- the number of reachable states: any list of them, each once, is as long
  pub discovered-count : (discovered p).todo ≡ [] → (xs : List State) → Distinct xs → ((s : State) → T (has_s s xs) → Reach p s) → ((s : State) → Reach p s → T (has_s s xs)) → length (discovered p).seen ≡ length xs
  unfolding discovered
  discovered-count e xs d h k =
      omega (
        arith,
        found-least p most_states xs k,
        distinct-shorter xs (found p most_states).seen d (λ s m. found-complete p most_states e s (h s m)),
      )

  -- it ended: at most 512 states are reachable, those of the list
  pub few_states : (discovered p).todo ≡ [] → length (discovered p).seen ≤ most_states
  unfolding discovered
  few_states = found-few p most_states

  -- it did not: no list of at most 512 states has every reachable one
  pub many-states : ((discovered p).todo ≡ [] → ⊥) → (xs : List State) → ((s : State) → Reach p s → T (has_s s xs)) → most_states < length xs
  unfolding discovered
  many-states e xs h = omega (arith, found-many p most_states e, found-least p most_states xs h)

  -- so it ends exactly where some list of at most 512 states has every reachable one
  pub limit-exact : ((discovered p).todo ≡ []) ↔ ((xs : List State) × (length xs ≤ most_states) × ((s : State) → Reach p s → T (has_s s xs)))
  limit-exact = (λ e. ((discovered p).seen, few_states e, discovered-complete e), λ h. ends h (discovered p).todo refl)
    where
      ends : (xs : List State) × (length xs ≤ most_states) × ((s : State) → Reach p s → T (has_s s xs)) → (ws : List State) → (discovered p).todo ≡ ws → (discovered p).todo ≡ []
      ends h [] e = e
      ends h (w ∷ ws) e = absurd (omega (arith, h.1, many-states (λ q. true≢false (cc)) h.0 h.2))
