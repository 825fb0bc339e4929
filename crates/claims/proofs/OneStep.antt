-- One step of either edition from the same state: the same number and place, the same orders, and the same state after it (`steps_alike`). A right table
-- says what the rules say (`TableRight`), and the live engine does it; each state has one number, since no state is listed twice. Assumes nothing.
use Prim.Native.Nat.{ℕ, zero, suc, ◌<◌}
use mathlib.Core.Path.{◌≡◌, refl, sym, ap, subst, ◌∙◌}
use mathlib.Core.Bool.{Bool, true, false, cond}
use mathlib.Core.List.{List, [], ◌∷◌, map}
use mathlib.Core.Option.{Option}
use native.Mathlib.Nat.{not-suc-le-zero, le_of_suc-le-suc}
use native.Mathlib.Omega.{arith}
use lib.Dec.{T, T_not, eqb}
use lib.ListN.{length, get_or, length-map}
use borrow.Author.Tests.{lt-ltb}
use Rattle.paper.specs.Lists.{chosen, below}
use Rattle.paper.specs.Parse.{parse}
use Rattle.paper.specs.File.{accepted}
use Rattle.paper.specs.Running.{runs_l}
use Rattle.paper.specs.Rewriting.{Letter}
use Rattle.paper.specs.Reaction.{Program, State, start_of, possible, reaction}
use Rattle.paper.specs.Discovery.{letters, eq_s, Reach, discovered}
use Rattle.paper.specs.Table.{flag, number_of}
use Rattle.paper.specs.IsTable.{module_count, state_count, name_at, start_at, possible_at, next_at, order_at, table_modules}
use Rattle.paper.specs.Refusals.{adaptive, program_of, reading}
use Rattle.paper.specs.Calls.{eight, Stepped, not_stepped, steps_to, table_start, table_step, index_from, letter_bytes, entered, Lived, not_lived, lives_on, reacted, letter_of}
use Rattle.paper.proofs.Choices.{by-test}
use Rattle.paper.proofs.Equal.{eq_s-sound, eq_s-refl}
use Rattle.laws.proofs.Members.{Has, has-head, has-tail, Distinct}
use Rattle.layout.specs.InRange.{Ascending}
use Rattle.layout.proofs.Lists.{below_length, below-is}
use Rattle.layout.proofs.Ranged.{ascending-kept, does-length}
use Rattle.coding.specs.Written.{Written}
use Rattle.coding.specs.Code.{code, coding}
use Rattle.coding.proofs.Coded.{decode_code}
use Rattle.coding.proofs.Accepted.{reading-accepted, accepted-fit}
use Rattle.coding.proofs.Right.{reach-written}
use Rattle.runs.specs.Run.{next_state}
use Rattle.compiler.specs.Demand.{letter_by_place, state_at, TableRight}
use Rattle.claims.specs.Both.{Shown, state_after, table_shows, live_number, live_shows}
use Rattle.claims.proofs.Alphabet.{Same, neither, both, letters-alike}

-- ---- numbers of states

has-at : (xs : List State) (i : ℕ) (d : State) → i < length xs → Has (get_or xs i d) xs
has-at [] i d h = absurd (not-suc-le-zero h)
has-at (x ∷ xs) zero d h = has-head x x xs (eq_s-refl x)
has-at (x ∷ xs) (suc i) d h = has-tail (get_or xs i d) x xs (has-at xs i d (le_of_suc-le-suc h))

-- the state that stands at j has the number j, where no state stands twice
number-back : (xs : List State) → Distinct xs → (j : ℕ) (d : State) → j < length xs → number_of (get_or xs j d) xs ≡ j
unfolding number_of Distinct
number-back [] o j d h = absurd (not-suc-le-zero h)
number-back (x ∷ xs) o zero d h =
    by-test (λ (k : ℕ). k ≡ 0) (eq_s x x) (λ u. 0) (λ u. suc (number_of x xs)) (λ e. refl) (λ e. absurd (T_not (eq_s x x) e (eq_s-refl x)))
number-back (x ∷ xs) o (suc j) d h =
    let y = get_or xs j d in
    by-test (λ (k : ℕ). k ≡ suc j) (eq_s y x) (λ u. 0) (λ u. suc (number_of y xs))
    (λ e. absurd (o.0 (subst (λ (z : State). Has z xs) (eq_s-sound y x e) (has-at xs j d (le_of_suc-le-suc h)))))
    (λ e. ap suc (number-back xs o.1 j d (le_of_suc-le-suc h)))

map_at : {A B : Type 0} (f : A → B) (xs : List A) (i : ℕ) (a : A) (b : B) → i < length xs → get_or (map f xs) i b ≡ f (get_or xs i a)
map_at f [] i a b h = absurd (not-suc-le-zero h)
map_at f (x ∷ xs) zero a b h = refl
map_at f (x ∷ xs) (suc i) a b h = map_at f xs i a b (le_of_suc-le-suc h)

-- ---- the names of a program that was read ascend

module _ (file : List ℕ) (q : Program) (e : reading parse adaptive file ≡ accepted q) where
  pub modules-ascend : Ascending q.modules
  unfolding program_of
  modules-ascend = let a = reading-accepted file q e in subst (λ (p : Program). Ascending p.modules) a.is (ascending-kept _)

  pub events-ascend : Ascending q.events
  unfolding program_of
  events-ascend = let a = reading-accepted file q e in subst (λ (p : Program). Ascending p.events) a.is (ascending-kept _)

-- ---- what a right table answers

module _ (q : Program) (t : List ℕ) (n : ℕ) (r : TableRight q t n) where
  modules-counted : module_count t ≡ length q.modules
  unfolding table_modules
  modules-counted = sym (below_length (name_at t) (module_count t)) ∙ ap length r.modules_are

  -- the letters of q are those of the table
  right-step : (i : ℕ) → i < n → (b : ℕ) → table_step t i b ≡ chosen (index_from 0 b (letter_bytes q.modules q.events)) (λ u. not_stepped 21) (λ l. entered t i l)
  unfolding table_step
  right-step i h b =
      let s = r.states_are in
      rw (r.is_table, lt-ltb i (state_count t) (omega arith), r.modules_are, r.events_are)

  module _ (i l : ℕ) (hi : i < n) (hl : l < length (letters q)) where
    orders_are : T (possible (letter_by_place q l) (state_at q i)) → map (λ m. order_at t i l m) (below (module_count t)) ≡ (reaction q (letter_by_place q l) (state_at q i)).does
    orders_are o =
        let k = modules-counted in
        below-is (λ m. order_at t i l m) (module_count t) (reaction q (letter_by_place q l) (state_at q i)).does 0 (does-length q (letter_by_place q l) (state_at q i) ∙ sym k)
        (λ m h. r.order_is i l m hi hl (omega arith) o)

    right-entry : entered t i l ≡ cond (possible (letter_by_place q l) (state_at q i)) (steps_to (next_at t i l) (reaction q (letter_by_place q l) (state_at q i)).does) (not_stepped 22)
    unfolding entered
    right-entry = by (possible (letter_by_place q l) (state_at q i)) refl
      where
        by : (x : Bool) → possible (letter_by_place q l) (state_at q i) ≡ x
            → cond (eqb (possible_at t i l) 1) (steps_to (next_at t i l) (map (λ m. order_at t i l m) (below (module_count t)))) (not_stepped 22)
            ≡ cond (possible (letter_by_place q l) (state_at q i)) (steps_to (next_at t i l) (reaction q (letter_by_place q l) (state_at q i)).does) (not_stepped 22)
        by true e = rw (r.possible_is i l hi hl, e, orders_are (subst T (sym e) tt))
        by false e = rw (r.possible_is i l hi hl, e)

  pub right-start : table_start t ≡ steps_to 0 (map (λ m. flag (runs_l m (start_of q).left)) q.modules)
  unfolding table_start
  right-start =
      let k = modules-counted in
      let x = map (λ m. flag (runs_l m (start_of q).left)) q.modules in
      let os : map (λ m. start_at t m) (below (module_count t)) ≡ x =
      below-is (λ m. start_at t m) (module_count t) x 0 (length-map q.modules _ ∙ sym k)
      (λ m h. r.start_are m (omega arith) ∙ sym (map_at (λ m. flag (runs_l m (start_of q).left)) q.modules m 0 0 (omega arith)))
      in
      rw (r.is_table, os)

-- ---- both, from the same state

-- the answers x and y to a step from state i show the same, and s is the state after it
pub record Steps (q : Program) (n i : ℕ) (x : Stepped) (y : Lived) (s : State) : Type 0 where
  pub shows : table_shows i x ≡ live_shows q y
  pub below_count : state_after i x < n
  pub leads : state_at q (state_after i x) ≡ s

module _ (file : List ℕ) (q : Program) (e : reading parse adaptive file ≡ accepted q) (t : List ℕ) (n : ℕ) (r : TableRight q t n) where
  pub listed-reach : (j : ℕ) → j < n → Reach q (state_at q j)
  listed-reach j h =
      let c = r.counted in (r.listed (state_at q j)).0 (has-at (discovered q).seen j (start_of q) (omega arith))

  pub listed-written : (j : ℕ) → j < n → Written q (state_at q j)
  listed-written j h = reach-written file q e (state_at q j) (listed-reach j h)

  -- the code of the j-th state has the number j
  pub number-live : (j : ℕ) → j < n → live_number q (code q (state_at q j)) ≡ j
  unfolding live_number
  number-live j h =
      let c = r.counted in
      rw (decode_code q (accepted-fit file q e) (state_at q j) (listed-written j h)) (number-back (discovered q).seen r.once j (start_of q) (omega arith))

  module _ (i : ℕ) (hi : i < n) where
    abbrev here : State
    here = state_at q i

    -- what both show of a refusal, in the state k
    abbrev shown : (number k : ℕ) → Shown
    shown number k = record { number = number; place = 0; orders = eight []; state = k }

    stays : (number : ℕ) → table_shows i (not_stepped number) ≡ shown number i → state_after i (not_stepped number) ≡ i
        → Steps q n i (not_stepped number) (not_lived number 0 (code q here)) here
    unfolding live_shows
    stays number s z = record {
      shows = s ∙ ap (shown number) (sym (number-live i hi));
      below_count = subst (λ (k : ℕ). k < n) (sym z) hi;
      leads = ap (state_at q) z;
    }

    moves : (l : ℕ) → l < length (letters q) → T (possible (letter_by_place q l) here)
        → Steps q n i (steps_to (next_at t i l) (reaction q (letter_by_place q l) here).does) (lives_on (reaction q (letter_by_place q l) here).does (code q (reaction q (letter_by_place q l) here).state)) (reaction q (letter_by_place q l) here).state
    unfolding table_shows live_shows state_after
    moves l hl o =
        let d = r.next_is i l hi hl o in
        let b = r.next_below i l hi hl in
        record { shows = rw (sym d, number-live (next_at t i l) b); below_count = b; leads = d }

    by-entry : (l : ℕ) → l < length (letters q)
        → Steps q n i (entered t i l)
        (cond (possible (letter_by_place q l) here) (lives_on (reaction q (letter_by_place q l) here).does (code q (reaction q (letter_by_place q l) here).state)) (not_lived 22 0 (code q here)))
        (cond (possible (letter_by_place q l) here) (reaction q (letter_by_place q l) here).state here)
    by-entry l hl = rw (right-entry q t n r i l hi hl) (by (possible (letter_by_place q l) here) refl)
      where
        by : (x : Bool) → possible (letter_by_place q l) here ≡ x
            → Steps q n i (cond x (steps_to (next_at t i l) (reaction q (letter_by_place q l) here).does) (not_stepped 22))
            (cond x (lives_on (reaction q (letter_by_place q l) here).does (code q (reaction q (letter_by_place q l) here).state)) (not_lived 22 0 (code q here)))
            (cond x (reaction q (letter_by_place q l) here).state here)
        by true z = moves l hl (subst T (sym z) tt)
        by false z = stays 22 (unfold table_shows in unfold state_after in refl) (unfold state_after in refl)

    by-letter : (o : Option ℕ) (k : Option Letter) → Same q o k
        → Steps q n i (chosen o (λ u. not_stepped 21) (λ l. entered t i l))
        (chosen k (λ u. not_lived 21 0 (code q here)) (λ l. cond (possible l here) (lives_on (reaction q l here).does (code q (reaction q l here).state)) (not_lived 22 0 (code q here))))
        (chosen k (λ u. here) (λ l. cond (possible l here) (reaction q l here).state here))
    by-letter o k neither = stays 21 (unfold table_shows in unfold state_after in refl) (unfold state_after in refl)
    by-letter o k (both l hl) = by-entry l hl

    pub steps_alike : (b : ℕ) → Steps q n i (table_step t i b) (reacted coding q here b (code q here)) (next_state q here b)
    unfolding reacted next_state
    steps_alike b =
        rw (right-step q t n r i hi b)
        (by-letter (index_from 0 b (letter_bytes q.modules q.events)) (letter_of q b) (letters-alike q b (modules-ascend file q e) (events-ascend file q e)))
