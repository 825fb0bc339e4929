-- The table of a program whose discovery ended is one that may be written: a reachable state leads by a possible letter to a reachable state, which is
-- listed (`discovered-complete`), so each next state is below the count; each order is one of four; the start is number 0. Before it the laws of
-- `number_of`: it is below the length exactly where the state is listed, the state stands at that place, and states that join behind change nothing;
-- and that a program's names ascend. Assumes nothing.
use Prim.Native.Nat.{ℕ, zero, suc, ◌+◌, ◌≤◌, ◌<◌}
use mathlib.Core.Path.{◌≡◌, refl, subst, sym, ap, ap₂, ◌∙◌}
use mathlib.Core.Bool.{Bool, true, false, not, true≢false}
use mathlib.Core.List.{List, [], ◌∷◌, ◌++◌, map}
use mathlib.Core.Logic.{⊎_elim}
use native.Mathlib.Nat.{not-suc-le-zero, le_of_suc-le-suc}
use native.Mathlib.Omega.{arith}
use lib.Dec.{T, T_not}
use lib.ListN.{length, get_or, drop, length-append, length-map, get_or-append}
use lib.Seq.{drop-cons, get_or-append-add}
use Rattle.paper.specs.Lists.{choose, with_if, has, keep, from, below}
use Rattle.paper.specs.Running.{runs_l}
use Rattle.paper.specs.Rewriting.{Letter, completion, occurrence}
use Rattle.paper.specs.Reaction.{Program, State, start_of, possible, order, orders, reaction}
use Rattle.paper.specs.Discovery.{letters, Among, here, there, eq_s, next, discovered}
use Rattle.paper.specs.Table.{Entry, number_of, entry_of, table_of}
use Rattle.paper.proofs.Choices.{by-test}
use Rattle.paper.proofs.Equal.{eq_s-sound, eq_s-refl}
use Rattle.laws.proofs.Members.{Has, has-head, has-tail, has-cases, has-none}
use Rattle.laws.proofs.Discovers.{discovered-sound, discovered-complete, discovered-begins, few_states}
use Rattle.layout.specs.InRange.{no_entry, entry_at, Ascending, EntryInRange, InRange}

-- ---- the number of a state

-- below the length exactly where the state is listed
pub number-has : (s : State) (xs : List State) → Has s xs → number_of s xs < length xs
unfolding number_of
number-has s [] h = absurd (has-none s h)
number-has s (x ∷ xs) h =
    by-test (λ n. n < suc (length xs)) (eq_s s x) _ _ (λ e. omega arith)
    (λ e. omega (arith, number-has s xs (⊎_elim (λ k. absurd (T_not (eq_s s x) e k)) (λ k. k) (has-cases s x xs h))))

pub number-listed : (s : State) (xs : List State) → number_of s xs < length xs → Has s xs
unfolding number_of
number-listed s [] h = absurd (not-suc-le-zero h)
number-listed s (x ∷ xs) h =
    by-test (λ n. n < suc (length xs) → Has s (x ∷ xs)) (eq_s s x) (λ u. 0) (λ u. suc (number_of s xs))
    (λ e k. has-head s x xs e)
    (λ e k. has-tail s x xs (number-listed s xs (le_of_suc-le-suc k)))
    h

-- what joins behind changes no number
pub number-front : (s : State) (xs ys : List State) → Has s xs → number_of s (xs ++ ys) ≡ number_of s xs
unfolding number_of
number-front s [] ys h = absurd (has-none s h)
number-front s (x ∷ xs) ys h =
    further (eq_s s x)
    (λ e. number-front s xs ys (⊎_elim (λ k. absurd (T_not (eq_s s x) e k)) (λ k. k) (has-cases s x xs h)))
  where
    further : {m n : ℕ} (b : Bool) → (T (not b) → m ≡ n) → choose b (λ u. 0) (λ u. suc m) ≡ choose b (λ u. 0) (λ u. suc n)
    further true f = refl
    further false f = ap suc (f tt)

-- the state stands there
pub number_at : (s : State) (xs : List State) (d : State) → number_of s xs < length xs → get_or xs (number_of s xs) d ≡ s
unfolding number_of
number_at s [] d h = absurd (not-suc-le-zero h)
number_at s (x ∷ xs) d h =
    by-test (λ n. n < suc (length xs) → get_or (x ∷ xs) n d ≡ s) (eq_s s x) (λ u. 0) (λ u. suc (number_of s xs))
    (λ e k. sym (eq_s-sound s x e))
    (λ e k. number_at s xs d (le_of_suc-le-suc k))
    h

pub number-drop : (s : State) (xs : List State) → number_of s xs < length xs → drop (number_of s xs) xs ≡ s ∷ drop (suc (number_of s xs)) xs
number-drop s xs h =
    drop-cons xs (number_of s xs) s h ∙ ap (λ (x : State). x ∷ drop (suc (number_of s xs)) xs) (number_at s xs s h)

-- ---- names that ascend

pub ascending-none : Ascending []
ascending-none = record { small = λ i h. absurd (not-suc-le-zero h); above = λ i h. absurd (not-suc-le-zero h) }

-- a name in front that is below the first one
pub ascending-more : (n : ℕ) (ns : List ℕ) → n ≤ 25 → (0 < length ns → n < get_or ns 0 0) → Ascending ns → Ascending (n ∷ ns)
ascending-more n ns s f a = record { small = small; above = above }
  where
    small : (i : ℕ) → i < suc (length ns) → get_or (n ∷ ns) i 0 ≤ 25
    small zero h = s
    small (suc i) h = a.small i (le_of_suc-le-suc h)

    above : (i : ℕ) → suc i < suc (length ns) → get_or (n ∷ ns) i 0 < get_or (n ∷ ns) (suc i) 0
    above zero h = f (le_of_suc-le-suc h)
    above (suc i) h = a.above i (le_of_suc-le-suc h)

-- what a test keeps of k, k + 1, ..: it begins at k or above
kept_from : (p : ℕ → Bool) (k n : ℕ) → 0 < length (keep p (from k n)) → k ≤ get_or (keep p (from k n)) 0 0
unfolding keep from
kept_from p k zero h = omega arith
kept_from p k (suc n) h = by (keep p (from (suc k) n)) (p k) h (kept_from p (suc k) n)
  where
    by : (ns : List ℕ) (b : Bool) → 0 < length (with_if b k ns) → (0 < length ns → suc k ≤ get_or ns 0 0) → k ≤ get_or (with_if b k ns) 0 0
    by ns true g f = omega arith
    by ns false g f = omega (arith, f g)

kept-ascending : (p : ℕ → Bool) (k n : ℕ) → k + n ≤ 26 → Ascending (keep p (from k n))
unfolding keep from
kept-ascending p k zero h = ascending-none
kept-ascending p k (suc n) h = by (p k) (kept-ascending p (suc k) n (omega arith))
  where
    by : (b : Bool) → Ascending (keep p (from (suc k) n)) → Ascending (with_if b k (keep p (from (suc k) n)))
    by true a = ascending-more k (keep p (from (suc k) n)) (omega arith) (kept_from p (suc k) n) a
    by false a = a

-- the names of a program are what a test keeps of the 26 (`ascending` of `paper`)
pub ascending-kept : (p : ℕ → Bool) → Ascending (keep p (below 26))
unfolding below
ascending-kept p = kept-ascending p 0 26 (omega arith)

-- ---- what stands at a place

map_at : {A B : Type 0} (f : A → B) (xs : List A) (i : ℕ) (a : A) (b : B) → i < length xs → get_or (map f xs) i b ≡ f (get_or xs i a)
map_at f [] i a b h = absurd (not-suc-le-zero h)
map_at f (x ∷ xs) zero a b h = refl
map_at f (x ∷ xs) (suc i) a b h = map_at f xs i a b (le_of_suc-le-suc h)

among-at : (ls : List Letter) (i : ℕ) (d : Letter) → i < length ls → Among (get_or ls i d) ls
among-at [] i d h = absurd (not-suc-le-zero h)
among-at (l ∷ ls) zero d h = here
among-at (l ∷ ls) (suc i) d h = there (among-at ls i d (le_of_suc-le-suc h))

has-at : (xs : List State) (i : ℕ) (d : State) → i < length xs → Has (get_or xs i d) xs
has-at [] i d h = absurd (not-suc-le-zero h)
has-at (x ∷ xs) zero d h = has-head x x xs (eq_s-refl x)
has-at (x ∷ xs) (suc i) d h = has-tail (get_or xs i d) x xs (has-at xs i d (le_of_suc-le-suc h))

order_small : (own before after stopped : Bool) → order own before after stopped < 4
unfolding order
order_small true b true s = omega arith
order_small true b false s = omega arith
order_small false true true s = omega arith
order_small false true false s = omega arith
order_small false false true true = omega arith
order_small false false true false = omega arith
order_small false false false s = omega arith

-- ---- the letters, the orders and an entry of a program

module _ (p : Program) where
  pub letters-length : length (letters p) ≡ length p.modules + length p.events
  unfolding letters
  letters-length =
      length-append (map (λ m. completion m) p.modules) (map (λ e. occurrence e) p.events)
      ∙ ap₂ (λ (x y : ℕ). x + y) (length-map p.modules (λ m. completion m)) (length-map p.events (λ e. occurrence e))

  pub module-letter : (m : ℕ) (d : Letter) → m < length p.modules → get_or (letters p) m d ≡ completion (get_or p.modules m 0)
  unfolding letters
  module-letter m d h =
      get_or-append (map (λ m. completion m) p.modules) (map (λ e. occurrence e) p.events) d m
      (omega (arith, length-map p.modules (λ m. completion m)))
      ∙ map_at (λ m. completion m) p.modules m 0 d h

  pub event-letter : (e : ℕ) (d : Letter) → e < length p.events → get_or (letters p) (length p.modules + e) d ≡ occurrence (get_or p.events e 0)
  unfolding letters
  event-letter e d h =
      ap (λ (n : ℕ). get_or (letters p) (n + e) d) (sym (length-map p.modules (λ m. completion m)))
      ∙ get_or-append-add (map (λ m. completion m) p.modules) (map (λ e. occurrence e) p.events) e d
      ∙ map_at (λ e. occurrence e) p.events e 0 d h

  pub does-length : (l : Letter) (s : State) → length (reaction p l s).does ≡ length p.modules
  unfolding reaction orders
  does-length l s = length-map p.modules _

  pub does-small : (l : Letter) (s : State) (k : ℕ) → k < length p.modules → get_or (reaction p l s).does k 0 < 4
  unfolding reaction orders
  does-small l s k h =
      subst (λ (n : ℕ). n < 4) (sym (map_at _ p.modules k 0 0 h)) (order_small _ _ _ _)

  entry-possible : (all : List State) (s : State) (l : Letter) → (entry_of p all s l).possible ≡ possible l s
  unfolding entry_of
  entry-possible all s l = by (possible l s) _ _ refl refl
    where
      by : (b : Bool) (x y : Unit {0} → Entry) → (x tt).possible ≡ true → (y tt).possible ≡ false → (choose b x y).possible ≡ b
      by true x y h k = h
      by false x y h k = k

  -- an entry fits among n states, if the reaction's number is below n where the letter is possible
  entry-fits : (all : List State) (n : ℕ) (s : State) (l : Letter) → 1 ≤ n → (T (possible l s) → number_of (reaction p l s).state all < n) → EntryInRange (length p.modules) n (entry_of p all s l)
  unfolding entry_of
  entry-fits all n s l some h =
      by-test (EntryInRange (length p.modules) n) (possible l s) _ _
      (λ q.
      record {
        next = h q;
        count = does-length l s;
        order = does-small l s;
        zero_next = λ e. absurd (true≢false e);
        zero_order = λ e. absurd (true≢false e);
      })
      (λ q.
      record {
        next = some;
        count = length-map p.modules (λ m. 0);
        order = λ k g. subst (λ (x : ℕ). x < 4) (sym (map_at (λ m. 0) p.modules k 0 0 g)) (omega arith);
        zero_next = λ e. refl;
        zero_order = λ e k g. map_at (λ m. 0) p.modules k 0 0 g;
      })

-- ---- the table of a list of states that begins with the start and that no possible letter leaves

module _ (p : Program) (all : List State) where
  pub entry-of : (s l : ℕ) → s < length all → l < length p.modules + length p.events → entry_at (table_of p all) s l ≡ entry_of p all (get_or all s (start_of p)) (get_or (letters p) l (completion 0))
  unfolding table_of
  entry-of s l hs hl =
      ap (λ (row : List Entry). get_or row l no_entry) (map_at (λ s. map (entry_of p all s) (letters p)) all s (start_of p) [] hs)
      ∙ map_at (entry_of p all (get_or all s (start_of p))) (letters p) l (completion 0) no_entry (omega (arith, letters-length p))

  rows-length : length (table_of p all).rows ≡ length all
  unfolding table_of
  rows-length = length-map all _

  row-length : (s : ℕ) → s < length all → length (get_or (table_of p all).rows s []) ≡ length p.modules + length p.events
  unfolding table_of
  row-length s h =
      ap length (map_at (λ s. map (entry_of p all s) (letters p)) all s (start_of p) [] h) ∙ length-map (letters p) _ ∙ letters-length p

  fits-at : 1 ≤ length all
      → ((s : State) → Has s all → (l : Letter) → Among l (letters p) → T (possible l s) → Has (reaction p l s).state all)
      → (s l : ℕ) → s < length all → l < length p.modules + length p.events
      → EntryInRange (length p.modules) (length all) (entry_at (table_of p all) s l)
  fits-at some leads s l hs hl =
      let k : l < length (letters p) = omega (arith, letters-length p) in
      rw (entry-of s l hs hl)
      (entry-fits p all (length all) x y some
      (λ q. number-has (reaction p y x).state all (leads x (has-at all s (start_of p) hs) y (among-at (letters p) l (completion 0) k) q)))
    where
      x : State
      x = get_or all s (start_of p)

      y : Letter
      y = get_or (letters p) l (completion 0)

  possible-at : (s l : ℕ) → s < length all → l < length p.modules + length p.events
      → (entry_at (table_of p all) s l).possible ≡ possible (get_or (letters p) l (completion 0)) (get_or all s (start_of p))
  possible-at s l hs hl = ap (λ (e : Entry). e.possible) (entry-of s l hs hl) ∙ entry-possible p all _ _

  event_at : (s e : ℕ) → s < length all → e < length p.events → (entry_at (table_of p all) s (length p.modules + e)).possible ≡ true
  unfolding possible
  event_at s e hs he =
      possible-at s (length p.modules + e) hs (omega arith)
      ∙ ap (λ (l : Letter). possible l (get_or all s (start_of p))) (event-letter p e (completion 0) he)

  start-at : (more : List State) → all ≡ start_of p ∷ more → (m : ℕ) → m < length p.modules
      → get_or (map (λ m. runs_l m (start_of p).left) p.modules) m false ≡ (entry_at (table_of p all) 0 m).possible
  unfolding possible
  start-at more first m h =
      map_at (λ m. runs_l m (start_of p).left) p.modules m 0 false h
      ∙ sym (possible-at 0 m (omega (arith, ap length first)) (omega arith)
      ∙ ap₂ (λ (l : Letter) (s : State). possible l s) (module-letter p m (completion 0) h) (ap (λ (xs : List State). get_or xs 0 (start_of p)) first))

  pub closed-ranged : length p.modules ≤ 8 → length p.events ≤ 8 → Ascending p.modules → Ascending p.events
      → (more : List State) × (all ≡ start_of p ∷ more) → length all ≤ 512
      → ((s : State) → Has s all → (l : Letter) → Among l (letters p) → T (possible l s) → Has (reaction p l s).state all)
      → InRange (table_of p all)
  unfolding table_of
  closed-ranged fm fe am ae first few leads =
      record {
        few_modules = fm;
        few_events = fe;
        some_states = omega (arith, rows-length, some);
        few_states = omega (arith, rows-length);
        modules = am;
        events = ae;
        fugitive = length-map p.events (λ e. has e p.fugitive);
        running = length-map p.modules (λ m. runs_l m (start_of p).left);
        row = λ s h. row-length s (omega (arith, rows-length));
        entry = λ s l hs hl. rw rows-length (fits-at some leads s l (rw rows-length at hs) hl);
        event = λ s e hs he. event_at s e (rw rows-length at hs) he;
        start = start-at first.0 first.1;
      }
    where
      some : 1 ≤ length all
      some = omega (arith, ap length first.1)

-- ---- the table of a program whose discovery ended

pub ranged : (p : Program) → length p.modules ≤ 8 → length p.events ≤ 8 → Ascending p.modules → Ascending p.events
    → (discovered p).todo ≡ [] → InRange (table_of p (discovered p).seen)
ranged p fm fe am ae e =
    closed-ranged p (discovered p).seen fm fe am ae (discovered-begins p) (few_states p e)
    (λ s h l a q. discovered-complete p e (reaction p l s).state (next l a q (discovered-sound p s h)))
