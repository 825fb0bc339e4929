-- From what discovery found to the outcome: No. 17, No. 18, or the table. What discovery leaves tells `emit` the table of the program and its states
-- (`tells`, `emits`), and that table may be written, since discovery ended (`layout`, `Ranged`). Assumes nothing.
use Prim.Native.Nat.{ℕ, suc, ◌+◌, ◌*◌, ◌≤◌, ◌<◌}
use mathlib.Core.Path.{◌≡◌, refl, sym, ap, ap₂, subst, ◌∙◌}
use mathlib.Core.Bool.{Bool, true, false}
use mathlib.Core.List.{List, [], ◌∷◌, ◌++◌, map, map-map}
use native.Mathlib.Nat.{mul-le-mul}
use native.Mathlib.Omega.{arith}
use lib.ListN.{length, get_or, take, drop, replicate, length-map}
use Rattle.paper.specs.Lists.{has, gather}
use Rattle.paper.specs.File.{Answer, refused, accepted}
use Rattle.paper.specs.Running.{runs_l}
use Rattle.paper.specs.Reaction.{Program, State, start_of}
use Rattle.paper.specs.Discovery.{letters, discovered}
use Rattle.paper.specs.Table.{flag, written, entry_of, table_of}
use Rattle.paper.specs.Refusals.{discovering}
use Rattle.paper.specs.Calls as calls
use Rattle.paper.specs.Calls.{eight, cleared, not_compiled, compiled_states}
use Rattle.laws.proofs.Discovers.{discovered-begins, few_states}
use Rattle.react.specs.States.{Ascends, Modules}
use Rattle.layout.specs.InRange.{Ascending, InRange}
use Rattle.layout.proofs.Ranged.{ascending-none, ascending-more, letters-length, ranged}
use Rattle.emit.specs.Entries.{entry_number, Tells}
use Rattle.emit.specs.Fills.{Emits}
use Rattle.engine.specs.Live.{Loaded, Kinds}
use Rattle.discover.specs.declared.Found.{Found}
use Rattle.discover.specs.Finding.{rows, Discovers}
use Rattle.compiler.specs.declared.Compiled.{Compiled}
use Rattle.compiler.specs.Compiling.{outcome}

-- ---- names

ascends-first : (k : ℕ) (ns : List ℕ) → Ascends k ns → 0 < length ns → k ≤ get_or ns 0 0
unfolding Ascends
ascends-first k [] a h = omega arith
ascends-first k (n ∷ ns) a h = a.0

ascending-from : (k : ℕ) (ns : List ℕ) → Ascends k ns → Ascending ns
unfolding Ascends
ascending-from k [] a = ascending-none
ascending-from k (n ∷ ns) a =
    ascending-more n ns (omega (arith, a.1.0)) (ascends-first (suc n) ns a.1.1) (ascending-from (suc n) ns a.1.1)

pub names-ascend : (ns : List ℕ) → Modules ns → Ascending ns
names-ascend ns h = ascending-from 0 ns h.ascend

-- the flags by letter are those by event
kinds-are : (k : ℕ) (es fugitive : List ℕ) (fs : List Bool) → Ascends k es → ((e : ℕ) → e < 26 → get_or fs e false ≡ has e fugitive)
    → map (λ e. has e fugitive) es ≡ map (λ e. get_or fs e false) es
unfolding Ascends
kinds-are k [] fugitive fs a h = refl
kinds-are k (e ∷ es) fugitive fs a h =
    ap₂ (λ (b : Bool) (bs : List Bool). b ∷ bs) (sym (h e a.1.0)) (kinds-are (suc e) es fugitive fs a.1.1 h)

-- ---- entries

rows-numbered : (q : Program) (all ss : List State) → rows q all ss ≡ gather (map entry_number) (map (λ s. map (entry_of q all s) (letters q)) ss)
unfolding gather
rows-numbered q all [] = refl
rows-numbered q all (s ∷ ss) =
    ap₂ (λ (x y : List ℕ). x ++ y) (sym (map-map entry_number (entry_of q all s) (letters q))) (rows-numbered q all ss)

-- ---- the table of a program whose discovery ended

pub table-ranged : (q : Program) → Modules q.modules → Modules q.events → (discovered q).todo ≡ [] → InRange (table_of q (discovered q).seen)
table-ranged q m e h = ranged q m.few e.few (names-ascend q.modules m) (names-ascend q.events e) h

module _ (q : Program) (P ms es : List ℕ) (d : Loaded q P ms es) where
  pub its-modules : Modules q.modules
  its-modules = subst Modules (sym d.its.modules_are) d.modules

  pub its-events : Modules q.events
  its-events = subst Modules (sym d.its.events_are) d.events

  letters-are : length (letters q) ≡ length ms + length es
  letters-are = letters-length q ∙ ap₂ (λ (x y : List ℕ). length x + length y) d.its.modules_are d.its.events_are

  module _ (E : List ℕ) (a : Found) (h : Discovers q ms E a) (o : a.over ≡ false) (l : a.large ≡ false) where
    abbrev all : List State
    all = (discovered q).seen

    counted : a.count ≡ length all
    counted = h.explored.count_is o

    -- what `emit` is told
    pub tells : (fs : List Bool) → Kinds q fs → Tells (table_of q all) ms es fs a.running a.count E
    unfolding table_of
    tells fs k = record {
      modules_are = d.its.modules_are;
      events_are = d.its.events_are;
      fugitive_are =
          ap (λ (xs : List ℕ). map (λ e. has e q.fugitive) xs) d.its.events_are ∙ kinds-are 0 es q.fugitive fs d.events.ascend k;
      running_are =
          h.running_are
          ∙ (ap (λ (xs : List ℕ). eight (map (λ m. flag (runs_l m (start_of q).left)) xs)) (sym d.its.modules_are)
          ∙ ap eight (sym (map-map flag (λ m. runs_l m (start_of q).left) q.modules)));
      states_are = length-map all (λ s. map (entry_of q all s) (letters q)) ∙ sym counted;
      entries_are =
          ap (λ (n : ℕ). take (a.count * n) E) (sym letters-are) ∙ (h.explored.entries_are o ∙ rows-numbered q all all);
      in_range = table-ranged q its-modules its-events (h.explored.all o l).1;
    }

    -- what `emit` asks
    pub emits : (n k : ℕ) → 8192 ≤ n → 26640 ≤ k → Emits ms es a.count n k
    emits n k room long =
        let few : length all ≤ 512 = few_states q (h.explored.all o l).1 in
        let m = d.modules.few in
        let e = d.events.few in
        let states : a.count ≤ 512 = omega (arith, counted) in
        let names : length ms + length es ≤ 16 = omega arith in
        let most : a.count * (length ms + length es) ≤ 512 * 16 = mul-le-mul states names in
        record {
          few_modules = m;
          few_events = e;
          letter = λ i z. let s = (names-ascend es d.events).small i z in omega arith;
          some_states = omega (arith, counted, ap length (discovered-begins q).1);
          few_states = omega (arith, counted);
          all = omega arith;
          long = long;
        }

-- ---- outcomes

compiled-as : (r : Compiled) (output work output' work' : List ℕ) (n p s z : ℕ) → r.number ≡ n → r.place ≡ p → r.states ≡ s → r.size ≡ z → output ≡ output' → work ≡ work'
    → ◌≡◌ {A = calls.Compiled} (outcome r output work) (record { number = n; place = p; states = s; size = z; output = output'; work = work' })
compiled-as r output work output' work' n p s z a b c d e f =
    λ i. record { number = a i; place = b i; states = c i; size = d i; output = e i; work = f i }

pub refused_as : (r : Compiled) (output work work' : List ℕ) (n p : ℕ) → (r.number ≡ n) × ((r.place ≡ p) × ((r.states ≡ 0) × (r.size ≡ 0))) → work ≡ work'
    → outcome r output work ≡ not_compiled n p output work'
refused_as r output work work' n p h e = compiled-as r output work output work' n p 0 0 h.0 h.1.0 h.1.1.0 h.1.1.1 refl e

-- the working slice is cleared, which what was written there left as long as it was
pub cleared-as : (work work₁ work₂ : List ℕ) → length work₁ ≡ length work → work₂ ≡ replicate (length work₁) 0 → work₂ ≡ cleared work
cleared-as work work₁ work₂ e h = h ∙ ap (λ (n : ℕ). replicate n 0) e

module _ (q : Program) (ms E : List ℕ) (a : Found) (h : Discovers q ms E a) (output work work' : List ℕ) (w : work' ≡ cleared work) where
  answered : (x : Answer (List State)) → discovering q ≡ x → compiled_states q x output (cleared work) ≡ compiled_states q (discovering q) output (cleared work)
  answered x e = ap (λ (y : Answer (List State)). compiled_states q y output (cleared work)) (sym e)

  -- No. 17
  pub over-as : a.over ≡ true → (r : Compiled) → (r.number ≡ 17) × ((r.place ≡ 0) × ((r.states ≡ 0) × (r.size ≡ 0)))
      → outcome r output work' ≡ compiled_states q (discovering q) output (cleared work)
  over-as o r z = refused_as r output work' (cleared work) 17 0 z w ∙ answered (refused 17 0) (h.explored.too_many o)

  module _ (o : a.over ≡ false) where
    -- No. 18
    pub large-as : a.large ≡ true → (r : Compiled) → (r.number ≡ 18) × ((r.place ≡ 0) × ((r.states ≡ 0) × (r.size ≡ 0)))
        → outcome r output work' ≡ compiled_states q (discovering q) output (cleared work)
    large-as l r z = refused_as r output work' (cleared work) 18 0 z w ∙ answered (refused 18 0) (h.explored.too_large o l)

    -- the table
    pub built-as : a.large ≡ false → (size : ℕ) (output' : List ℕ)
        → (size ≡ length (written (table_of q (discovered q).seen))) × (output' ≡ written (table_of q (discovered q).seen) ++ drop (length (written (table_of q (discovered q).seen))) output)
        → outcome (record { number = 0; place = 0; states = a.count; size = size }) output' work' ≡ compiled_states q (discovering q) output (cleared work)
    built-as l size output' z =
        compiled-as (record { number = 0; place = 0; states = a.count; size = size }) output' work'
        (written (table_of q (discovered q).seen) ++ drop (length (written (table_of q (discovered q).seen))) output) (cleared work) 0 0 (length (discovered q).seen)
        (length (written (table_of q (discovered q).seen))) refl refl (h.explored.count_is o) z.0 z.1 w
        ∙ answered (accepted (discovered q).seen) (h.explored.all o l).0
