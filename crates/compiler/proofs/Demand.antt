-- The compiler's tables are right. Where a file is accepted, by either edition, its table has the reachable states of its program, each once, in the order
-- of discovery, and each entry is what the rules say (`table-right`, for every file; `TableRight` of the specs has it field by field). With the
-- contracts of the two calls, which are `compiled`, this is so of the bytes that they write. Assumes nothing.
use Prim.Native.Nat.{ℕ, zero, suc, ◌+◌, ◌<◌}
use mathlib.Core.Path.{◌≡◌, refl, sym, ap, subst, ◌∙◌}
use mathlib.Core.Bool.{Bool, true, false, not, ◌||◌}
use mathlib.Core.List.{List, [], ◌∷◌, map}
use native.Mathlib.Nat.{not-suc-le-zero, le_of_suc-le-suc}
use native.Mathlib.Omega.{arith}
use lib.Dec.{T, ltb}
use lib.ListN.{length, get_or, drop, length-map}
use lib.Seq.{take-append_seam}
use Rattle.paper.specs.Lists.{choose, is_nil, has}
use Rattle.paper.specs.Parse.{parse}
use Rattle.paper.specs.File.{Answer, refused, accepted, unless, where_if}
use Rattle.paper.specs.Running.{runs_l}
use Rattle.paper.specs.Rewriting.{Letter}
use Rattle.paper.specs.Reaction.{Program, State, start_of, possible, reaction}
use Rattle.paper.specs.Discovery.{letters, discovered}
use Rattle.paper.specs.Table.{Entry, Table, flag, written, number_of, entry_of, table_of}
use Rattle.paper.specs.IsTable.{start_at, possible_at, next_at, order_at, table_modules, table_events}
use Rattle.paper.specs.Refusals.{Edition, adaptive, any_too_large, has_too_many, reading, discovering}
use Rattle.paper.specs.Calls.{Compiled, output_bytes, work_bytes, cleared, tabled, compiled_states, compiled_program, compiled}
use Rattle.paper.proofs.Choices.{clash}
use Rattle.laws.proofs.Discovers.{discovered-sound, discovered-complete, discovered-once, discovered-begins}
use Rattle.layout.specs.InRange.{entry_at, InRange}
use Rattle.layout.specs.Says.{fugitive_at, Says}
use Rattle.layout.proofs.Ranged.{number_at, letters-length, entry-of}
use Rattle.layout.proofs.Written as writing
use Rattle.layout.proofs.Sound.{written-table}
use Rattle.reader.specs.Reads.{given, nodes_of, weights_of}
use Rattle.engine.specs.Live.{Loaded}
use Rattle.engine.proofs.Loading.{loaded}
use Rattle.compiler.specs.Demand.{letter_by_place, state_at, TableRight, Answered}
use Rattle.compiler.proofs.Editions.{both-editions, Numbered, unless-numbered, reading-numbered}
use Rattle.compiler.proofs.Building.{table-ranged, its-modules, its-events}
use Rattle.compiler.proofs.Whole.{by-room}

-- ---- an entry

chosen-first : {A : Type 0} (b : Bool) (x y : Unit {0} → A) → T b → choose b x y ≡ x tt
chosen-first true x y h = refl
chosen-first false x y h = absurd h

chosen-second : {A : Type 0} (b : Bool) (x y : Unit {0} → A) → b ≡ false → choose b x y ≡ y tt
chosen-second b x y h = ap (λ (c : Bool). choose c x y) h

map_at : {A B : Type 0} (f : A → B) (xs : List A) (i : ℕ) (a : A) (b : B) → i < length xs → get_or (map f xs) i b ≡ f (get_or xs i a)
map_at f [] i a b h = absurd (not-suc-le-zero h)
map_at f (x ∷ xs) zero a b h = refl
map_at f (x ∷ xs) (suc i) a b h = map_at f xs i a b (le_of_suc-le-suc h)

module _ (q : Program) (all : List State) (s : State) (l : Letter) where
  entry-possible : (entry_of q all s l).possible ≡ possible l s
  unfolding entry_of
  entry-possible = by (possible l s) _ _ refl refl
    where
      by : (b : Bool) (x y : Unit {0} → Entry) → (x tt).possible ≡ true → (y tt).possible ≡ false → (choose b x y).possible ≡ b
      by true x y h k = h
      by false x y h k = k

  entry-reacts : T (possible l s) → entry_of q all s l ≡ record { possible = true; next = number_of (reaction q l s).state all; orders = (reaction q l s).does }
  unfolding entry_of
  entry-reacts h = chosen-first (possible l s) _ _ h

  entry-zeros : possible l s ≡ false → entry_of q all s l ≡ record { possible = false; next = 0; orders = map (λ m. 0) q.modules }
  unfolding entry_of
  entry-zeros h = chosen-second (possible l s) _ _ h

-- ---- the table of a program whose discovery ended

module _ (q : Program) where
  abbrev all : List State
  all = (discovered q).seen

  abbrev its : Table
  its = table_of q all

  rows_long : length its.rows ≡ length all
  unfolding table_of
  rows_long = length-map all (λ s. map (entry_of q all s) (letters q))

  module _ (r : InRange its) where
    says : Says (written its) its
    says = writing.written-says its r

    fugitive-says : (e : ℕ) → e < length q.events → fugitive_at (written its) e ≡ flag (has (get_or q.events e 0) q.fugitive)
    unfolding table_of
    fugitive-says e h = says.fugitive e h ∙ ap flag (map_at (λ e. has e q.fugitive) q.events e 0 false h)

    start-says : (m : ℕ) → m < length q.modules → start_at (written its) m ≡ flag (runs_l (get_or q.modules m 0) (start_of q).left)
    unfolding table_of
    start-says m h = says.start m h ∙ ap flag (map_at (λ m. runs_l m (start_of q).left) q.modules m 0 false h)

    modules-say : table_modules (written its) ≡ q.modules
    unfolding table_of
    modules-say = writing.modules_are (written its) its r says

    events-say : table_events (written its) ≡ q.events
    unfolding table_of
    events-say = writing.events_are (written its) its r says

    module _ (i l : ℕ) (hi : i < length all) (hl : l < length (letters q)) where
      here : i < length its.rows
      here = omega (arith, rows_long)

      there : l < length its.modules + length its.events
      unfolding table_of
      there = omega (arith, letters-length q)

      its-entry : entry_at its i l ≡ entry_of q all (state_at q i) (letter_by_place q l)
      its-entry = entry-of q all i l hi (omega (arith, letters-length q))

      possible-says : possible_at (written its) i l ≡ flag (possible (letter_by_place q l) (state_at q i))
      possible-says =
          says.possible i l here there
          ∙ (ap (λ (e : Entry). flag e.possible) its-entry ∙ ap flag (entry-possible q all (state_at q i) (letter_by_place q l)))

      next_small : next_at (written its) i l < length all
      next_small = omega (arith, says.next i l here there, (r.entry i l here there).next, rows_long)

      order-of : (m : ℕ) → m < length q.modules → order_at (written its) i l m ≡ get_or (entry_of q all (state_at q i) (letter_by_place q l)).orders m 0
      unfolding table_of
      order-of m hm = says.order i l m here there hm ∙ ap (λ (e : Entry). get_or e.orders m 0) its-entry

      next-of : next_at (written its) i l ≡ (entry_of q all (state_at q i) (letter_by_place q l)).next
      next-of = says.next i l here there ∙ ap (λ (e : Entry). e.next) its-entry

      next-says : T (possible (letter_by_place q l) (state_at q i)) → state_at q (next_at (written its) i l) ≡ (reaction q (letter_by_place q l) (state_at q i)).state
      next-says h =
          let x = (reaction q (letter_by_place q l) (state_at q i)).state in
          let n : next_at (written its) i l ≡ number_of x all = next-of ∙ ap (λ (e : Entry). e.next) (entry-reacts q all (state_at q i) (letter_by_place q l) h) in
          let b = next_small in
          ap (state_at q) n ∙ number_at x all (start_of q) (subst (λ (k : ℕ). k < length all) n b)

      order-says : (m : ℕ) → m < length q.modules → T (possible (letter_by_place q l) (state_at q i))
          → order_at (written its) i l m ≡ get_or (reaction q (letter_by_place q l) (state_at q i)).does m 0
      order-says m hm h =
          order-of m hm ∙ ap (λ (e : Entry). get_or e.orders m 0) (entry-reacts q all (state_at q i) (letter_by_place q l) h)

      next-none : possible (letter_by_place q l) (state_at q i) ≡ false → next_at (written its) i l ≡ 0
      next-none h = next-of ∙ ap (λ (e : Entry). e.next) (entry-zeros q all (state_at q i) (letter_by_place q l) h)

      order-none : (m : ℕ) → m < length q.modules → possible (letter_by_place q l) (state_at q i) ≡ false → order_at (written its) i l m ≡ 0
      order-none m hm h =
          order-of m hm
          ∙ (ap (λ (e : Entry). get_or e.orders m 0) (entry-zeros q all (state_at q i) (letter_by_place q l) h) ∙ map_at (λ m. 0) q.modules m 0 0 hm)

    pub program-right : (discovered q).todo ≡ [] → TableRight q (written its) (length all)
    program-right e = record {
      listed = λ s. (discovered-sound q s, discovered-complete q e s);
      once = discovered-once q;
      start_first = discovered-begins q;
      none_waits = e;
      counted = refl;
      is_written = refl;
      is_table = written-table its r;
      states_are = says.states ∙ rows_long;
      modules_are = modules-say;
      events_are = events-say;
      fugitive_are = fugitive-says;
      start_are = start-says;
      possible_is = possible-says;
      next_below = next_small;
      next_is = next-says;
      order_is = λ i l m hi hl hm. order-says i l hi hl m hm;
      next_zero = next-none;
      order_zero = λ i l m hi hl hm. order-none i l hi hl m hm;
    }

-- ---- discovery ended, where it is not refused

pub discovering-numbered : (q : Program) → Numbered (discovering q)
unfolding discovering
discovering-numbered q =
    unless-numbered (where_if (has_too_many (discovered q)) 0) 17 (unless (where_if (any_too_large (discovered q).seen) 0) 18 (accepted (discovered q).seen)) (omega arith)
    (unless-numbered (where_if (any_too_large (discovered q).seen) 0) 18 (accepted (discovered q).seen) (omega arith) tt)

pub discovering-ended : (q : Program) (ss : List State) → discovering q ≡ accepted ss → ((discovered q).todo ≡ []) × ((discovered q).seen ≡ ss)
unfolding discovering
discovering-ended q ss e = by (discovered q).todo (any_too_large (discovered q).seen) refl e
  where
    by : (todo : List State) (b : Bool) → (discovered q).todo ≡ todo
        → unless (where_if (not (is_nil todo)) 0) 17 (unless (where_if b 0) 18 (accepted (discovered q).seen)) ≡ accepted ss
        → ((discovered q).todo ≡ []) × ((discovered q).seen ≡ ss)
    by [] true z h = clash (cc)
    by [] false z h = (z, cc)
    by (x ∷ xs) b z h = clash (cc)

-- ---- of a file

-- its program's names, as the reader gives them
its-loaded : (file : List ℕ) (q : Program) → reading parse adaptive file ≡ accepted q → (P ms es : List ℕ) × Loaded q P ms es
its-loaded file q e =
    (_, _, _, loaded file q e (given (accepted q)) (nodes_of (accepted q)) (weights_of (accepted q)) (record { is = refl; its_nodes = refl; its_weights = refl }))

module _ (e : Edition) (file output work : List ℕ) where
  its_right : (q : Program) → reading parse e file ≡ accepted q → (discovered q).todo ≡ [] → Answered e file (tabled (discovered q).seen (written (table_of q (discovered q).seen)) output (cleared work))
  its_right q i z =
      let d = its-loaded file q (both-editions parse e file q i) in
      let t = written (table_of q (discovered q).seen) in
      let r = table-ranged q (its-modules q d.0 d.1 d.2 d.3) (its-events q d.0 d.1 d.2 d.3) z in
      record {
        program = q;
        reads = i;
        right = subst (λ (x : List ℕ). TableRight q x (length (discovered q).seen)) (sym (take-append_seam t (drop (length t) output))) (program-right q r z);
      }

  states-right : (q : Program) → reading parse e file ≡ accepted q → (a : Answer (List State)) → discovering q ≡ a → Numbered a → (compiled_states q a output (cleared work)).number ≡ 0
      → Answered e file (compiled_states q a output (cleared work))
  states-right q i (refused n p) d z h = absurd (omega arith)
  states-right q i (accepted ss) d z h =
      let w = discovering-ended q ss d in
      subst (λ (xs : List State). Answered e file (tabled xs (written (table_of q xs)) output (cleared work))) w.1 (its_right q i w.0)

  file-right : (a : Answer Program) → reading parse e file ≡ a → Numbered a → (compiled_program a output (cleared work)).number ≡ 0 → Answered e file (compiled_program a output (cleared work))
  file-right (refused n p) i z h = absurd (omega arith)
  file-right (accepted q) i z h = states-right q i (discovering q) refl (discovering-numbered q) h

  -- a file that is not refused has its program's table, whatever the edition, the output and the working slice
  pub table-right : (compiled parse e file output work).number ≡ 0 → Answered e file (compiled parse e file output work)
  table-right h = by (ltb (length output) output_bytes || ltb (length work) work_bytes) refl
    where
      by : (b : Bool) → (ltb (length output) output_bytes || ltb (length work) work_bytes) ≡ b → Answered e file (compiled parse e file output work)
      by true i = let z = ap (λ (c : Compiled). c.number) (by-room e file output work true i) in absurd (omega (arith, z, h))
      by false i =
          let c = by-room e file output work false i in
          subst (Answered e file) (sym c)
          (file-right (reading parse e file) refl (reading-numbered parse e file) (sym (ap (λ (x : Compiled). x.number) c) ∙ h))
