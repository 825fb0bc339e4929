-- Discovery state by state, as the code counts it: after k turns the first k states seen had theirs, and their entries stand in the list. What holds at
-- first, after one turn more, where there is one state too many, and where no state waits any more. Assumes nothing.
use Rattle.std.specs.Prelude.{Option, Some, None, MatchOption}
use Prim.Native.Nat.{ℕ, zero, suc, ◌+◌, ◌*◌, ◌-◌, ◌≤◌, ◌<◌}
use mathlib.Core.Path.{◌≡◌, refl, sym, ap, subst, ◌∙◌}
use mathlib.Core.Bool.{Bool, true, false, cond, ◌||◌}
use mathlib.Core.List.{List, [], ◌∷◌, ◌++◌, map, append_assoc, append-nil}
use mathlib.Core.Logic.{⊎_elim}
use native.Mathlib.Nat.{zero-mul, suc-mul}
use native.Mathlib.Numerals.{add-one}
use native.Mathlib.Omega.{arith}
use lib.Dec.{ltb}
use lib.ListN.{length, take, drop, length-append, length-map, length-drop, take-append-drop, drop_of_length-le}
use lib.Seq.{take_all, take_at, drop_at, length-take-le}
use Rattle.paper.specs.Lists.{gather}
use Rattle.paper.specs.File.{refused, accepted, unless, where_if}
use Rattle.paper.specs.Rewriting.{completion, occurrence}
use Rattle.paper.specs.Reaction.{Program, State, start_of}
use Rattle.paper.specs.Discovery.{letters, finds, Found, discover, discovered}
use Rattle.paper.specs.Refusals.{most_parts, parts_of, any_too_large, has_too_many, discovering}
use Rattle.paper.specs.Running.{runs_l}
use Rattle.paper.specs.Table.{flag}
use Rattle.paper.specs.Calls.{Lived, lives_on}
use Rattle.paper.proofs.Choices.{clash}
use Rattle.paper.proofs.Equal.{eq_s-sound}
use Rattle.laws.proofs.Discovers.{found-least, few_states, discovered-complete}
use Rattle.laws.proofs.Members.{has-none, has-cases}
use Rattle.react.specs.States.{flags_of}
use Rattle.coding.specs.Written.{Written}
use Rattle.coding.specs.Code.{code}
use Rattle.coding.proofs.Fit.{Fit}
use Rattle.coding.proofs.Closed.{start_in}
use Rattle.layout.proofs.Lists.{gather_append}
use Rattle.engine.specs.declared.Answer.{Answer as Begun}
use Rattle.engine.specs.Live.{Letters, outcome}
use Rattle.slots.specs.declared.Enrolled.{Enrolled}
use Rattle.slots.specs.Slots.{Holds, number_in, enrolled, Enrolls, Full}
use Rattle.discover.specs.declared.Turned.{Turned}
use Rattle.discover.specs.Finding.{entered, turned, rows, Seen, Visited, Exploring, Explored}
use Rattle.discover.proofs.Turning.{turn_on, discover-ended}

-- ---- lists

-- where k is less than its length, a list has an element behind its first k
pub next-waits : (k : ℕ) (ss : List State) → k < length ss → (x : State) × (rest : List State) × (drop k ss ≡ x ∷ rest)
next-waits zero [] h = absurd (omega arith)
next-waits zero (x ∷ rest) h = (x, rest, refl)
next-waits (suc k) [] h = absurd (omega arith)
next-waits (suc k) (x ∷ ss) h = next-waits k ss (omega arith)

-- one element more of a list that others may join
module _ (k : ℕ) (ss : List State) (x : State) (rest : List State) (e : drop k ss ≡ x ∷ rest) where
  split : ss ≡ take k ss ++ (x ∷ rest)
  split = sym (take-append-drop k ss) ∙ ap (λ (l : List State). take k ss ++ l) e

  reaches : k < length ss
  reaches = omega (arith, length-drop k ss, ap length e)

  front_long : length (take k ss) ≡ k
  front_long = length-take-le k ss (omega (arith, reaches))

  front-more : length (take k ss ++ x ∷ []) ≡ suc k
  front-more = omega (arith, length-append (take k ss) (x ∷ []), front_long)

  joined : (new : List State) → ss ++ new ≡ (take k ss ++ x ∷ []) ++ (rest ++ new)
  joined new =
      ap (λ (l : List State). l ++ new) split
      ∙ (append_assoc (take k ss) (x ∷ rest) new
      ∙ sym (append_assoc (take k ss) (x ∷ []) (rest ++ new)))

  pub take-joined : (new : List State) → take (suc k) (ss ++ new) ≡ take k ss ++ x ∷ []
  take-joined new = ap (take (suc k)) (joined new) ∙ take_at (take k ss ++ x ∷ []) (rest ++ new) (suc k) front-more

  pub drop-joined : (new : List State) → drop (suc k) (ss ++ new) ≡ rest ++ new
  drop-joined new = ap (drop (suc k)) (joined new) ∙ drop_at (take k ss ++ x ∷ []) (rest ++ new) (suc k) front-more

-- ---- No. 18's test, one state more

large-more : (xs : List State) (x : State) → any_too_large (xs ++ x ∷ []) ≡ (any_too_large xs || ltb most_parts (parts_of x.left))
unfolding any_too_large
large-more [] x = by-large (ltb most_parts (parts_of x.left))
  where
    by-large : (b : Bool) → cond b true false ≡ b
    by-large true = refl
    by-large false = refl
large-more (y ∷ xs) x =
    ap (cond (ltb most_parts (parts_of y.left)) true) (large-more xs x)
    ∙ by_first (ltb most_parts (parts_of y.left))
  where
    by_first : (b : Bool) → cond b true (any_too_large xs || ltb most_parts (parts_of x.left)) ≡ (cond b true (any_too_large xs) || ltb most_parts (parts_of x.left))
    by_first true = refl
    by_first false = refl

-- the code's `||` goes by its first side
pub or-first : (l a b : Bool) → l ≡ true → b ≡ l → b ≡ (l || a)
or-first l a b e h = h ∙ (e ∙ ap (λ (c : Bool). c || a) (sym e))

pub or-second : (l a b : Bool) → l ≡ false → b ≡ a → b ≡ (l || a)
or-second l a b e h = h ∙ ap (λ (c : Bool). c || a) (sym e)

-- ---- the letters

pub letters-long : (q : Program) (ms es : List ℕ) → Letters q ms es → length (letters q) ≡ length ms + length es
unfolding letters
letters-long q ms es h =
    omega (
      arith,
      length-append (map (λ m. completion m) q.modules) (map (λ e. occurrence e) q.events),
      length-map q.modules (λ m. completion m),
      length-map q.events (λ e. occurrence e),
      ap length h.modules_are,
      ap length h.events_are,
    )

-- ---- what `discovering` answers

module _ (q : Program) where
  answer-many : ((discovered q).todo ≡ [] → ⊥) → discovering q ≡ refused 17 0
  unfolding discovering
  answer-many d = by-todo (discovered q).todo refl
    where
      by-todo : (todo : List State) → (discovered q).todo ≡ todo → unless (where_if (has_too_many (record { seen = (discovered q).seen; todo = todo })) 0) 17 (unless (where_if (any_too_large (discovered q).seen) 0) 18 (accepted (discovered q).seen)) ≡ refused 17 0
      by-todo [] e = absurd (d e)
      by-todo (x ∷ todo) e = refl

  answer-ended : (discovered q).todo ≡ [] → discovering q ≡ unless (where_if (any_too_large (discovered q).seen) 0) 18 (accepted (discovered q).seen)
  unfolding discovering
  answer-ended e =
      ap (λ (t : List State). unless (where_if (has_too_many (record { seen = (discovered q).seen; todo = t })) 0) 17 (unless (where_if (any_too_large (discovered q).seen) 0) 18 (accepted (discovered q).seen))) e

-- ---- turn by turn

module _ (q : Program) where
  pub explore-begin : {K X E : List ℕ} → Seen q K X (start_of q ∷ []) → Exploring q K X E 0 1 false
  unfolding discover any_too_large gather
  explore-begin {E = E} s = record {
    seen = s;
    count_is = refl;
    waiting = refl;
    large_is = refl;
    entries_are = λ more. ap (λ (n : ℕ). take n E) (zero-mul (length (letters q)));
  }

  rows_more : (all xs : List State) (x : State) → rows q all xs ++ map (entered q all x) (letters q) ≡ rows q all (xs ++ x ∷ [])
  unfolding gather
  rows_more all xs x =
      ap (λ (l : List ℕ). rows q all xs ++ l) (sym (append-nil (map (entered q all x) (letters q))))
      ∙ sym (gather_append (λ s. map (entered q all s) (letters q)) xs (x ∷ []))

  -- there are at most 512
  pub explore-few : {K X E : List ℕ} {k n : ℕ} {large : Bool} → Exploring q K X E k n large → n ≤ 512
  explore-few {k = k} x = omega (arith, x.seen.held.few, length-map (turned q k).seen (code q), x.count_is)

  -- more turns find nothing where no state waits
  ended : (k : ℕ) → k ≤ 512 → (turned q k).todo ≡ [] → discovered q ≡ turned q k
  unfolding discovered
  ended k h w = let e : 512 ≡ (512 - k) + k = omega arith in discover-ended q (512 - k) k 512 (start_of q ∷ []) (start_of q ∷ []) e w

  -- no state waits any more
  pub explore-end : {K X E : List ℕ} {k n : ℕ} {large : Bool} → Exploring q K X E k n large → n ≤ k → k ≤ n → Explored q E (record { over = false; large = large; count = n })
  explore-end {E = E} {k = k} {n = n} {large = large} x h g =
      let few : n ≤ 512 = explore-few x in
      let long : length (turned q k).seen ≤ k = omega (arith, x.count_is) in
      let waits : (turned q k).todo ≡ [] = x.waiting ∙ drop_of_length-le (turned q k).seen {i = k} long in
      let same : discovered q ≡ turned q k = ended k (omega arith) waits in
      let done : (discovered q).todo ≡ [] = ap (λ (f : Found). f.todo) same ∙ waits in
      let all : take k (turned q k).seen ≡ (discovered q).seen =
      take_all k (turned q k).seen long ∙ ap (λ (f : Found). f.seen) (sym same)
      in
      let size : large ≡ any_too_large (discovered q).seen = x.large_is ∙ ap any_too_large all in
      record {
        too_many = λ o. clash (cc);
        too_large = λ o l. answer-ended q done ∙ by_size (sym size ∙ l);
        all = λ o l. (answer-ended q done ∙ by_size (sym size ∙ l), done);
        count_is = λ o. sym x.count_is ∙ ap (λ (f : Found). length f.seen) (sym same);
        entries_are = λ o.
            let e : n ≡ k = omega arith in
            ap (λ (i : ℕ). take (i * length (letters q)) E) e
            ∙ (x.entries_are []
            ∙ (ap (λ (l : List State). rows q l (take k (turned q k).seen)) (append-nil (turned q k).seen ∙ ap (λ (f : Found). f.seen) (sym same))
            ∙ ap (rows q (discovered q).seen) all));
      }
    where
      by_size : {b : Bool} → any_too_large (discovered q).seen ≡ b → unless (where_if (any_too_large (discovered q).seen) 0) 18 (accepted (discovered q).seen) ≡ unless (where_if b 0) 18 (accepted (discovered q).seen)
      by_size e = ap (λ (b : Bool). unless (where_if b 0) 18 (accepted (discovered q).seen)) e

  -- a turn of the state k, where `v` says what it left
  module _ {K X E : List ℕ} {k n : ℕ} {large : Bool} (t : Exploring q K X E k n large) (more-wait : k < n) where
    abbrev ss : List State
    ss = (turned q k).seen

    its : (x : State) × (rest : List State) × (drop k ss ≡ x ∷ rest)
    its = next-waits k ss (omega (arith, t.count_is))

    abbrev new : List State
    new = finds q its.0 (letters q) ss

    on : turned q (suc k) ≡ record { seen = ss ++ new; todo = its.1 ++ new }
    on = turn_on q k (start_of q ∷ []) (start_of q ∷ []) its.0 its.1 (t.waiting ∙ its.2)

    seen-on : (turned q (suc k)).seen ≡ ss ++ new
    seen-on = ap (λ (f : Found). f.seen) on

    front-on : take (suc k) (turned q (suc k)).seen ≡ take k ss ++ its.0 ∷ []
    front-on = ap (take (suc k)) seen-on ∙ take-joined k ss its.0 its.1 its.2 new

    module _ (ms es : List ℕ) (own : Letters q ms es) {K' X' F : List ℕ} {a : Turned} (v : (x : State) → (rest : List State) → drop k ss ≡ x ∷ rest → Visited q x ss K' X' E F (k * (length ms + length es)) a) where
      its-turn : Visited q its.0 ss K' X' E F (k * length (letters q)) a
      its-turn =
          subst (λ (l : ℕ). Visited q its.0 ss K' X' E F (k * l) a) (sym (letters-long q ms es own)) (v its.0 its.1 its.2)

      -- one state too many
      pub explore-over : a.over ≡ true → discovering q ≡ refused 17 0
      explore-over o =
          answer-many q
          (λ e.
          omega (
            arith,
            its-turn.turns.too_many o,
            ap length seen-on,
            few_states q e,
            found-least q (suc k) (discovered q).seen (discovered-complete q e),
          ))

      module _ (o : a.over ≡ false) where
        -- none is lost
        pub explore-grows : k + 1 ≤ a.count
        explore-grows = omega (arith, its-turn.turns.count_is o, length-append ss new, t.count_is)

        next-on : (b : Bool) → b ≡ (large || a.large) → Exploring q K' X' F (suc k) a.count b
        next-on b z = record {
          seen = subst (Seen q K' X') (sym seen-on) (its-turn.turns.seen o);
          count_is = ap length seen-on ∙ sym (its-turn.turns.count_is o);
          waiting =
              ap (λ (f : Found). f.todo) on
              ∙ (sym (drop-joined k ss its.0 its.1 its.2 new) ∙ ap (drop (suc k)) (sym seen-on));
          large_is =
              z
              ∙ (ap (λ (c : Bool). c || a.large) t.large_is
              ∙ (ap (λ (c : Bool). any_too_large (take k ss) || c) (its-turn.large_is o)
              ∙ (sym (large-more (take k ss) its.0) ∙ ap any_too_large (sym front-on))));
          entries_are = λ more.
              ap (λ (i : ℕ). take i F) (suc-mul k (length (letters q)))
              ∙ (its-turn.turns.entries_are o more
              ∙ (ap (λ (l : List ℕ). l ++ map (entered q ((ss ++ new) ++ more) its.0) (letters q)) (t.entries_are (new ++ more))
              ∙ (ap (λ (l : List State). rows q l (take k ss) ++ map (entered q ((ss ++ new) ++ more) its.0) (letters q)) (sym (append_assoc ss new more))
              ∙ (rows_more ((ss ++ new) ++ more) (take k ss) its.0
              ∙ (ap (rows q ((ss ++ new) ++ more)) (sym front-on)
              ∙ ap (λ (l : List State). rows q (l ++ more) (take (suc k) (turned q (suc k)).seen)) (sym seen-on))))));
        }

        -- one turn more
        pub explore-next : (b : Bool) → b ≡ (large || a.large) → Exploring q K' X' F (k + 1) a.count b
        explore-next b z = subst (λ (i : ℕ). Exploring q K' X' F i a.count b) (sym (add-one k)) (next-on b z)

      -- the answer where there is one too many
      pub explored-over : a.over ≡ true → Explored q F (record { over = true; large = false; count = 0 })
      explored-over o = record {
        too_many = λ u. explore-over o;
        too_large = λ u. clash (cc);
        all = λ u. clash (cc);
        count_is = λ u. clash (cc);
        entries_are = λ u. clash (cc);
      }

-- ---- the start

-- the start stands alone where its code was enrolled first
pub seen_start : (q : Program) → Fit q → {W X b : List ℕ} (r : Option Enrolled) → MatchOption r (Full [] b W X) (Enrolls [] b W X) → b ≡ code q (start_of q)
    → Seen q W X (start_of q ∷ [])
unfolding enrolled number_in
seen_start q f None t e = absurd (omega (arith, t.number_is))
seen_start q f {W} {X} (Some r) t e = record {
  held = subst (λ (c : List ℕ). Holds W X (c ∷ [])) e t.holds;
  written = λ s h.
      ⊎_elim
      (λ y. subst (Written q) (sym (eq_s-sound s (start_of q) y)) (start_in q f))
      (λ y. absurd (has-none s y))
      (has-cases s (start_of q) [] h);
}

-- what the live engine begins with: the start's code, and the modules that run
module _ (q : Program) (r : Begun) {live : List ℕ} (z : outcome r live ≡ lives_on (map (λ m. flag (runs_l m (start_of q).left)) q.modules) (code q (start_of q))) where
  pub begins-code : live ≡ code q (start_of q)
  begins-code = ap (λ (x : Lived). x.live) z

  pub begins-running : (ms : List ℕ) → q.modules ≡ ms → r.orders ≡ flags_of (λ m. runs_l m (start_of q).left) ms
  begins-running ms e = ap (λ (x : Lived). x.orders) z ∙ ap (flags_of (λ m. runs_l m (start_of q).left)) e
