-- The letters' bytes by their index, and a search among them. Assumes nothing.
use Prim.Native.Nat.{ℕ, zero, suc, ◌+◌, ◌-◌, ◌≤◌, ◌<◌}
use mathlib.Core.Path.{◌≡◌, refl, sym, ap, ap₂, ◌∙◌}
use mathlib.Core.Bool.{Bool, cond}
use mathlib.Core.List.{List, [], ◌∷◌, ◌++◌, map}
use mathlib.Core.Option.{none, some}
use Rattle.std.proofs.Common.{◌≢◌, Option, Some, None}
use Rattle.std.specs.Option.{MatchOption}
use Rattle.refusals.specs.Refusals.{found}
use native.Mathlib.Nat.{add-zero, zero-add, not-suc-le-zero, le_of_suc-le-suc}
use native.Mathlib.Omega.{arith}
use borrow.Author.Tests.{eq-eqb, ne_eqb}
use lib.ListN.{length, get_or, length-append, get_or-append}
use lib.Seq.{get_or-append-add}
use Rattle.paper.specs.Lists.{from, below}
use Rattle.paper.specs.Grammar.{module_byte, event_byte}
use Rattle.paper.specs.IsTable.{name_at, module_count, event_count, table_modules, table_events}
use Rattle.paper.specs.Calls.{index_from, letter_bytes}
use Rattle.counts.specs.declared.Counts.{Counts}
use Rattle.counts.specs.Counts.{Read}

-- ---- a search

pub index_at : (a x : ℕ) (l : List ℕ) (i : ℕ) → i < length l → ((k : ℕ) → k < i → get_or l k 0 ≡ x → ⊥) → get_or l i 0 ≡ x → index_from a x l ≡ some (a + i)
unfolding index_from
index_at a x [] i h absent e = absurd (not-suc-le-zero h)
index_at a x (y ∷ ys) zero h absent e =
    ap (λ (b : Bool). cond b (some a) (index_from (a + 1) x ys)) (eq-eqb x y (sym e)) ∙ ap some (sym (add-zero a))
index_at a x (y ∷ ys) (suc i) h absent e =
    let s : a + 1 + i ≡ a + suc i = omega arith in
    ap (λ (b : Bool). cond b (some a) (index_from (a + 1) x ys)) (ne_eqb x y (λ q. absent 0 (omega arith) (sym q)))
    ∙ index_at (a + 1) x ys i (le_of_suc-le-suc h) (λ k l. absent (suc k) (omega arith)) e ∙ ap some s

pub index-none : (a x : ℕ) (l : List ℕ) → ((k : ℕ) → k < length l → get_or l k 0 ≡ x → ⊥) → index_from a x l ≡ none
unfolding index_from
index-none a x [] absent = refl
index-none a x (y ∷ ys) absent =
    ap (λ (b : Bool). cond b (some a) (index_from (a + 1) x ys)) (ne_eqb x y (λ q. absent 0 (omega arith) (sym q)))
    ∙ index-none (a + 1) x ys (λ k l. absent (suc k) (omega arith))

-- what a search by `find` tells
pub index_found : (l : List ℕ) (x : ℕ) (r : Option ℕ) (n : ℕ) → n ≡ length l
    → MatchOption r ((k : ℕ) → 0 ≤ k → k < n → get_or l k 0 ≢ x) (λ i. (0 ≤ i) × (i < n) × (get_or l i 0 ≡ x) × ((k : ℕ) → 0 ≤ k → k < i → get_or l k 0 ≢ x))
    → found r ≡ index_from 0 x l
index_found l x None n e h = sym (index-none 0 x l (λ k b. h k (omega arith) (omega arith)))
index_found l x (Some i) n e h = sym (index_at 0 x l i (omega (arith, h.1)) (λ k b. h.3 k (omega arith) b) h.2 ∙ ap some (zero-add i))

-- ---- the letters' bytes

maps-at : (f g : ℕ → ℕ) (j n i : ℕ) → i < n → get_or (map f (map g (from j n))) i 0 ≡ f (g (j + i))
unfolding from
maps-at f g j zero i h = absurd (not-suc-le-zero h)
maps-at f g j (suc n) zero h = ap (λ (k : ℕ). f (g k)) (sym (add-zero j))
maps-at f g j (suc n) (suc i) h =
    let e : suc j + i ≡ j + suc i = omega arith in
    maps-at f g (suc j) n i (le_of_suc-le-suc h) ∙ ap (λ (k : ℕ). f (g k)) e

maps-length : (f g : ℕ → ℕ) (j n : ℕ) → length (map f (map g (from j n))) ≡ n
unfolding from
maps-length f g j zero = refl
maps-length f g j (suc n) = ap suc (maps-length f g (suc j) n)

abbrev bytes_of : List ℕ → List ℕ
bytes_of t = letter_bytes (table_modules t) (table_events t)

pub letters-length : (t : List ℕ) (c : Counts) → Read t c → length (bytes_of t) ≡ c.modules + c.events
unfolding letter_bytes table_modules table_events below
letters-length t c r =
    length-append (map module_byte (map (name_at t) (from 0 (module_count t)))) (map event_byte (map (λ i. name_at t (module_count t + i)) (from 0 (event_count t))))
    ∙ ap₂ (λ (a b : ℕ). a + b) (maps-length module_byte (name_at t) 0 (module_count t) ∙ sym r.modules)
    (maps-length event_byte (λ i. name_at t (module_count t + i)) 0 (event_count t) ∙ sym r.events)

pub letter-module : (t : List ℕ) (c : Counts) (i x : ℕ) → Read t c → i < c.modules → x ≡ name_at t i → 97 + x ≡ get_or (bytes_of t) i 0
unfolding letter_bytes table_modules table_events below
letter-module t c i x r h e =
    let q = r.modules in
    let hi : i < module_count t = omega arith in
    let ms : List ℕ = map module_byte (map (name_at t) (from 0 (module_count t))) in
    let n : length ms ≡ module_count t = maps-length module_byte (name_at t) 0 (module_count t) in
    let z : 0 + i ≡ i = omega arith in
    ap (λ (y : ℕ). 97 + y) (e ∙ ap (name_at t) (sym z)) ∙ sym (maps-at module_byte (name_at t) 0 (module_count t) i hi)
    ∙ sym (get_or-append ms (map event_byte (map (λ k. name_at t (module_count t + k)) (from 0 (event_count t)))) 0 i (omega arith))

pub letter-event : (t : List ℕ) (c : Counts) (i x : ℕ) → Read t c → c.modules ≤ i → i < c.modules + c.events → x ≡ name_at t i
    → 65 + x ≡ get_or (bytes_of t) i 0
unfolding letter_bytes table_modules table_events below
letter-event t c i x r h l e =
    let q = r.modules in
    let p = r.events in
    let k : ℕ = i - module_count t in
    let hk : k < event_count t = omega arith in
    let ms : List ℕ = map module_byte (map (name_at t) (from 0 (module_count t))) in
    let es : List ℕ = map event_byte (map (λ k. name_at t (module_count t + k)) (from 0 (event_count t))) in
    let n : length ms ≡ module_count t = maps-length module_byte (name_at t) 0 (module_count t) in
    let z : module_count t + (0 + k) ≡ i = omega arith in
    let w : length ms + k ≡ i = omega arith in
    ap (λ (y : ℕ). 65 + y) (e ∙ ap (name_at t) (sym z)) ∙ sym (maps-at event_byte (λ j. name_at t (module_count t + j)) 0 (event_count t) k hk)
    ∙ sym (get_or-append-add ms es k 0) ∙ ap (λ (j : ℕ). get_or (ms ++ es) j 0) w
