-- What follows from the counts that the code read: they are the table's, its fields lie within it, and it is short. Assumes nothing.
use Rattle.std.proofs.Common.{ℕ, ◌+◌, ◌*◌, ◌≤◌, ◌<◌, ◌≡◌, ap, ◌∙◌, List, length, arith}
use native.Mathlib.Nat.{le_trans}
use Rattle.paper.specs.IsTable.{module_count, event_count, state_count}
use Rattle.layout.specs.Places.{place}
use Rattle.layout.proofs.Places.{end-le, entry-within}
use Rattle.counts.specs.declared.Counts.{Counts}
use Rattle.counts.specs.Counts.{Read, Counted}

-- the counts are those of the table
pub with-counts : {A : Type 0} (f : (m n s : ℕ) → A) (t : List ℕ) (c : Counts) → Read t c → f c.modules c.events c.states ≡ f (module_count t) (event_count t) (state_count t)
with-counts f t c r =
    ap (λ (m : ℕ). f m c.events c.states) r.modules ∙ ap (λ (n : ℕ). f (module_count t) n c.states) r.events
    ∙ ap (f (module_count t) (event_count t)) r.states

pub within_all : (t : List ℕ) (c : Counts) → Counted t c → place c.modules c.events c.states 0 ≤ 8 * length t
within_all t c h = let l = h.long in omega arith

pub entry_within : (t : List ℕ) (c : Counts) (s l : ℕ) → Counted t c → s < c.states → l < c.modules + c.events
    → place c.modules c.events s l + (10 + 2 * c.modules) ≤ 8 * length t
entry_within t c s l h b e = le_trans (entry-within c.modules c.events s l c.states b e) (within_all t c h)

-- the longest table has 26,639 bytes
pub short_all : (t : List ℕ) (c : Counts) → Counted t c → length t ≤ 26639
short_all t c h =
    let l = h.long in
    let e = end-le c.modules c.events c.states h.few_modules h.few_events h.few_states in
    omega arith
