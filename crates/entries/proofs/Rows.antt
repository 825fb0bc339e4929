-- The code's one pass over the entries tests next states, zeros and event bits: a state's entries are those of its modules and those of its events,
-- each by the law of one entry, and `every` goes through `&&`. Assumes nothing.
use Rattle.std.proofs.Common.{ℕ, ◌+◌, ◌*◌, ◌≤◌, ◌<◌, ◌≡◌, sym, ap, ◌∙◌, subst, Bool, not, ◌&&◌, ◌||◌, List, length, arith, zero-add}
use mathlib.Core.Path.{ap₂}
use mathlib.Core.Bool.{and_assoc}
use native.Mathlib.Nat.{le_trans}
use lib.Dec.{eqb, ltb}
use Rattle.paper.specs.Lists.{every}
use Rattle.paper.specs.IsTable.{field, module_count, event_count, state_count, wrong_next, zeros, wrong_zeros, wrong_event}
use Rattle.counts.specs.declared.Counts.{Counts}
use Rattle.layout.specs.Places.{place}
use Rattle.counts.specs.Counts.{Counted}
use Rattle.entries.specs.Entries.{next_of, run_right, row_right}
use Rattle.layout.proofs.Tests.{not_three}
use Rattle.layout.proofs.Every.{every-same, every-and, every-add, four}
use Rattle.entries.proofs.Entries.{module-entry, event-entry}
use Rattle.layout.proofs.Places.{place-add, place-le, entry-within}
use Rattle.counts.proofs.Counted.{with-counts, within_all}

-- a state's events stand behind its modules
place-events : (m n s : ℕ) → place m n s 0 + m * (10 + 2 * m) ≡ place m n s m
place-events m n s = place-add m n s 0 m ∙ ap (place m n s) (zero-add m)

pub row_is : (t : List ℕ) (m n s states : ℕ) → row_right t (place m n s 0) m n states
    ≡ (run_right t (place m n s 0) m (2 * m) states 67108863 && run_right t (place m n s m) n (2 * m) states 67108864)
unfolding row_right
row_is t m n s states = ap (λ (at : ℕ). run_right t (place m n s 0) m (2 * m) states 67108863 && run_right t at n (2 * m) states 67108864) (place-events m n s)

-- entries of a state lie within the slice
pub run_within : (t : List ℕ) (c : Counts) (s l k : ℕ) → Counted t c → s < c.states → l + k ≤ c.modules + c.events
    → place c.modules c.events s l + k * (10 + 2 * c.modules) ≤ 8 * length t
run_within t c s l k h b e = rw (place-add c.modules c.events s l k) (le_trans (place-le c.modules c.events s (l + k) c.states b e) (within_all t c h))

-- ---- the tests of No. 19, at the place of an entry

abbrev next_ok : List ℕ → (states at : ℕ) → Bool
next_ok t states at = ltb (field t (at + 1) 9) states

abbrev zeros_ok : List ℕ → (m at : ℕ) → Bool
zeros_ok t m at = eqb (field t at 1) 1 || (eqb (field t (at + 1) 9) 0 && every m (λ k. eqb (field t (at + 10 + 2 * k) 2) 0))

abbrev possible_ok : List ℕ → (at : ℕ) → Bool
possible_ok t at = eqb (field t at 1) 1

module _ (t : List ℕ) (m n states : ℕ) (within : place m n states 0 ≤ 8 * length t) (narrow : m ≤ 8) (some : 1 ≤ states) (few : states ≤ 512) where
  row-tests : (s : ℕ) → s < states → row_right t (place m n s 0) m n states
      ≡ (every (m + n) (λ l. next_ok t states (place m n s l)) && every (m + n) (λ l. zeros_ok t m (place m n s l))
      && every n (λ e. possible_ok t (place m n s (m + e))))
  unfolding row_right run_right
  row-tests s hs =
      ap₂ (λ (a b : Bool). a && b)
      (every-same m _ (λ l. next_ok t states (place m n s l) && zeros_ok t m (place m n s l)) modules_are ∙ every-and m (λ l. next_ok t states (place m n s l)) (λ l. zeros_ok t m (place m n s l)))
      (every-same n _ (λ e. (next_ok t states (place m n s (m + e)) && zeros_ok t m (place m n s (m + e))) && possible_ok t (place m n s (m + e))) events_are
      ∙ every-and n (λ e. next_ok t states (place m n s (m + e)) && zeros_ok t m (place m n s (m + e))) (λ e. possible_ok t (place m n s (m + e)))
      ∙ ap (λ (b : Bool). b && every n (λ e. possible_ok t (place m n s (m + e)))) (every-and n (λ e. next_ok t states (place m n s (m + e))) (λ e. zeros_ok t m (place m n s (m + e)))))
      ∙ sym (and_assoc (every m (λ l. next_ok t states (place m n s l)) && every m (λ l. zeros_ok t m (place m n s l))) (every n (λ e. next_ok t states (place m n s (m + e))) && every n (λ e. zeros_ok t m (place m n s (m + e)))) (every n (λ e. possible_ok t (place m n s (m + e)))))
      ∙ ap (λ (b : Bool). b && every n (λ e. possible_ok t (place m n s (m + e))))
      (four (every m (λ l. next_ok t states (place m n s l))) (every m (λ l. zeros_ok t m (place m n s l))) (every n (λ e. next_ok t states (place m n s (m + e)))) (every n (λ e. zeros_ok t m (place m n s (m + e))))
      ∙ ap₂ (λ (a b : Bool). a && b) (sym (every-add m n (λ l. next_ok t states (place m n s l)))) (sym (every-add m n (λ l. zeros_ok t m (place m n s l)))))
    where
      modules_are : (k : ℕ) → k < m → ltb (next_of (field t (place m n s 0 + k * (10 + 2 * m)) (10 + 2 * m)) (2 * m) 67108863) states
          ≡ (next_ok t states (place m n s k) && zeros_ok t m (place m n s k))
      modules_are k hk =
          let w = entry-within m n s k states hs (omega arith) in
          ap (λ (at : ℕ). ltb (next_of (field t at (10 + 2 * m)) (2 * m) 67108863) states) (place-add m n s 0 k ∙ ap (place m n s) (zero-add k))
          ∙ module-entry t (place m n s k) m states (omega arith) narrow some few

      events_are : (k : ℕ) → k < n → ltb (next_of (field t (place m n s 0 + m * (10 + 2 * m) + k * (10 + 2 * m)) (10 + 2 * m)) (2 * m) 67108864) states
          ≡ ((next_ok t states (place m n s (m + k)) && zeros_ok t m (place m n s (m + k))) && possible_ok t (place m n s (m + k)))
      events_are k hk =
          let w = entry-within m n s (m + k) states hs (omega arith) in
          ap (λ (at : ℕ). ltb (next_of (field t at (10 + 2 * m)) (2 * m) 67108864) states) (ap (λ (at : ℕ). at + k * (10 + 2 * m)) (place-events m n s) ∙ place-add m n s m k)
          ∙ event-entry t (place m n s (m + k)) m states (omega arith) narrow some few

  all-tests : every states (λ s. row_right t (place m n s 0) m n states)
      ≡ (every states (λ s. every (m + n) (λ l. next_ok t states (place m n s l)))
      && every states (λ s. every (m + n) (λ l. zeros_ok t m (place m n s l)))
      && every states (λ s. every n (λ e. possible_ok t (place m n s (m + e)))))
  all-tests =
      every-same states _ _ row-tests
      ∙ every-and states (λ s. every (m + n) (λ l. next_ok t states (place m n s l)) && every (m + n) (λ l. zeros_ok t m (place m n s l))) (λ s. every n (λ e. possible_ok t (place m n s (m + e))))
      ∙ ap (λ (b : Bool). b && every states (λ s. every n (λ e. possible_ok t (place m n s (m + e)))))
      (every-and states (λ s. every (m + n) (λ l. next_ok t states (place m n s l))) (λ s. every (m + n) (λ l. zeros_ok t m (place m n s l))))

-- ---- what the code tests, with the counts that it read

abbrev pub are_rows_right : List ℕ → (m n states : ℕ) → Bool
are_rows_right t m n states = every states (λ s. row_right t (place m n s 0) m n states)

rows_are : (t : List ℕ) → place (module_count t) (event_count t) (state_count t) 0 ≤ 8 * length t → module_count t ≤ 8 → 1 ≤ state_count t → state_count t ≤ 512
    → are_rows_right t (module_count t) (event_count t) (state_count t) ≡ not (wrong_next t || wrong_zeros t || wrong_event t)
unfolding wrong_next wrong_zeros wrong_event zeros
rows_are t h w k f =
    all-tests t (module_count t) (event_count t) (state_count t) h w k f
    ∙ sym (not_three (every (state_count t) (λ s. every (module_count t + event_count t) (λ l. next_ok t (state_count t) (place (module_count t) (event_count t) s l))))
    (every (state_count t) (λ s. every (module_count t + event_count t) (λ l. zeros_ok t (module_count t) (place (module_count t) (event_count t) s l))))
    (every (state_count t) (λ s. every (event_count t) (λ e. possible_ok t (place (module_count t) (event_count t) s (module_count t + e))))))

pub rows_right : (t : List ℕ) (c : Counts) → Counted t c → are_rows_right t c.modules c.events c.states ≡ not (wrong_next t || wrong_zeros t || wrong_event t)
rows_right t c h =
    let w = within_all t c h in
    let s = h.read.states in
    let i = h.some_states in
    let f = h.few_states in
    let g = h.few_modules in
    let n = h.read.modules in
    with-counts (are_rows_right t) t c h.read
    ∙ rows_are t (subst (λ (n : ℕ). n ≤ 8 * length t) (with-counts (λ m n s. place m n s 0) t c h.read) w) (omega arith) (omega arith) (omega arith)
