-- Each wrong part past the header makes No. 19, and where none is wrong the bytes are a table. `is_table` is one chain of `||`, taken apart from its end.
-- Assumes nothing.
use Prim.Native.Nat.{ℕ, ◌+◌, ◌*◌, ◌/◌, ◌-◌, ◌≤◌}
use mathlib.Core.Path.{◌≡◌, sym, ap, ap₂, ◌∙◌}
use mathlib.Core.Bool.{Bool, true, false, not, ◌&&◌, ◌||◌, or-true}
use mathlib.Core.Logic.{◌⊎◌, inl, inr}
use mathlib.Core.List.{List}
use native.Mathlib.Omega.{arith}
use borrow.Author.Tests.{eq-eqb, le-leb, not-true}
use lib.Dec.{eqb, leb}
use lib.ListN.{length, drop, length-drop}
use lib.Seq.{take_all}
use Rattle.paper.specs.IsTable.{bits_of, number_from, field, module_count, event_count, bit_count, wrong_count, wrong_length, ascend, wrong_name, wrong_next, wrong_zeros, wrong_event, wrong_start, wrong_padding, is_table}
use Rattle.fields.proofs.Bits.{bits_of-length}
use Rattle.counts.specs.declared.Counts.{Counts}
use Rattle.layout.specs.Places.{place}
use Rattle.counts.specs.Counts.{Read, Counted}
use Rattle.layout.proofs.Tests.{and_both, or_cases, not-or, not-not}
use Rattle.layout.proofs.Conditions.{right-layout}
use Rattle.counts.proofs.Counted.{with-counts}
use Rattle.std.specs.Bool.{then_some}
use Rattle.std.specs.Option.{MatchOption}

-- ---- one part is wrong

module _ (t : List ℕ) where
  pub no_start : wrong_start t ≡ true → is_table t ≡ false
  unfolding is_table
  no_start h = simp (h, or-true)

  pub no-event : wrong_event t ≡ true → is_table t ≡ false
  unfolding is_table
  no-event h = simp (h, or-true)

  pub no-zeros : wrong_zeros t ≡ true → is_table t ≡ false
  unfolding is_table
  no-zeros h = simp (h, or-true)

  pub no-padding : wrong_padding t ≡ true → is_table t ≡ false
  unfolding is_table
  no-padding h = simp (h, or-true)

  pub no-next : wrong_next t ≡ true → is_table t ≡ false
  unfolding is_table
  no-next h = simp (h, or-true)

  pub no_name : wrong_name t ≡ true → is_table t ≡ false
  unfolding is_table
  no_name h = simp (h, or-true)

  pub no_rows : (wrong_next t || wrong_zeros t || wrong_event t) ≡ true → is_table t ≡ false
  no_rows h = last (or_cases (wrong_next t || wrong_zeros t) (wrong_event t) h)
    where
      first : (wrong_next t ≡ true) ⊎ (wrong_zeros t ≡ true) → is_table t ≡ false
      first (inl a) = no-next a
      first (inr a) = no-zeros a

      last : ((wrong_next t || wrong_zeros t) ≡ true) ⊎ (wrong_event t ≡ true) → is_table t ≡ false
      last (inl a) = first (or_cases (wrong_next t) (wrong_zeros t) a)
      last (inr a) = no-event a

-- ---- the names, the padding

pub names_are : (t : List ℕ) (c : Counts) → Read t c → (ascend t 0 c.modules && ascend t c.modules c.events) ≡ not (wrong_name t)
unfolding wrong_name
names_are t c h =
    with-counts (λ m n s. ascend t 0 m && ascend t m n) t c h
    ∙ sym (not-not (ascend t 0 (module_count t) && ascend t (module_count t) (event_count t)))

pub padding_right : (t : List ℕ) (c : Counts) (end x : ℕ) → Read t c → end ≡ place c.modules c.events c.states 0
    → x ≡ field t end (8 * length t - end) → eqb x 0 ≡ not (wrong_padding t)
unfolding wrong_padding field
padding_right t c end x r f e =
    let l : length (drop end (bits_of t)) ≤ 8 * length t - end = simp (length-drop, bits_of-length) (omega arith) in
    ap (λ (n : ℕ). eqb n 0) (e ∙ ap (number_from 0) (take_all (8 * length t - end) (drop end (bits_of t)) l))
    ∙ ap (λ (n : ℕ). eqb (number_from 0 (drop n (bits_of t))) 0) (f ∙ with-counts (λ m n s. place m n s 0) t c r)
    ∙ sym (not-not (eqb (number_from 0 (drop (bit_count t) (bits_of t))) 0))

-- ---- nothing is wrong

right-count : (t : List ℕ) (c : Counts) → Counted t c → wrong_count t ≡ false
unfolding wrong_count
right-count t c h =
    ap not
    (sym (with-counts (λ m n s. leb m 8 && leb n 8 && leb s 512) t c h.read)
    ∙ ap₂ (λ (a b : Bool). a && b) (ap₂ (λ (a b : Bool). a && b) (le-leb c.modules 8 h.few_modules) (le-leb c.events 8 h.few_events)) (le-leb c.states 512 h.few_states))

right-length : (t : List ℕ) (c : Counts) → Counted t c → wrong_length t ≡ false
unfolding wrong_length
right-length t c h =
    ap not (eq-eqb (length t) ((bit_count t + 7) / 8) (h.long ∙ ap (λ (n : ℕ). (n + 7) / 8) (with-counts (λ m n s. place m n s 0) t c h.read)))

pub is-table : (t : List ℕ) (c : Counts) → Counted t c → not (wrong_name t) ≡ true → not (wrong_start t) ≡ true
    → not (wrong_next t || wrong_zeros t || wrong_event t) ≡ true → not (wrong_padding t) ≡ true → is_table t ≡ true
unfolding is_table
is-table t c h n s r p =
    let l = right-layout t h.laid in
    let k = right-count t c h in
    let g = right-length t c h in
    let a = not-true (wrong_name t) n in
    let b = not-true (wrong_start t) s in
    let d = not-true (wrong_padding t) p in
    let e = not-or (wrong_next t || wrong_zeros t) (wrong_event t) r in
    let f = not-or (wrong_next t) (wrong_zeros t) (ap not e.0) in
    simp (l, k, g, a, b, d, e.1, f.0, f.1)

-- past the header: `right` says that names, start bits, entries and padding are
pub checked_says : (t : List ℕ) (c : Counts) → Counted t c → (right : Bool)
    → right ≡ (not (wrong_name t) && not (wrong_start t) && not (wrong_next t || wrong_zeros t || wrong_event t) && not (wrong_padding t))
    → MatchOption (then_some right c) (is_table t ≡ false) (λ k. Counted t k × (is_table t ≡ true))
checked_says t c h true e =
    let p = and_both (not (wrong_name t) && not (wrong_start t) && not (wrong_next t || wrong_zeros t || wrong_event t)) (not (wrong_padding t)) (sym e) in
    let r = and_both (not (wrong_name t) && not (wrong_start t)) (not (wrong_next t || wrong_zeros t || wrong_event t)) p.0 in
    let s = and_both (not (wrong_name t)) (not (wrong_start t)) r.0 in
    (h, is-table t c h s.0 s.1 r.1 p.1)
checked_says t c h false e = grind (arith, no_name t, no_start t, no_rows t, no-padding t)
