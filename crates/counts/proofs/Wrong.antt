-- Each wrong part of the header makes No. 19: `is_table` is one chain of `||`. What the tests of a header tell of it. Assumes nothing.
use Rattle.std.proofs.Common.{ℕ, ◌+◌, ◌/◌, ◌≤◌, ◌<◌, ◌≡◌, refl, sym, ap, ◌∙◌, Bool, true, false, not, ◌&&◌, List, length, MatchOption, arith}
use mathlib.Core.Bool.{or-true}
use lib.Dec.{eqb, leb}
use borrow.Author.Tests.{ne_eqb, eqb-true, eqb-false, leb-true}
use Rattle.std.specs.Bool.{then_some}
use Rattle.paper.specs.IsTable.{field, layout, state_count, bit_count, wrong_layout, wrong_count, wrong_length, is_table}
use Rattle.layout.specs.Places.{place}
use Rattle.layout.proofs.Tests.{and_both}
use Rattle.counts.specs.declared.Counts.{Counts}
use Rattle.counts.specs.Counts.{Read, Counted, in_limits}
use Rattle.counts.proofs.Counted.{with-counts}

module _ (t : List ℕ) where
  pub no_length : wrong_length t ≡ true → is_table t ≡ false
  unfolding is_table
  no_length h = simp (h, or-true)

  pub no-count : wrong_count t ≡ true → is_table t ≡ false
  unfolding is_table
  no-count h = simp (h, or-true)

  pub no-layout : wrong_layout t ≡ true → is_table t ≡ false
  unfolding is_table
  no-layout h = simp h

pub short-no : (t : List ℕ) → length t < 3 → is_table t ≡ false
unfolding wrong_length
short-no t h = no_length t (ap not (ne_eqb (length t) ((bit_count t + 7) / 8) (λ e. omega arith)))

pub layout-no : (t : List ℕ) (x : ℕ) → x ≡ field t 0 4 → (x ≡ 1 → ⊥) → is_table t ≡ false
unfolding wrong_layout layout
layout-no t x e h = no-layout t (ap not (ne_eqb (field t 0 4) 1 (λ f. h (e ∙ f))))

pub limits-no : (t : List ℕ) (c : Counts) → Read t c → in_limits c ≡ false → is_table t ≡ false
unfolding wrong_count
limits-no t c r h = no-count t (ap not (sym (with-counts (λ m n s. leb m 8 && leb n 8 && leb s 512) t c r) ∙ h))

pub length-no : (t : List ℕ) (c : Counts) → Read t c → (length t ≡ (place c.modules c.events c.states 0 + 7) / 8 → ⊥) → is_table t ≡ false
unfolding wrong_length
length-no t c r h =
    no_length t (ap not (ne_eqb (length t) ((bit_count t + 7) / 8) (λ e. h (e ∙ ap (λ (n : ℕ). (n + 7) / 8) (sym (with-counts (λ m n s. place m n s 0) t c r))))))

pub in-limits : (c : Counts) → in_limits c ≡ true → (c.modules ≤ 8) × ((c.events ≤ 8) × (c.states ≤ 512))
in-limits c h =
    let a = and_both (leb c.modules 8 && leb c.events 8) (leb c.states 512) h in
    let b = and_both (leb c.modules 8) (leb c.events 8) a.0 in
    (leb-true c.modules 8 b.0, (leb-true c.events 8 b.1, leb-true c.states 512 a.1))

pub some_states : (t : List ℕ) (c : Counts) → Read t c → 1 ≤ c.states
unfolding state_count
some_states t c r = let s = r.states in omega arith

-- past the layout: `right` says that counts and length are
pub header_says : (t : List ℕ) (c : Counts) → Read t c → field t 0 4 ≡ 1
    → (right : Bool) → right ≡ (in_limits c && eqb (length t) ((place c.modules c.events c.states 0 + 7) / 8))
    → MatchOption (then_some right c) (is_table t ≡ false) (Counted t)
unfolding layout
header_says t c r l true e =
    let b = and_both (in_limits c) (eqb (length t) ((place c.modules c.events c.states 0 + 7) / 8)) (sym e) in
    let k = in-limits c b.0 in
    record {
      read = r;
      laid = l;
      few_modules = k.0;
      few_events = k.1.0;
      few_states = k.1.1;
      some_states = some_states t c r;
      long = eqb-true (length t) ((place c.modules c.events c.states 0 + 7) / 8) b.1;
    }
header_says t c r l false e = one (in_limits c) (eqb (length t) ((place c.modules c.events c.states 0 + 7) / 8)) refl refl (sym e)
  where
    one : (a b : Bool) → in_limits c ≡ a → eqb (length t) ((place c.modules c.events c.states 0 + 7) / 8) ≡ b → (a && b) ≡ false → is_table t ≡ false
    one false b p q e = limits-no t c r p
    one true b p q e = length-no t c r (eqb-false (length t) ((place c.modules c.events c.states 0 + 7) / 8) (q ∙ e))
