-- The conditions of No. 19, one by one: bytes are a table exactly where none holds. `is_table` is one chain of `||`, taken apart from its end.
--     Right t               none of the conditions holds of t
-- Assumes nothing.
use Prim.Native.Nat.{ℕ}
use mathlib.Core.Path.{◌≡◌, refl, ap}
use mathlib.Core.Bool.{Bool, true, false, not, ◌||◌}
use mathlib.Core.List.{List}
use borrow.Author.Tests.{not-true, eq-eqb}
use Rattle.paper.specs.IsTable.{layout, wrong_layout, wrong_count, wrong_length, wrong_name, wrong_next, wrong_zeros, wrong_event, wrong_start, wrong_padding, is_table}

pub record Right (t : List ℕ) : Type 0 where
  pub layout : wrong_layout t ≡ false
  pub count : wrong_count t ≡ false
  pub name : wrong_name t ≡ false
  pub next : wrong_next t ≡ false
  pub padding : wrong_padding t ≡ false
  pub long : wrong_length t ≡ false
  pub zeros : wrong_zeros t ≡ false
  pub event : wrong_event t ≡ false
  pub start : wrong_start t ≡ false

pub right-layout : (t : List ℕ) → layout t ≡ 1 → wrong_layout t ≡ false
unfolding wrong_layout
right-layout t h = ap not (eq-eqb (layout t) 1 h)

pub right-table : (t : List ℕ) → Right t → is_table t ≡ true
unfolding is_table
right-table t r = simp (r.layout, r.count, r.name, r.next, r.padding, r.long, r.zeros, r.event, r.start)

neither : (a b : Bool) → (a || b) ≡ false → (a ≡ false) × (b ≡ false)
neither true true h = (h, h)
neither true false h = (h, refl)
neither false b h = (refl, h)

pub table-right : (t : List ℕ) → is_table t ≡ true → Right t
unfolding is_table
table-right t h =
    let s = neither _ (wrong_start t) (not-true _ h) in
    let e = neither _ (wrong_event t) s.0 in
    let z = neither _ (wrong_zeros t) e.0 in
    let l = neither _ (wrong_length t) z.0 in
    let p = neither _ (wrong_padding t) l.0 in
    let x = neither _ (wrong_next t) p.0 in
    let n = neither _ (wrong_name t) x.0 in
    let c = neither (wrong_layout t) (wrong_count t) n.0 in
    record {
      layout = c.0;
      count = c.1;
      name = n.1;
      next = x.1;
      padding = p.1;
      long = l.1;
      zeros = z.1;
      event = e.1;
      start = s.1;
    }
