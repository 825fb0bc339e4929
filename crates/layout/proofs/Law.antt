-- Bytes are a table exactly when they are the writing of a table in range, and of one only. Document 01, "The table" and No. 19.
--     table-written         a table is written: what stands in it is in range, and its writing is the table
--     table-exactly         bytes are a table exactly when some table in range has them as its writing, and then no other has
-- The other direction is `written-table` of `Sound`; `written-says` of `Written` has each field of what is written. Assumes nothing.
use Prim.Native.Nat.{ℕ}
use mathlib.Core.Path.{◌≡◌, sym, ap, ◌∙◌}
use mathlib.Core.Bool.{true}
use mathlib.Core.List.{List}
use mathlib.Core.Logic.{◌↔◌}
use Rattle.paper.specs.Table.{Table, written}
use Rattle.paper.specs.IsTable.{is_table}
use Rattle.fields.specs.Window.{Bytes}
use Rattle.layout.specs.InRange.{InRange}
use Rattle.layout.specs.Says.{table_in}
use Rattle.layout.proofs.Conditions.{table-right}
use Rattle.layout.proofs.Written.{written_once}
use Rattle.layout.proofs.Sound.{written-table}
use Rattle.layout.proofs.Complete.{in_range, right-written}

pub table-written : (t : List ℕ) → Bytes t → is_table t ≡ true → InRange (table_in t) × (written (table_in t) ≡ t)
table-written t b h = (in_range t (table-right t h), right-written t (table-right t h) b)

pub table-exactly : (t : List ℕ) → Bytes t
    → (is_table t ≡ true) ↔ ((a : Table) × (InRange a × (written a ≡ t)) × ((b : Table) → InRange b → written b ≡ t → b ≡ a))
table-exactly t bytes = (
  λ h.
      let w = table-written t bytes h in
      (table_in t, w, λ b k e. written_once b (table_in t) k w.0 (e ∙ sym w.1)),
  λ w. sym (ap is_table w.1.1) ∙ written-table w.0 w.1.0,
)
