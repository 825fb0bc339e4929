-- The table of `a/E.`, document 01's first run, as what stands in it: module a, event E, two states. It is in range, so there are such tables.
-- Both by computation. Assumes nothing.
use Prim.Native.Nat.{ℕ}
use mathlib.Core.Path.{◌≡◌, refl, subst}
use mathlib.Core.Bool.{true, false}
use mathlib.Core.List.{List, [], ◌∷◌}
use Rattle.paper.specs.Lists.{gather, from, below, every}
use Rattle.paper.specs.Table.{Table, bits}
use Rattle.paper.specs.IsTable.{bits_of, number_from, field, layout, module_count, event_count, state_count, ascend, zeros, wrong_layout, wrong_count, wrong_length, wrong_name, wrong_next, wrong_zeros, wrong_event, wrong_start, wrong_padding, is_table, table_modules, table_events}
use Rattle.layout.specs.InRange.{InRange}
use Rattle.layout.specs.Says.{entry_in, table_in}
use Rattle.layout.proofs.Conditions.{table-right}
use Rattle.layout.proofs.Complete.{in_range}

-- 1110010118048070008040
abbrev first : List ℕ
first = 0x11 ∷ 0x10 ∷ 0x01 ∷ 0x01 ∷ 0x18 ∷ 0x04 ∷ 0x80 ∷ 0x70 ∷ 0x00 ∷ 0x80 ∷ 0x40 ∷ []

-- in state 0 a completes or is stopped; in state 1, the end, nothing changes
abbrev said : Table
said = record {
  modules = 0 ∷ [];
  events = 4 ∷ [];
  fugitive = false ∷ [];
  running = true ∷ [];
  rows =
      (record { possible = true; next = 1; orders = 0 ∷ [] } ∷ record { possible = true; next = 1; orders = 3 ∷ [] } ∷ [])
      ∷ (record { possible = false; next = 0; orders = 0 ∷ [] } ∷ record { possible = true; next = 1; orders = 0 ∷ [] } ∷ []) ∷ [];
}

first-table : is_table first ≡ true
unfolding gather from below every bits bits_of number_from field layout module_count event_count state_count ascend zeros wrong_layout wrong_count wrong_length wrong_name wrong_next wrong_zeros wrong_event wrong_start wrong_padding is_table
first-table = refl

first_says : table_in first ≡ said
unfolding gather from below bits bits_of number_from field module_count event_count state_count table_modules table_events entry_in table_in
first_says = refl

pub first-in-range : InRange said
first-in-range = subst InRange first_says (in_range first (table-right first first-table))
