-- What is asked of an emission is met: by the table of `a/E.`, the first of document 01's runs, and its four entries' numbers. Assumes nothing.
use Prim.Native.Nat.{ℕ, zero, suc, ◌<◌}
use mathlib.Core.Bool.{Bool, true, false, ◌&&◌}
use mathlib.Core.List.{List, [], ◌∷◌}
use mathlib.Core.Path.{◌≡◌, refl}
use lib.Dec.{T, ltb, ltb→lt, lit<, lit≤}
use lib.Pow.{are_bytes}
use lib.ListN.{get_or, replicate}
use Rattle.paper.specs.Lists.{gather, from, below, every}
use Rattle.paper.specs.Table.{bits}
use Rattle.paper.specs.IsTable.{bits_of, number_from, field, layout, module_count, event_count, state_count, wrong_layout, wrong_count, wrong_length, ascend, wrong_name, wrong_next, zeros, wrong_zeros, wrong_event, wrong_start, wrong_padding, is_table, table_modules, table_events}
use Rattle.fields.specs.Window.{Bytes}
use Rattle.layout.specs.Says.{entry_in, table_in}
use Rattle.layout.proofs.Law.{table-written}
use Rattle.emit.specs.Entries.{orders_from, entry_number, Tells}
use Rattle.emit.specs.Fills.{Emits}

-- `1110010118048070008040`
abbrev pub run : List ℕ
run = 17 ∷ 16 ∷ 1 ∷ 1 ∷ 24 ∷ 4 ∷ 128 ∷ 112 ∷ 0 ∷ 128 ∷ 64 ∷ []

both : (a b : Bool) → T (a && b) → T a × T b
both true b h = (tt, h)
both false b h = absurd h

small : (s : List ℕ) → T (are_bytes s) → Bytes s
small [] h i = lit< tt
small (x ∷ xs) h zero = ltb→lt x 256 (both (ltb x 256) (are_bytes xs) h).0
small (x ∷ xs) h (suc i) = small xs (both (ltb x 256) (are_bytes xs) h).1 i

table : is_table run ≡ true
unfolding is_table wrong_layout wrong_count wrong_length ascend wrong_name wrong_next zeros wrong_zeros wrong_event wrong_start wrong_padding layout module_count event_count state_count field number_from bits_of gather bits every
table = refl

-- a and E lead to the end, E with a stop; there E stays
abbrev pub numbers : List ℕ
numbers = 33619968 ∷ 33669120 ∷ 0 ∷ 33619968 ∷ []

pub emits : Emits (0 ∷ []) (4 ∷ []) 2 4 26640
emits = record {
  few_modules = lit≤ tt;
  few_events = lit≤ tt;
  letter = below-26;
  some_states = lit≤ tt;
  few_states = lit≤ tt;
  all = lit≤ tt;
  long = lit≤ tt;
}
  where
    below-26 : (i : ℕ) → i < 1 → get_or (4 ∷ []) i 0 < 26
    below-26 zero h = lit< tt
    below-26 (suc i) h = lit< tt

pub tells : Tells (table_in run) (0 ∷ []) (4 ∷ []) (replicate 26 false) (1 ∷ replicate 7 0) 2 numbers
unfolding table_in entry_in table_modules table_events module_count event_count state_count field number_from bits_of gather bits below from orders_from entry_number
tells = record {
  modules_are = refl;
  events_are = refl;
  fugitive_are = refl;
  running_are = refl;
  states_are = refl;
  entries_are = refl;
  in_range = (table-written run (small run tt) table).0;
}
