-- What the header of a table says, of the check of No. 19.
--     Read t c              c has the counts of t
--     Counted t c           and layout, counts and length of t are right
--     in_limits c            the counts are within document 01's
-- Assumes nothing.
use Rattle.std.specs.Prelude.{ℕ, ◌+◌, ◌/◌, ◌≤◌, ◌≡◌, Bool, ◌&&◌, List, leb, length}
use Rattle.paper.specs.IsTable.{layout, module_count, event_count, state_count}
use Rattle.layout.specs.Places.{place}
use Rattle.counts.specs.declared.Counts.{Counts}

pub record Read (t : List ℕ) (c : Counts) : Type 0 where
  pub modules : c.modules ≡ module_count t
  pub events : c.events ≡ event_count t
  pub states : c.states ≡ state_count t

pub record Counted (t : List ℕ) (c : Counts) : Type 0 where
  pub read : Read t c
  pub laid : layout t ≡ 1
  pub few_modules : c.modules ≤ 8
  pub few_events : c.events ≤ 8
  pub few_states : c.states ≤ 512
  pub some_states : 1 ≤ c.states
  pub long : length t ≡ (place c.modules c.events c.states 0 + 7) / 8

abbrev pub in_limits : Counts → Bool
in_limits c = leb c.modules 8 && leb c.events 8 && leb c.states 512
