-- The start bits that the code tests, with the counts that it read, are those of No. 19. Assumes nothing.
use Rattle.std.proofs.Common.{ℕ, ◌+◌, ◌*◌, ◌≡◌, ◌∙◌, sym, Bool, not, List}
use lib.Dec.{eqb}
use Rattle.paper.specs.Lists.{every}
use Rattle.paper.specs.IsTable.{field, wrong_start}
use Rattle.layout.specs.Places.{place}
use Rattle.layout.proofs.Tests.{not-not}
use Rattle.counts.specs.declared.Counts.{Counts}
use Rattle.counts.specs.Counts.{Read}
use Rattle.counts.proofs.Counted.{with-counts}

-- the start bit of a module is its possible bit in state 0
abbrev pub start_ok : List ℕ → (m n l : ℕ) → Bool
start_ok t m n l = eqb (field t (24 + 5 * (m + n) + n + l) 1) (field t (place m n 0 l) 1)

pub starts-right : (t : List ℕ) (c : Counts) → Read t c → every c.modules (start_ok t c.modules c.events) ≡ not (wrong_start t)
unfolding wrong_start
starts-right t c r = with-counts (λ m n s. every m (start_ok t m n)) t c r ∙ sym (not-not _)
