-- The invariant of `discover::explore`: the first k states seen had their turn (`Exploring`), and the lent slices are as long as they were;
-- the measure: the turns left of 512, since each turn's state is one of at most 512. Assumes nothing.
use Prim.Native.Nat.{◌-◌, ◌≤◌}
use mathlib.Core.Path.{◌≡◌}
use mathlib.Core.List.{[], ◌∷◌}
use lib.ListN.{length}
use Rattle.paper.specs.Reaction.{Program, start_of}
use Rattle.engine.specs.Live.{Loaded, Kinds}
use Rattle.discover.specs.Finding.{Seen, Exploring}
use Rattle.discover.proofs.explore.Given as goal

abbrev pub invariant-loop-k : goal.invariant-loop-k
invariant-loop-k l =
    (l.k ≤ l.count)
    × (l.count ≤ 512)
    × (length l.w ≡ length l.initial.w)
    × (length l.next ≡ length l.initial.next)
    × (length l.tmp ≡ length l.initial.tmp)
    × (length l.work ≡ length l.initial.work)
    × (length l.index ≡ length l.initial.index)
    × (length l.entries ≡ length l.initial.entries)
    × ((q : Program) → Loaded q l.nodes l.modules l.events → Kinds q l.fugitive → Seen q l.initial.work l.initial.index (start_of q ∷ []) → Exploring q l.work l.index l.entries l.k l.count l.large)

abbrev pub decreases-loop-k : goal.decreases-loop-k
decreases-loop-k l =
    512 - l.k
