-- The invariant of `discover::turn`: j letters of the turn are done (`Turning`), and the lent slices are as long as they were; the measure: the letters left.
-- Assumes nothing.
use Prim.Native.Nat.{◌+◌, ◌-◌, ◌≤◌}
use mathlib.Core.Path.{◌≡◌}
use mathlib.Core.List.{List}
use lib.ListN.{length}
use Rattle.paper.specs.Reaction.{Program, State}
use Rattle.react.specs.States.{state_of}
use Rattle.coding.specs.Written.{Written}
use Rattle.engine.specs.Live.{Loaded, Kinds}
use Rattle.discover.specs.Finding.{Numbered, Seen, Turning}
use Rattle.discover.proofs.turn.Given as goal

abbrev pub invariant-loop-j : goal.invariant-loop-j
invariant-loop-j l =
    ((length l.next ≡ length l.initial.next) × ((length l.tmp ≡ length l.initial.tmp) × ((length l.work ≡ length l.initial.work) × ((length l.index ≡ length l.initial.index) × (length l.entries ≡ length l.initial.entries)))))
    × ((l.j ≤ l.n) × ((l.n ≡ length l.modules + length l.events)
    × ((q : Program) → Loaded q l.nodes l.modules l.events → Kinds q l.fugitive → Written q (state_of l.nodes l.w l.modules l.state) → (ss : List State) → Seen q l.initial.work l.initial.index ss → length ss ≡ l.count → Numbered (state_of l.nodes l.w l.modules l.state) ss l.k
    → Turning q (state_of l.nodes l.w l.modules l.state) ss l.work l.index l.initial.entries l.entries l.at l.j l.seen)))

abbrev pub decreases-loop-j : goal.decreases-loop-j
decreases-loop-j l =
    l.n - l.j
