-- `emit::put_kinds` meets its contract, by the invariant of its loop.
-- Assumes nothing.
use Prim.Native.Nat.{ℕ}
use mathlib.Core.Path.{◌≡◌, ◌∙◌, ap}
use mathlib.Core.Bool.{false}
use lib.ListN.{get_or}
use Rattle.paper.specs.Table.{bits, flag}
use Rattle.emit.specs.Fills.{kind_bits}
use Rattle.emit.proofs.Loops.{flag_is, going-none, going-more}
use Rattle.emit.proofs.put_kinds.Goals as goal

pub loop-event-init : goal.loop-event-init
loop-event-init c = going-none (kind_bits c.args.fugitive.now) c.args.events.now 1 c.args.w.now

flag_of : (c : goal.After-append) → c.from-in-loop-event.result ≡ flag (get_or c.args.fugitive.now (get_or c.args.events.now c.loop-event.event-index 0) false)
flag_of c =
    c.from-in-loop-event.ensures ∙ flag_is (get_or c.args.fugitive.now c.from.result false)
    ∙ ap (λ (e : ℕ). flag (get_or c.args.fugitive.now e false)) c.from.ensures

pub loop-event-preserved : goal.loop-event-preserved
loop-event-preserved c = going-more c.loop-event.invariant c.loop-event-test.true (ap (bits 1) (flag_of c)) c.append.ensures
