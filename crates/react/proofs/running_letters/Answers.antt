-- `react::running_letters` meets its contract: the argument is in `Invariants`.
use mathlib.Core.Bool.{false}
use mathlib.Core.Path.{refl}
use borrow.Author.Rules.{rules}
use lib.ListN.{replicate, get_or-replicate}
use Rattle.std.proofs.lemmas.List.{take_rest}
use Rattle.react.proofs.Marking.{seen_none, seen-letter, seen_other, seen_more, seen_all}
use Rattle.react.proofs.running_letters.Goals as goal
use Rattle.react.proofs.running_letters.Goals.{in-Module, in_default}

pub loop-unit-init : goal.loop-unit-init
loop-unit-init c = rw take_rest (seen_none c.args.p.now _ (replicate 26 false) c.requires.right refl (λ m h. get_or-replicate 26 m false false h))

pub bounds-flags-m : goal.bounds-flags-m
bounds-flags-m c = seen-letter c.loop-unit.invariant (search rules) c.in-Module.ensures.says

pub loop-unit-preserved : goal.loop-unit-preserved
loop-unit-preserved c =
    elim c.match-of.branch [ in-Module w ↦ rw w.flags-is (seen_more c.loop-unit.invariant (search rules) w.in-Module.ensures.says w.in-Module.ensures.number) | in_default w ↦ rw w.flags-is (seen_other c.loop-unit.invariant (search rules) c.of.result c.of.ensures.says w.in_default.not-Module) ]

pub returns : goal.returns
returns c = seen_all c.requires (rw take_rest at c.loop-unit.invariant) (rw take_rest at c.loop-unit-test.false)
