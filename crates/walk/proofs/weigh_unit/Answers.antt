-- `walk::weigh_unit` meets its contract. By the unit: what it takes from the stack are the weights of its parts (`popped`).
-- Assumes nothing.
use Rattle.std.proofs.Common.{◌+◌, map, drop, ap, ◌∙◌, arith, length-drop}
use lib.Seq.{drop-drop}
use Rattle.laws.specs.Weight.{weight}
use Rattle.words.specs.Word.{terms}
use Rattle.words.proofs.Reading.{in_src}
use Rattle.walk.proofs.Units.{empty, popped, some-or, behind-src, shallow, one-is, par-is, module-judged, one_unit}
use Rattle.walk.proofs.weigh_unit.Goals as goal

pub returns-in_err-pop-in-Sequence-clause-judged : goal.returns-in_err-pop-in-Sequence-clause-judged
returns-in_err-pop-in-Sequence-clause-judged c = rw c.from_residual.ensures (shallow _ _ c.in-Sequence.ensures.says (omega (arith, empty _ _ c.requires.1.1.stacked c.in_err-pop-in-Sequence.ensures.variant.1)))

pub weigh_seq-requires : goal.weigh_seq-requires
weigh_seq-requires c = (c.requires.0.0, (c.in-Sequence.ensures.node, (popped c.requires.1.1.light c.requires.1.1.stacked c.in_ok-pop-in-Sequence.ensures.items).small))

pub returns-in_ok-pop-in-Sequence-clause-judged : goal.returns-in_ok-pop-in-Sequence-clause-judged
returns-in_ok-pop-in-Sequence-clause-judged c =
    let t = popped c.requires.1.1.light c.requires.1.1.stacked c.in_ok-pop-in-Sequence.ensures.items in
    rw (← c.in-Sequence.ensures.says) (c.weigh_seq.ensures _ _ t.deep t.weighs)

pub returns-in_ok-pop-in-Sequence-clause-taken : goal.returns-in_ok-pop-in-Sequence-clause-taken
returns-in_ok-pop-in-Sequence-clause-taken c = rw (← c.in-Sequence.ensures.says) (some-or _ (popped c.requires.1.1.light c.requires.1.1.stacked c.in_ok-pop-in-Sequence.ensures.items).stacked)

pub returns-in_err-pop-in-Star-clause-judged : goal.returns-in_err-pop-in-Star-clause-judged
returns-in_err-pop-in-Star-clause-judged c = rw c.from_residual-in_err-pop-in-Star.ensures (shallow _ _ c.in-Star.ensures.says (omega (arith, empty _ _ c.requires.1.1.stacked c.in_err-pop-in-Star.ensures.variant.1)))

pub weigh_star-requires : goal.weigh_star-requires
weigh_star-requires c =
    let t = popped c.requires.1.1.light c.requires.1.1.stacked c.in_ok-pop-in-Star.ensures.items in
    (c.requires.0.0, (c.in-Star.ensures.node, (t.small, (behind-src c.requires.1.1 t.deep, (c.requires.1.1.long, (c.requires.1.0, t.weighs))))))

pub returns-in_ok-pop-in-Star-clause-taken : goal.returns-in_ok-pop-in-Star-clause-taken
returns-in_ok-pop-in-Star-clause-taken c = rw (← c.in-Star.ensures.says) (some-or _ (popped c.requires.1.1.light c.requires.1.1.stacked c.in_ok-pop-in-Star.ensures.items).stacked)

pub returns-in_err-pop-in-Act-clause-judged : goal.returns-in_err-pop-in-Act-clause-judged
returns-in_err-pop-in-Act-clause-judged c = rw c.from_residual-in_err-pop-in-Act.ensures (shallow _ _ c.in-Act.ensures.says (omega (arith, empty _ _ c.requires.1.1.stacked c.in_err-pop-in-Act.ensures.variant.1)))

pub bounds-w-i-in-Act : goal.bounds-w-i-in-Act
bounds-w-i-in-Act c =
    let t = popped c.requires.1.1.light c.requires.1.1.stacked c.in_ok-pop-in-Act.ensures.items in
    in_src _ _ _ (behind-src c.requires.1.1 t.deep)

pub weigh_act-requires : goal.weigh_act-requires
weigh_act-requires c = (c.requires.0.0, (c.in-Act.ensures.node, (popped c.requires.1.1.light c.requires.1.1.stacked c.in_ok-pop-in-Act.ensures.items).small))

pub returns-in_ok-pop-in-Act-clause-judged : goal.returns-in_ok-pop-in-Act-clause-judged
returns-in_ok-pop-in-Act-clause-judged c =
    let t = popped c.requires.1.1.light c.requires.1.1.stacked c.in_ok-pop-in-Act.ensures.items in
    rw (← c.in-Act.ensures.says) (c.weigh_act.ensures _ _ t.deep t.weighs (one_unit (behind-src c.requires.1.1 t.deep) c.of-in-Act.result c.of-in-Act.ensures.says))

pub returns-in_ok-pop-in-Act-clause-taken : goal.returns-in_ok-pop-in-Act-clause-taken
returns-in_ok-pop-in-Act-clause-taken c = rw (← c.in-Act.ensures.says) (some-or _ (popped c.requires.1.1.light c.requires.1.1.stacked c.in_ok-pop-in-Act.ensures.items).stacked)

pub returns-in-One-clause-judged : goal.returns-in-One-clause-judged
returns-in-One-clause-judged c = rw (← c.in-One.ensures.says) one-is

pub returns-in_err-pop-in-Par-clause-judged : goal.returns-in_err-pop-in-Par-clause-judged
returns-in_err-pop-in-Par-clause-judged c = rw c.from_residual-in_err-pop-in-Par.ensures (shallow _ _ c.in-Par.ensures.says (omega (arith, empty _ _ c.requires.1.1.stacked c.in_err-pop-in-Par.ensures.variant.1)))

pub returns-in_err-pop-in-Par-2-clause-judged : goal.returns-in_err-pop-in-Par-2-clause-judged
returns-in_err-pop-in-Par-2-clause-judged c =
    let t = popped c.requires.1.1.light c.requires.1.1.stacked c.in_ok-pop-in-Par.ensures.items in
    rw c.from_residual-in_err-pop-in-Par-2.ensures (shallow _ _ c.in-Par.ensures.says (omega (arith, empty _ _ t.stacked c.in_err-pop-in-Par-2.ensures.variant.1, length-drop 1 (terms c.args.p.now (drop (c.args.i + 1) c.args.w.now)))))

pub overflow_add-result : goal.overflow_add-result
overflow_add-result c =
    let t = popped c.requires.1.1.light c.requires.1.1.stacked c.in_ok-pop-in-Par.ensures.items in
    let u = popped t.light t.stacked c.in_ok-pop-in-Par-2.ensures.items in
    omega (arith, t.small, u.small, c.max.ensures, c.max-in-Par.ensures)

pub overflow_add-result-in-Par : goal.overflow_add-result-in-Par
overflow_add-result-in-Par c =
    let t = popped c.requires.1.1.light c.requires.1.1.stacked c.in_ok-pop-in-Par.ensures.items in
    let u = popped t.light t.stacked c.in_ok-pop-in-Par-2.ensures.items in
    omega (arith, t.small, u.small, c.max.ensures, c.max-in-Par.ensures)

pub returns-in_ok-pop-in-Par-2-clause-judged : goal.returns-in_ok-pop-in-Par-2-clause-judged
returns-in_ok-pop-in-Par-2-clause-judged c =
    let t = popped c.requires.1.1.light c.requires.1.1.stacked c.in_ok-pop-in-Par.ensures.items in
    let u = popped t.light t.stacked c.in_ok-pop-in-Par-2.ensures.items in
    rw (← c.in-Par.ensures.says) (par-is _ _ _ (omega (arith, t.deep, u.deep, length-drop 1 (terms c.args.p.now (drop (c.args.i + 1) c.args.w.now)))) t.weighs u.weighs (omega (arith, c.max.ensures, c.max-in-Par.ensures)))

pub returns-in_ok-pop-in-Par-2-clause-taken : goal.returns-in_ok-pop-in-Par-2-clause-taken
returns-in_ok-pop-in-Par-2-clause-taken c =
    let t = popped c.requires.1.1.light c.requires.1.1.stacked c.in_ok-pop-in-Par.ensures.items in
    let u = popped t.light t.stacked c.in_ok-pop-in-Par-2.ensures.items in
    rw (← c.in-Par.ensures.says) (u.stacked ∙ ap (map weight) (drop-drop 1 1 (terms c.args.p.now (drop (c.args.i + 1) c.args.w.now))))

pub returns-in-Module-clause-judged : goal.returns-in-Module-clause-judged
returns-in-Module-clause-judged c = rw (← c.in-Module.ensures.says, c.then_some.ensures, c.is_module.ensures) (module-judged _ _ _ c.in-Module.m c.requires.0.1)
