-- `unpack::is_fresh` meets its contract, by the invariant of its loop.
-- Assumes nothing.
use mathlib.Core.Path.{sym, ◌∙◌}
use Rattle.unpack.proofs.Loops.{fresh-fugitive, fresh-twice, fresh-on, fresh-none}
use Rattle.unpack.proofs.is_fresh.Goals as goal
use Rattle.unpack.proofs.is_fresh.Goals.{then-fugitive-e-via-then-fugitive-e, then-fugitive-e-via-else-fugitive-e+then-contains}

pub returns-then-fugitive-e : goal.returns-then-fugitive-e
returns-then-fugitive-e c =
    let fs = c.args.fugitive.now in
    let xs = c.args.stored.now in
    let i = c.loop-i.i in
    let h = c.loop-i-test.true in
    sym (c.loop-i.invariant
    ∙ (elim c.then-fugitive-e.branch [ then-fugitive-e-via-then-fugitive-e w ↦ fresh-fugitive fs xs i h w.if-fugitive-e.true | then-fugitive-e-via-else-fugitive-e+then-contains w ↦ fresh-twice fs xs i h w.contains.result w.contains.ensures.value w.if-contains.true ]))

pub loop-i-preserved : goal.loop-i-preserved
loop-i-preserved c =
    c.loop-i.invariant
    ∙ fresh-on c.args.fugitive.now c.args.stored.now c.loop-i.i c.loop-i-test.true c.contains.result c.contains.ensures.value c.if-fugitive-e.false c.if-contains.false

pub returns : goal.returns
returns c = fresh-none c.args.fugitive.now c.args.stored.now c.loop-i.i c.loop-i-test.false ∙ sym c.loop-i.invariant
