-- `checks::check` meets its contract: past 96 tokens No. 9 refuses, and up to them the lists hold every node (`Fits`). Assumes nothing.
use mathlib.Core.Path.{sym}
use lib.ListN.{length}
use lib.Seq.{length-take-le}
use native.Mathlib.Omega.{arith}
use Rattle.reader.specs.Reads.{edition_of}
use Rattle.reader.proofs.Fits.{no-97th, over-refused, tree-few, tree_lists, written_as}
use Rattle.reader.proofs.Listed.{end-in}
use Rattle.reader.proofs.checks.check.Goals as goal

pub slice_bounds-over_96-end : goal.slice_bounds-over_96-end
slice_bounds-over_96-end c =
    let bs = c.args.file.now in
    let s = c.args.lines.program in
    sym (length-take-le s.end bs (end-in (length bs) s c.requires.taken.lie.program))

pub check_all-requires : goal.check_all-requires
check_all-requires c =
    let a = c.args in
    let t = c.requires.has_tree in
    let o = no-97th a.file.now a.lines c.over_96-over.result c.over_96-over.ensures c.in-Nothing.is in
    let f = tree-few a.file.now a.lines c.requires.taken a.code.now a.left.now a.place.now a.n t o in
    let l = tree_lists a.file.now a.lines c.requires.taken a.code.now a.left.now a.place.now a.n t in
    record { taken = c.requires.taken; n_bound = (omega arith, omega (arith, l.0), omega (arith, l.1), omega (arith, l.2)) }

pub returns-in-At : goal.returns-in-At
returns-in-At c = λ q a e.
    over-refused (edition_of c.args.basic) c.args.file.now c.args.lines q a c.over_96-over.result c.over_96-over.ensures c.in-At.p c.in-At.is

pub returns-in-Nothing : goal.returns-in-Nothing
returns-in-Nothing c = λ q a e.
    let d = c.args in
    let o = no-97th d.file.now d.lines c.over_96-over.result c.over_96-over.ensures c.in-Nothing.is in
    c.check_all.ensures q a
    (written_as d.file.now d.lines c.requires.taken d.code.now d.left.now d.place.now d.n c.requires.has_tree q e o)
