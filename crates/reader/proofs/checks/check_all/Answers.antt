-- `checks::check_all` meets its contract: the checks one after the other, on the text as a part of the file. Assumes nothing.
use Prim.Native.Nat.{ℕ}
use mathlib.Core.List.{List}
use mathlib.Core.Path.{sym, ap, ◌∙◌}
use lib.ListN.{length}
use lib.Seq.{slice, length-take-le}
use Rattle.paper.specs.Refusals.{for_edition, with_letters, within_limits}
use Rattle.text.specs.Spans.{read_of}
use Rattle.reader.specs.Reads.{edition_of}
use Rattle.reader.proofs.Listed.{end-in}
use Rattle.reader.proofs.Slices.{slice-part}
use Rattle.reader.proofs.checks.check_all.Goals as goal

pub slice_bounds-within_limits-end : goal.slice_bounds-within_limits-end
slice_bounds-within_limits-end c =
    let bs = c.args.file.now in
    let s = c.args.lines.program in
    sym (length-take-le s.end bs (end-in (length bs) s c.requires.taken.lie.program))

pub slice_bounds-with_letters-end : goal.slice_bounds-with_letters-end
slice_bounds-with_letters-end c =
    let bs = c.args.file.now in
    let s = c.args.lines.program in
    sym (length-take-le s.end bs (end-in (length bs) s c.requires.taken.lie.program))

pub returns : goal.returns
unfolding read_of
returns c = λ q a w.
    let bs = c.args.file.now in
    let ls = c.args.lines in
    let x = for_edition (edition_of c.args.basic) (read_of bs ls) ls.program.at q a in
    c.for_edition.ensures (read_of bs ls) ls.program.at q c.args.left.now a w (c.line_found.ensures bs)
    ∙ (c.with_letters-r.ensures (read_of bs ls) q x w c.lists_of-lists.ensures.lists
    ∙ (c.within_limits-r.ensures q (with_letters (read_of bs ls) ls.program.at (slice ls.program.at ls.program.end bs) q x) w
    ∙ ap (λ (v : List ℕ). within_limits ls.program.at v q (with_letters (read_of bs ls) ls.program.at v q x))
    (slice-part ls.program.at ls.program.end bs)))
