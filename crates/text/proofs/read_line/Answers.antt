-- `text::read_line` meets its contract: the cut line, entered by its key, is a step of `read_lines` (`steps-enter`). Assumes nothing.
use native.Mathlib.Omega.{arith}
use Rattle.text.specs.Spans.{read_of}
use Rattle.text.proofs.Stepping.{fresh, steps-enter}
use Rattle.text.proofs.read_line.Goals as goal

pub slice_bounds-key_of-count : goal.slice_bounds-key_of-count
slice_bounds-key_of-count c =
    let q = c.in-Parts.ensures in
    omega (arith, q.keyed, q.valued, q.ended)

pub overflow_add-v : goal.overflow_add-v
overflow_add-v c =
    let q = c.in-Parts.ensures in
    omega (arith, q.valued, q.ended)

pub enter-requires : goal.enter-requires
enter-requires c = (fresh _ _ _ _ c.in-Parts.ensures, c.requires.1)

pub returns-in-Broken : goal.returns-in-Broken
returns-in-Broken c = c.in-Broken.ensures (read_of c.args.file.now c.args.lines)

pub returns-in-Parts : goal.returns-in-Parts
returns-in-Parts c =
    let a = c.args in
    steps-enter a.file.now a.at c.in-Parts.space c.in-Parts.end c.in-Parts.ensures _ c.key_of-key.ensures a.lines
    c.enter.new.seen
    c.enter.result
    c.enter.ensures
