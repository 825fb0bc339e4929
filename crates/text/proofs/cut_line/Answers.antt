-- `text::cut_line` meets its contract: the end and the space that were found cut the first of the paper's lines (`Cutting`). Assumes nothing.
use native.Mathlib.Omega.{arith}
use Rattle.text.proofs.Cutting.{cuts-open, cuts-short, cuts-parts}
use Rattle.text.proofs.cut_line.Goals as goal

-- without its end
pub returns-then-end-file : goal.returns-then-end-file
returns-then-end-file c =
    let a = c.args in
    let e = c.find-end in
    cuts-open a.file.now a.at e.result e.ensures c.requires (omega (arith, e.ensures))

-- without a space, or nothing after it
pub returns-then-end-space : goal.returns-then-end-space
returns-then-end-space c =
    let a = c.args in
    let e = c.find-end in
    let s = c.find-space in
    cuts-short a.file.now a.at e.result e.ensures s.result s.ensures (omega (arith, e.ensures))
    (omega arith)

pub returns : goal.returns
returns c =
    let a = c.args in
    let e = c.find-end in
    let s = c.find-space in
    cuts-parts a.file.now a.at e.result e.ensures s.result s.ensures (omega (arith, e.ensures))
    (omega arith)
