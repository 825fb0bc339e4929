-- `text::enter_program` meets its contract, by the laws of `Entering`. Assumes nothing.
use Rattle.paper.specs.File.{program_key}
use Rattle.text.proofs.Entering.{enters-twice, enters-program}
use Rattle.text.proofs.enter_program.Goals as goal

pub returns-then-old : goal.returns-then-old
returns-then-old c =
    let a = c.args in
    enters-twice a.file.now a.v a.lines program_key c.if-old.true

pub returns : goal.returns
returns c =
    let a = c.args in
    enters-program a.file.now a.v a.lines a.seen.now c.requires.0 c.requires.1 c.if-old.false
