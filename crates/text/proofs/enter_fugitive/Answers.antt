-- `text::enter_fugitive` meets its contract, by the laws of `Entering`. Assumes nothing.
use Rattle.paper.specs.File.{fugitive_key}
use Rattle.text.proofs.Entering.{enters-twice, fugitive-wrong, enters-fugitive}
use Rattle.text.proofs.enter_fugitive.Goals as goal

pub returns-then-old : goal.returns-then-old
returns-then-old c =
    let a = c.args in
    enters-twice a.file.now a.v a.lines fugitive_key c.if-old.true

pub returns-in-Wrong : goal.returns-in-Wrong
returns-in-Wrong c =
    let a = c.args in
    fugitive-wrong a.file.now a.v a.lines a.seen.now c.list-r.new.seen c.requires.1.marks c.in-Wrong.place c.in-Wrong.ensures
    c.if-old.false

pub returns-in-Fine : goal.returns-in-Fine
returns-in-Fine c =
    let a = c.args in
    enters-fugitive a.file.now a.v a.lines a.seen.now c.requires.0 c.requires.1 c.list-r.new.seen c.in-Fine.ensures
    c.if-old.false
