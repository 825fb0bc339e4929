-- `text::enter` meets its contract: each arm's key is the one that was matched. Assumes nothing.
use mathlib.Core.Path.{ap, subst, sym}
use Rattle.text.specs.declared.Key.{Key}
use Rattle.text.specs.Spans.{value_at, read_of}
use Rattle.text.specs.Steps.{Enters, key_meant, keyed_at}
use Rattle.text.proofs.enter.Goals as goal

pub returns-in-Standard : goal.returns-in-Standard
returns-in-Standard c =
    let a = c.args in
    subst (λ (k : Key). Enters a.file.now (key_meant k) a.v a.lines c.enter_standard.new.seen c.enter_standard.result)
    (sym c.in-Standard.is)
    c.enter_standard.ensures

pub returns-in-Fugitive : goal.returns-in-Fugitive
returns-in-Fugitive c =
    let a = c.args in
    subst (λ (k : Key). Enters a.file.now (key_meant k) a.v a.lines c.enter_fugitive.new.seen c.enter_fugitive.result)
    (sym c.in-Fugitive.is)
    c.enter_fugitive.ensures

pub returns-in-Program : goal.returns-in-Program
returns-in-Program c =
    let a = c.args in
    subst (λ (k : Key). Enters a.file.now (key_meant k) a.v a.lines c.enter_program.new.seen c.enter_program.result)
    (sym c.in-Program.is)
    c.enter_program.ensures

pub returns-in-Unknown : goal.returns-in-Unknown
returns-in-Unknown c =
    let a = c.args in
    ap (λ (k : Key). keyed_at (read_of a.file.now a.lines) (value_at a.file.now a.v) (key_meant k)) c.in-Unknown.is
