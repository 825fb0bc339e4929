-- `text::read_lines` meets its contract, by the laws of `Stepping` on `Reached`. Assumes nothing.
use native.Mathlib.Omega.{arith}
use Rattle.text.proofs.Stepping.{reached-start, reached-next, stepped, answers-long, answers-refused, answers-read, answers-none}
use Rattle.text.proofs.read_lines.Goals as goal

pub returns-then-file-gt1024 : goal.returns-then-file-gt1024
returns-then-file-gt1024 c = answers-long c.args.file.now (omega arith)

pub loop-at-init : goal.loop-at-init
loop-at-init c = reached-start c.args.file.now c.no_lines-lines.result (omega arith) c.no_lines-lines.ensures

pub read_line-r-requires : goal.read_line-r-requires
read_line-r-requires c = (c.loop-at-test.true, c.loop-at.invariant.kept)

pub returns-in-Stop : goal.returns-in-Stop
returns-in-Stop c =
    let r = c.read_line-r in
    let l = c.loop-at in
    answers-refused c.args.file.now l.at l.lines l.seen l.invariant
    _
    r.result
    r.ensures
    _
    _
    c.in-Stop.is

pub loop-at-smaller : goal.loop-at-smaller
loop-at-smaller c =
    let r = c.read_line-r in
    let l = c.loop-at in
    let s = stepped _ l.at l.lines l.seen l.invariant _ r.result r.ensures _ _ c.in-Next.is in
    omega (arith, s.more, s.kept.within)

pub loop-at-preserved : goal.loop-at-preserved
loop-at-preserved c =
    let r = c.read_line-r in
    let l = c.loop-at in
    reached-next _ l.at l.lines l.seen l.invariant _ r.result r.ensures _ _ c.in-Next.is

pub returns-then-program : goal.returns-then-program
returns-then-program c =
    let l = c.loop-at in
    answers-read _ l.at l.lines l.seen l.invariant c.loop-at-test.false c.if-program.true

pub returns : goal.returns
returns c =
    let l = c.loop-at in
    answers-none _ l.at l.lines l.seen l.invariant c.loop-at-test.false c.if-program.false
