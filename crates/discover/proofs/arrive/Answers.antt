-- `discover::arrive` meets its contract: `go` on a copy of the word, then the bytes looked up among those found (`Moving`). Assumes nothing.
use native.Mathlib.Omega.{arith}
use mathlib.Core.Path.{◌∙◌}
use lib.ListN.{replicate}
use Rattle.rewrite.specs.Steps.{letter_of}
use Rattle.discover.proofs.Moving.{runs-copied, goes_none, goes_over, goes_on}
use borrow.Author.Rules.{rules}
use Rattle.discover.proofs.arrive.Goals as goal

pub go-a-requires : goal.go-a-requires
go-a-requires c = record { runs = runs-copied c.args.nodes.now c.args.modules.now c.args.events.now c.args.fugitive.now c.args.w.now c.copy.new.dst c.args.state (letter_of c.args.letter) c.copy.ensures c.requires.runs; live_len = (search rules, c.requires.room.tmp) }

pub returns-then-a-ne0 : goal.returns-then-a-ne0
returns-then-a-ne0 c = λ q d k h ss seen e.
    goes_none q c.args.nodes.now c.args.modules.now c.args.events.now c.args.fugitive.now c.args.w.now c.copy.new.dst c.args.state (letter_of c.args.letter) c.copy.ensures d k h (replicate 128 0) c.go-a.new.live c.go-a.result c.go-a.ensures ss c.args.work.now c.args.index.now seen c.if-a-ne0.true c.args.count e

pub returns-in_default : goal.returns-in_default
returns-in_default c = λ q d k h ss seen e.
    goes_over q c.args.nodes.now c.args.modules.now c.args.events.now c.args.fugitive.now c.args.w.now c.copy.new.dst c.args.state (letter_of c.args.letter) c.copy.ensures d k h (replicate 128 0) c.go-a.new.live c.go-a.result c.go-a.ensures ss c.args.work.now c.args.index.now seen c.if-a-ne0.false c.enroll.new.work c.enroll.new.index (λ cs g z. c.in_default.ensures.found cs g (z ∙ e)) _ _

pub entry_of-requires : goal.entry_of-requires
entry_of-requires c = omega (arith, c.in-Some.ensures.placed)

pub returns : goal.returns
returns c = λ q d k h ss seen e.
    goes_on q c.args.nodes.now c.args.modules.now c.args.events.now c.args.fugitive.now c.args.w.now c.copy.new.dst c.args.state (letter_of c.args.letter) c.copy.ensures d k h (replicate 128 0) c.go-a.new.live c.go-a.result c.go-a.ensures ss c.args.work.now c.args.index.now seen c.if-a-ne0.false c.enroll.new.work c.enroll.new.index c.in-Some.enrolled c.in-Some.ensures.placed (λ cs g z. c.in-Some.ensures.found cs g (z ∙ e)) c.entry_of.result c.entry_of.ensures
