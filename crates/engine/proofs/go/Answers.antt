-- `engine::go` meets its contract: the state is one of the written set, so the reaction has room and its state can be coded (`Going`). Assumes nothing.
use mathlib.Core.Bool.{true, false}
use mathlib.Core.Path.{◌≡◌, refl, sym, ◌∙◌}
use Rattle.engine.proofs.Going.{letter-small, not-possible, ready, fits, packs, goes}
use Rattle.react.specs.States.{state_of}
use Rattle.rewrite.specs.Steps.{letter_of}
use borrow.Author.Rules.{rules}
use Rattle.engine.proofs.go.Goals as goal

pub possible-requires : goal.possible-requires
possible-requires c = (c.requires.runs.stands, letter-small c.requires.runs.program c.args.nodes.now c.args.modules.now c.args.events.now c.requires.runs.loaded c.args.w.now c.args.state (letter_of c.args.letter) c.requires.runs.stated)

pub returns-then-not-possible : goal.returns-then-not-possible
returns-then-not-possible c = λ q d k h.
    let z : c.possible.result ≡ false = c.if-not-possible.true in
    not-possible q c.args.nodes.now c.args.modules.now c.args.events.now d c.args.w.now c.args.state (letter_of c.args.letter) h c.refuse.result c.args.live.now c.refuse.ensures (sym (c.possible.ensures (state_of c.args.nodes.now c.args.w.now c.args.modules.now c.args.state) refl) ∙ z)

pub react-requires : goal.react-requires
react-requires c = ready c.requires.runs.program c.args.nodes.now c.args.modules.now c.args.events.now c.requires.runs.loaded c.args.w.now c.args.state (letter_of c.args.letter) c.requires.runs.stated c.args.tmp.now c.requires.runs.stands c.requires.live_len.1 (search rules) c.requires.runs.few

pub pack-requires : goal.pack-requires
pack-requires c = packs c.requires.runs.program c.args.nodes.now c.args.modules.now c.args.events.now c.requires.runs.loaded c.args.w.now c.args.state (letter_of c.args.letter) c.requires.runs.stated c.args.fugitive.now c.requires.runs.kinds c.is_fugitive-passing.result c.is_fugitive-passing.ensures c.react.new.w c.react.result (c.react.ensures c.requires.runs.program (fits c.requires.runs.program c.args.nodes.now c.args.modules.now c.args.events.now c.requires.runs.loaded c.args.w.now c.args.state (letter_of c.args.letter) c.requires.runs.stated c.args.fugitive.now c.requires.runs.kinds c.is_fugitive-passing.result c.is_fugitive-passing.ensures))

pub returns : goal.returns
returns c = λ q d k h.
    let z : c.possible.result ≡ true = c.if-not-possible.false in
    goes q c.args.nodes.now c.args.modules.now c.args.events.now d c.args.w.now c.args.state (letter_of c.args.letter) h c.args.fugitive.now k c.is_fugitive-passing.result c.is_fugitive-passing.ensures c.react.new.w c.react.result (c.react.ensures q (fits q c.args.nodes.now c.args.modules.now c.args.events.now d c.args.w.now c.args.state (letter_of c.args.letter) h c.args.fugitive.now k c.is_fugitive-passing.result c.is_fugitive-passing.ensures)) c.pack.result c.args.live.now c.copy_from_slice.new.self (c.pack.ensures q (record { nodes_are = d.nodes_are; modules_are = d.its.modules_are; events_are = d.its.events_are })) c.copy_from_slice.ensures.after (sym (c.possible.ensures (state_of c.args.nodes.now c.args.w.now c.args.modules.now c.args.state) refl) ∙ z)
