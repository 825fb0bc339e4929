-- `engine::turn` meets its contract: No. 23, then 21, then the letter (`Calling`). Assumes nothing.
use Rattle.engine.proofs.Calling.{of, unfound, foreign, stated, own}
use Rattle.engine.specs.Live.{meant, outcome}
use Rattle.rewrite.specs.Steps.{letter_of}
use mathlib.Core.Path.{ap, sym, ◌∙◌}
use borrow.Author.Rules.{rules}
use Rattle.engine.proofs.turn.Goals as goal

pub returns-in_default : goal.returns-in_default
returns-in_default c = λ q d k.
    unfound q c.args.live.now c.args.letter (c.in_default.ensures q (of q c.args.nodes.now c.args.modules.now c.args.events.now c.args.fugitive.now d k)) c.refuse.result c.refuse.ensures

pub go-requires : goal.go-requires
go-requires c =
    let q = c.requires.0.program in
    let d = c.requires.0.loaded in
    let h = c.in-Some.ensures q (of q c.args.nodes.now c.args.modules.now c.args.events.now c.args.fugitive.now d c.requires.0.kinds) in
    let e = ap meant (sym c.in-Own.is) ∙ c.letter_of-known.ensures q d.its in record {
      runs = record {
        program = q;
        loaded = d;
        kinds = c.requires.0.kinds;
        stated = stated q c.args.live.now c.args.letter c.args.nodes.now c.args.modules.now c.unpack.new.w c.in-Some.state h (letter_of c.in-Own.l) e;
        stands = h.stands;
        few = h.few;
        flags = h.flags;
      };
      live_len = (c.requires.1, search rules);
    }

pub returns-in-Foreign : goal.returns-in-Foreign
returns-in-Foreign c = λ q d k.
    let h = c.in-Some.ensures q (of q c.args.nodes.now c.args.modules.now c.args.events.now c.args.fugitive.now d k) in
    foreign q c.args.live.now c.args.letter c.args.nodes.now c.args.modules.now c.unpack.new.w c.in-Some.state h (ap meant (sym c.in-Foreign.is) ∙ c.letter_of-known.ensures q d.its) c.refuse-in-Foreign.result c.refuse-in-Foreign.ensures

pub returns-in-Own : goal.returns-in-Own
returns-in-Own c = λ q d k.
    let h = c.in-Some.ensures q (of q c.args.nodes.now c.args.modules.now c.args.events.now c.args.fugitive.now d k) in
    let e = ap meant (sym c.in-Own.is) ∙ c.letter_of-known.ensures q d.its in
    own q c.args.live.now c.args.letter c.args.nodes.now c.args.modules.now c.unpack.new.w c.in-Some.state h (letter_of c.in-Own.l) e (outcome c.go.result c.go.new.live)
    (c.go.ensures q d k (stated q c.args.live.now c.args.letter c.args.nodes.now c.args.modules.now c.unpack.new.w c.in-Some.state h (letter_of c.in-Own.l) e))
