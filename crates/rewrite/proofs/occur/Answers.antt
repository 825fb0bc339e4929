-- `rewrite::occur` meets its contract. The five cases of `occurred`, in its order (`Occurring`).
-- Assumes nothing.
use Rattle.rewrite.proofs.Served.{rests-by}
use native.Mathlib.Omega.{arith}
use mathlib.Core.Path.{sym, ◌∙◌}
use Rattle.rewrite.specs.Stored.{stored}
use Rattle.rewrite.proofs.Occurring.{fugitive-taken, fugitive-passed, standard-stored, standard-taken, standard-kept}
use Rattle.rewrite.proofs.occur.Goals as goal

pub store-more-requires : goal.store-more-requires
store-more-requires c = c.requires.1.1.1.1.1 (sym c.has_event.ensures ∙ c.if-has_event.false)

pub returns-then-armed : goal.returns-then-armed
returns-then-armed c = λ q k. rests-by c.rewrite_settled.result c.rewrite_settled.ensures (fugitive-taken c.requires.1.0 c.requires.1.1.0 q c.args.e (stored c.args.memory) k c.if-fugitive.true c.event_armed-armed.ensures c.if-armed.true)

pub returns-else-armed : goal.returns-else-armed
returns-else-armed c = λ q k. (c.requires.1.0, (fugitive-passed c.requires.1.0 c.requires.1.1.0 q c.args.e (stored c.args.memory) k c.if-fugitive.true c.event_armed-armed.ensures c.if-armed.false, c.requires.1.1.1.1.0))

pub returns-then-has_event : goal.returns-then-has_event
returns-then-has_event c = λ q k. (c.requires.1.0, (standard-stored c.requires.1.0 c.requires.1.1.0 q c.args.e (stored c.args.memory) k c.if-fugitive.false c.has_event.ensures c.if-has_event.true, c.requires.1.1.1.1.0))

pub returns-then-armed-2 : goal.returns-then-armed-2
returns-then-armed-2 c = λ q k. rests-by c.rewrite_settled-then-armed-2.result c.rewrite_settled-then-armed-2.ensures (standard-taken c.requires.1.0 c.requires.1.1.0 q c.args.e (stored c.args.memory) k c.if-fugitive.false c.has_event.ensures c.if-has_event.false c.event_armed-armed.ensures c.if-armed-2.true)

pub returns-else-armed-2 : goal.returns-else-armed-2
returns-else-armed-2 c = λ q k. (c.requires.1.0, (standard-kept c.requires.1.0 c.requires.1.1.0 q c.args.e (stored c.args.memory) k c.if-fugitive.false c.has_event.ensures c.if-has_event.false c.event_armed-armed.ensures c.if-armed-2.false c.store-more.ensures.1, omega (arith, c.store-more.ensures.0, c.requires.1.1.1.1.1 (sym c.has_event.ensures ∙ c.if-has_event.false))))
