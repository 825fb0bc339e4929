-- `words::event_armed` meets its contract: the event is armed exactly when one of the word's units arms it (`Arms`).
-- Assumes nothing.
use Rattle.std.proofs.Common.{◌∙◌, drop, rules}
use Rattle.std.proofs.lemmas.Iterator.{YieldsList-from_slice}
use Rattle.std.proofs.lemmas.Iterator.Adapters.{serves_from_places}
use Rattle.std.proofs.lemmas.Iterator.Search.{any_from_yields_List}
use Rattle.std.proofs.lemmas.List.{take_rest}
use Rattle.words.specs.Word.{mark, arms}
use Rattle.words.proofs.Arms.{armed_any, event-at}
use Rattle.words.proofs.event_armed.Goals as goal

pub any-requires-clause-callable : goal.any-requires-clause-callable
any-requires-clause-callable c =
    serves_from_places (YieldsList-from_slice (drop c.args.s c.args.src.now) (c.iter.ensures.rest ∙ take_rest c.args.src.now c.args.s)) (λ x q k. search rules) (λ x k h e. let f = event-at c.args.p.now c.args.src.now c.args.s x.now k c.requires.1.0 h e in search (rules, f))

pub returns : goal.returns
returns c = any_from_yields_List (λ u. arms c.args.p.now c.args.x (mark u)) _ _ _ c.any.ensures.ran (YieldsList-from_slice _ c.iter.ensures.rest) (λ x b q k. search rules) ∙ armed_any c.args.p.now c.args.x c.args.src.now c.args.s c.requires.1.0
