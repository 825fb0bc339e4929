-- `walk::is_module` meets its contract.
use Rattle.std.proofs.Common.{◌==◌, ◌∙◌, rules}
use Rattle.std.proofs.lemmas.Iterator.{YieldsList-from_slice}
use Rattle.std.proofs.lemmas.Iterator.Search.{any_from_yields_List}
use Rattle.laws.proofs.Has.{list_any-has}
use Rattle.walk.proofs.is_module.Goals as goal

pub returns : goal.returns
returns c = any_from_yields_List (λ y. y == c.args.m) _ _ _ c.any.ensures.ran (YieldsList-from_slice _ c.iter.ensures.rest) (λ x b q k. search rules) ∙ list_any-has c.args.m c.args.modules.now
