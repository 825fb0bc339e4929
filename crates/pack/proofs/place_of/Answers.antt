-- `pack::place_of` meets its contract: the first place of the event, or how many they are, is its place (`place_is`). Assumes nothing.
use mathlib.Core.Path.{◌≡◌}
use lib.Dec.{eqb}
use borrow.Author.Rules.{rules}
use borrow.Author.Tests.{tests}
use Rattle.std.specs.List.{position}
use Rattle.std.proofs.lemmas.Iterator.{YieldsList-from_slice}
use Rattle.std.proofs.lemmas.Iterator.Search.{position_from_yields_List}
use Rattle.pack.proofs.Numbers.{place_is}
use Rattle.pack.proofs.place_of.Goals as goal

pub returns : goal.returns
returns c =
    let p : c.position.result ≡ position (λ x. eqb c.args.e x) c.args.events.now =
    position_from_yields_List (λ x. eqb c.args.e x) _ _ c.position.result c.position.ensures.ran (YieldsList-from_slice c.args.events.now cc) (λ x b q k. search (rules, tests))
    in
    cc (place_is c.args.events.now c.args.e)
