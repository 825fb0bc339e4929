-- `words::headed` meets its contract: the argument is in `Invariants`.
use native.Mathlib.Omega.{arith}
use mathlib.Core.Path.{◌∙◌}
use Rattle.words.proofs.Heads.{heads-letter, heads-left, heads-right, join-below}
use Rattle.words.proofs.+headed.Goals as goal

pub headed-requires : goal.headed-requires
headed-requires t c =
    let b = join-below c.args.i c.requires.0 c.node_at.ensures.columns c.in-Either.is in
    (omega (arith, c.from-in-Either.ensures), (c.requires.0, omega (arith, c.from-in-Either.ensures, c.requires.1)))

pub headed-requires-else-headed : goal.headed-requires-else-headed
headed-requires-else-headed t c =
    let b = join-below c.args.i c.requires.0 c.node_at.ensures.columns c.in-Either.is in
    (omega (arith, c.from-else-headed.ensures), (c.requires.0, omega (arith, c.from-else-headed.ensures, c.requires.1)))

pub returns-then-headed : goal.returns-then-headed
returns-then-headed t c =
    heads-left c.args.i c.requires.0 c.node_at.ensures.columns c.in-Either.is c.args.x _ c.from-in-Either.ensures c.headed.ensures c.if-headed.true

pub returns-else-headed : goal.returns-else-headed
returns-else-headed t c =
    heads-right c.args.i c.requires.0 c.node_at.ensures.columns c.in-Either.is c.args.x _ _ c.from-in-Either.ensures c.from-else-headed.ensures c.headed.ensures c.if-headed.false c.headed-else-headed.ensures

pub returns-in_default : goal.returns-in_default
returns-in_default t c =
    heads-letter c.args.i c.requires.0 c.node_at.result c.node_at.ensures.row c.in_default.not-Either c.in_default.not-Both c.args.x _ (c.from.ensures ∙ c.letter.ensures)
