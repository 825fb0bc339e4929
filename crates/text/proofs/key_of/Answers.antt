-- `text::key_of` meets its contract: the three comparisons are those of `key_of`, in its order. Assumes nothing.
use mathlib.Core.Path.{sym, ◌∙◌}
use Rattle.paper.specs.Lists.{bytes}
use Rattle.text.proofs.Keys.{key_of-standard, key_of-fugitive, key_of-program, key_of-none}
use Rattle.text.proofs.key_of.Goals as goal

pub returns-then-same : goal.returns-then-same
unfolding bytes
returns-then-same c = key_of-standard c.args.part.now (sym c.same.ensures ∙ c.if-same.true)

pub returns-then-same-2 : goal.returns-then-same-2
unfolding bytes
returns-then-same-2 c =
    key_of-fugitive c.args.part.now (sym c.same.ensures ∙ c.if-same.false) (sym c.same-2.ensures ∙ c.if-same-2.true)

pub returns-then-same-3 : goal.returns-then-same-3
unfolding bytes
returns-then-same-3 c =
    key_of-program c.args.part.now (sym c.same.ensures ∙ c.if-same.false) (sym c.same-2.ensures ∙ c.if-same-2.false)
    (sym c.same-3.ensures ∙ c.if-same-3.true)

pub returns : goal.returns
unfolding bytes
returns c =
    key_of-none c.args.part.now (sym c.same.ensures ∙ c.if-same.false) (sym c.same-2.ensures ∙ c.if-same-2.false)
    (sym c.same-3.ensures ∙ c.if-same-3.false)
