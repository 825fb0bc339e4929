-- `pack::start_word` meets its contract: what was drawn in front of place 96 stands as a state (`rewrite`, `stands_of`).
-- Assumes nothing.
use Rattle.paper.specs.Term.{still}
use Rattle.laws.specs.Nodes.{tree}
use Rattle.laws.specs.Weight.{weight_l}
use mathlib.Core.Path.{refl, ◌∙◌}
use Rattle.rewrite.proofs.Standing.{stands_of}
use Rattle.pack.proofs.start_word.Goals as goal

pub returns : goal.returns
unfolding weight_l
returns c =
    let d = c.expand.ensures in
    stands_of {D = c.args.w.now} {ρ = still (tree c.args.p.now c.args.root)} c.requires.1 (record { held = d.held; fits = d.fits }) refl (c.expand.auto.dst ∙ c.requires.1) c.requires.0.space
