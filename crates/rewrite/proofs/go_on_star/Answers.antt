-- `rewrite::go_on_star` meets its contract. The cases of `star_l`: gone, equal to before, or another; equal terms are equal words, so the units tell.
-- Assumes nothing.
use native.Mathlib.Omega.{arith}
use Rattle.words.proofs.Holding.{holds-less}
use Rattle.words.proofs.Reading.{in_src, past_top}
use Rattle.words.proofs.Joins.{star-gone, star-same, star-new, agree-true, agree-false}
use Rattle.rewrite.proofs.Tops.{star-drawn}
use Rattle.rewrite.proofs.go_on_star.Goals as goal

pub returns-then-a-e : goal.returns-then-a-e
returns-then-a-e c = λ D ρ m. star-gone m c.if-a-e.true (star-drawn c.args.j c.requires.0.table.nodes c.requires.1.0 c.requires.1.1.1.0 c.expand.ensures)

pub same-requires : goal.same-requires
same-requires c = omega (arith, holds-less c.skip-z.ensures.held, past_top (omega (arith, in_src _ _ _ c.requires.1.1.0)) c.skip-z.ensures, c.requires.0.top)

pub returns-then-same : goal.returns-then-same
returns-then-same c = λ D ρ m. star-same c.requires.0.table.nodes c.requires.0.table.apart c.requires.0.here c.requires.1.0 c.requires.1.1.1.0 m c.if-a-e.false c.skip-z.ensures.held (agree-true _ c.same.ensures c.if-same.true) c.put.ensures

pub returns-else-same : goal.returns-else-same
returns-else-same c = λ D ρ m. star-new c.requires.0.table.nodes c.requires.0.table.apart c.requires.0.here c.requires.1.0 c.requires.1.1.1.0 m c.if-a-e.false c.skip-z.ensures.held (agree-false _ c.same.ensures c.if-same.false) c.put-else-same.ensures
