-- `rewrite::go_on_par` meets its contract. The cases of `par_l`.
-- Assumes nothing.
use Rattle.words.proofs.Joins.{par-left-gone, par-right-gone, par-both}
use Rattle.rewrite.proofs.go_on_par.Goals as goal

pub returns-then-a-b : goal.returns-then-a-b
returns-then-a-b c = λ P D₀ D₁ m n ρ σ h k. par-left-gone h k c.if-a-b.true

pub returns-then-b-e : goal.returns-then-b-e
returns-then-b-e c = λ P D₀ D₁ m n ρ σ h k. par-right-gone h k c.if-a-b.false c.if-b-e.true

pub returns-else-b-e : goal.returns-else-b-e
returns-else-b-e c = λ P D₀ D₁ m n ρ σ h k. par-both h k c.if-a-b.false c.if-b-e.false c.put.ensures
