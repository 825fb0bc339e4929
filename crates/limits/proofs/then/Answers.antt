-- `limits::then` meets its contract: by what r and f are.
-- Assumes nothing.
use mathlib.Core.Path.{sym, ap, ◌∙◌}
use Rattle.paper.specs.File.{unless}
use Rattle.letters.specs.Found.{found}
use Rattle.limits.specs.Checks.{checked}
use Rattle.limits.specs.declared.Checked.{Checked}
use Rattle.letters.specs.declared.Found.{Found}
use Rattle.limits.proofs.then.Goals as goal

pub returns-in-Refused : goal.returns-in-Refused
returns-in-Refused c = λ a. sym (ap (λ (x : Checked). checked x (unless (found c.args.f) c.args.number a)) c.in-Refused.is)

pub returns-in-At : goal.returns-in-At
returns-in-At c = λ a. sym (ap (λ (x : Checked). checked x (unless (found c.args.f) c.args.number a)) c.in-Fine.is ∙ ap (λ (y : Found). unless (found y) c.args.number a) c.in-At.is)

pub returns-in-Nothing : goal.returns-in-Nothing
returns-in-Nothing c = λ a. sym (ap (λ (x : Checked). checked x (unless (found c.args.f) c.args.number a)) c.in-Fine.is ∙ ap (λ (y : Found). unless (found y) c.args.number a) c.in-Nothing.is)
