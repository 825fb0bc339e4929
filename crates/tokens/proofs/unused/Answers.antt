-- `tokens::unused` meets its contract: the second list is asked where the first has nothing to refuse (`unused-append`).
-- Assumes nothing.
use mathlib.Core.Path.{sym, ap, ◌∙◌}
use lib.Seq.{slice}
use Rattle.paper.specs.File.{listed_from}
use Rattle.letters.specs.Found.{found}
use Rattle.letters.proofs.Turns.{unused-append}
use Rattle.tokens.proofs.unused.Goals as goal

pub returns-in-At : goal.returns-in-At
returns-in-At c = λ v t. sym ((unused-append v (listed_from c.args.from (slice c.args.from c.args.to c.args.file.now)) (listed_from c.args.from2 (slice c.args.from2 c.args.to2 c.args.file.now))).1 c.in-At.p (sym (c.unused_in-r.ensures v t) ∙ ap found c.in-At.is))

pub returns-in-Nothing : goal.returns-in-Nothing
returns-in-Nothing c = λ v t. c.unused_in.ensures v t ∙ sym ((unused-append v (listed_from c.args.from (slice c.args.from c.args.to c.args.file.now)) (listed_from c.args.from2 (slice c.args.from2 c.args.to2 c.args.file.now))).0 (sym (c.unused_in-r.ensures v t) ∙ ap found c.in-Nothing.is))
