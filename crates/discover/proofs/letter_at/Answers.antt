-- `discover::letter_at` meets its contract. Assumes nothing.
use native.Mathlib.Omega.{arith}
use Rattle.discover.proofs.Entering.{drop-module, drop-event}
use Rattle.discover.proofs.letter_at.Goals as goal

pub returns-then-j-m : goal.returns-then-j-m
returns-then-j-m c = λ q i. drop-module q c.args.modules.now c.args.events.now i c.args.j _ (omega arith) c.wide.ensures

pub returns-else-j-m : goal.returns-else-j-m
returns-else-j-m c = λ q i. drop-event q c.args.modules.now c.args.events.now i c.args.j _ c.requires (omega arith) c.wide-else-j-m.ensures
