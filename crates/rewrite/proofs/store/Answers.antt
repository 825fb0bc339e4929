-- `rewrite::store` meets its contract. One event more at the end (`appended`).
-- Assumes nothing.
use native.Mathlib.Omega.{arith}
use mathlib.Core.Path.{◌≡◌, refl}
use lib.ListN.{length}
use Rattle.rewrite.proofs.Shifting.{appended}
use borrow.Author.Rules.{rules}
use Rattle.rewrite.proofs.store.Goals as goal

pub returns : goal.returns
returns c =
    let l : length c.args.memory.events ≡ 8 = search rules in
    (refl, appended c.args.memory.count c.args.e c.args.memory.events (omega (arith, l, c.requires)))
