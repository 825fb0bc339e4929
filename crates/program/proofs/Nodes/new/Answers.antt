use Rattle.std.proofs.Common.{refl}
use Rattle.program.specs.Rows.{columns, alone}
use Rattle.program.proofs.Nodes.new.Goals as goal

pub returns : goal.returns
unfolding columns alone
returns c = refl
