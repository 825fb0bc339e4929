-- `syntax::is` meets its contract, which is that of `byte_at` under the test. Assumes nothing.
use Rattle.syntax.proofs.is.Goals as goal

pub returns : goal.returns
returns c = rw c.byte_at.ensures
