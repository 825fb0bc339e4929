use Rattle.std.proofs.Common.{sym, ◌∙◌, arith}
use Rattle.program.proofs.Nodes.letter.Goals as goal

-- the count stands at the letter of node 0
pub returns-then-j-eq0 : goal.returns-then-j-eq0
returns-then-j-eq0 c = rw c.if-j-eq0.true c.count.ensures.count

pub returns-else-j-eq0 : goal.returns-else-j-eq0
returns-else-j-eq0 c = c.letter.ensures ∙ sym (c.node.ensures.letter (omega arith))
