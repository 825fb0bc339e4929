-- `parts::count_parts` meets its contract: the argument is in `Invariants`, and a node's parts are those of the nodes below it (`counted`).
use Rattle.std.proofs.Common.{◌<◌, ◌≢◌, ◌∙◌, length, arith, get_or-set_other, get_or-set_same, below_more}
use Rattle.parts.proofs.Rows.{counted}
use Rattle.parts.proofs.count_parts.Goals as goal

pub loop-i-preserved : goal.loop-i-preserved
loop-i-preserved c =
    let x = c.loop-i in
    let a = c.args in
    below_more _ _
    (λ j h. let d : j ≢ x.i = omega arith in rw get_or-set_other (x.invariant j h))
    (let l : x.i < length x.sizes = omega (arith, c.requires.0.nodes.few, c.requires.1) in
    rw get_or-set_same (c.node_parts.ensures ∙ counted a.nodes.now c.requires.0.nodes x.i (omega arith) x.sizes x.invariant c.node_at.result c.node_at.ensures.row c.node_at.ensures.columns))
