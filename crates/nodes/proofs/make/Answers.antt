-- `nodes::make` meets its contract: where `find` answers a node it is that one, and else the five stores are those of `append`. Assumes nothing.
use native.Mathlib.Omega.{arith}
use lib.ListN.{length-set}
use Rattle.nodes.specs.Made.{append}
use Rattle.nodes.proofs.Makes.{leaves-found, leaves-added}
use Rattle.nodes.proofs.make.Goals as goal

pub returns-then-at-end : goal.returns-then-at-end
returns-then-at-end c = leaves-found c.args.nodes.now c.args.kind c.args.left c.args.right c.args.letter c.find-at.ensures c.if-at-end.true

pub bounds-nodes-end-2 : goal.bounds-nodes-end-2
bounds-nodes-end-2 c = simp length-set (omega arith)

pub bounds-nodes-end-3 : goal.bounds-nodes-end-3
bounds-nodes-end-3 c = simp length-set (omega arith)

pub bounds-nodes-end-4 : goal.bounds-nodes-end-4
bounds-nodes-end-4 c = simp length-set (omega arith)

pub bounds-nodes-576-2 : goal.bounds-nodes-576-2
bounds-nodes-576-2 c = simp length-set (omega arith)

pub returns : goal.returns
unfolding append
returns c = leaves-added c.args.nodes.now c.args.kind c.args.left c.args.right c.args.letter c.find-at.ensures c.if-at-end.false
