-- What is left to show of it; Invariants.antt tells the argument.
use mathlib.Core.Path.{◌≡◌, refl}
use mathlib.Core.List.{[], append-nil}
use native.Mathlib.Omega.{arith}
use lib.ListN.{length, drop, length-set, drop_of_length-le}
use borrow.Author.Fill.{fill_none, fill_more}
use Rattle.nodes.proofs.clear.Goals as goal

pub loop-i-init : goal.loop-i-init
loop-i-init c = (omega arith, (refl, fill_none c.args.nodes.now 0))

pub loop-i-smaller : goal.loop-i-smaller
loop-i-smaller c = simp length-set (omega arith)

pub loop-i-preserved : goal.loop-i-preserved
loop-i-preserved c = (simp length-set (omega arith), (simp length-set (omega arith), rw c.loop-i.invariant.1.1 (fill_more c.loop-i.i 0 c.args.nodes.now (omega arith))))

pub returns : goal.returns
returns c =
    let z : c.loop-i.i ≡ length c.args.nodes.now = omega arith in
    let d : drop (length c.args.nodes.now) c.args.nodes.now ≡ [] = drop_of_length-le c.args.nodes.now {i = length c.args.nodes.now} (omega arith) in
    rw (c.loop-i.invariant.1.1, z, d, append-nil)
