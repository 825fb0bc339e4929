-- What the proof of `letters::used` leaves beside its invariants; Invariants.antt has the argument.
use mathlib.Core.Path.{refl}
use mathlib.Core.Bool.{false}
use lib.ListN.{get_or-replicate, replicate, get_or}
use Rattle.letters.proofs.Flags.{used-none, used-more, used_all, marked-length}
use Rattle.letters.proofs.used.Goals as goal

pub loop-i-init : goal.loop-i-init
loop-i-init c = (refl, used-none c.args.base (replicate 26 false) c.args.s.now c.args.at (λ l h. get_or-replicate 26 l false false h))

pub loop-i-preserved : goal.loop-i-preserved
loop-i-preserved c =
    let s = c.args.s.now in
    let i = c.loop-i.i in
    let fs = c.loop-i.flags in
    let b = get_or s i 0 in
    rw c.mark.ensures
    (marked-length fs c.args.base b c.loop-i.invariant.0, used-more c.args.base fs s i c.args.at c.loop-i-test.true c.loop-i.invariant.0 c.loop-i.invariant.1)

pub returns : goal.returns
returns c = used_all c.args.base c.loop-i.flags c.args.s.now c.loop-i.i c.args.at c.loop-i-test.false c.loop-i.invariant.1
