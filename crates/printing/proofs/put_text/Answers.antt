-- `printing::put_text` meets its contract; Invariants.antt says by what. Assumes nothing.
use mathlib.Core.Path.{◌≡◌, refl}
use native.Mathlib.Omega.{arith}
use lib.ListN.{length}
use lib.Seq.{take-length}
use Rattle.printing.proofs.Puts.{put-none, put-more}
use Rattle.printing.proofs.put_text.Goals as goal

pub loop-i-init : goal.loop-i-init
loop-i-init c = (omega arith, (omega arith, (refl, put-none c.args.line.now c.args.at)))

pub loop-i-preserved : goal.loop-i-preserved
loop-i-preserved c =
    let l = c.loop-i in
    let a = c.args in (
      omega arith,
      (
        omega (arith, c.put_byte-end.ensures.place),
        (omega arith, put-more a.part.now l.i c.loop-i-test.true l.invariant.1.1.1 c.put_byte-end.ensures),
      ),
    )

pub returns : goal.returns
returns c =
    let t = c.args.part.now in
    let e : c.loop-i.i ≡ length t = omega arith in
    rw (e, take-length t) at c.loop-i.invariant.1.1.1
