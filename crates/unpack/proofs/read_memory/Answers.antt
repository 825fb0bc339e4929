-- `unpack::read_memory` meets its contract: the count is of the marks that lead, and the tests say whether all are within their limits.
-- Assumes nothing.
use native.Mathlib.Omega.{arith}
use mathlib.Core.Path.{refl}
use Rattle.std.proofs.Common.{rules}
use Rattle.std.proofs.lemmas.Grind.{common_steps}
use Rattle.unpack.proofs.Loops.{leads-read, limited_read, read_limited}
use Rattle.unpack.proofs.read_memory.Goals as goal

pub returns-then-not-limited : goal.returns-then-not-limited
returns-then-not-limited c =
    let m = c.marks-marks in
    let n = c.count_marks-count in (
      n.result,
      leads-read c.args.live.now m.result m.ensures n.result n.ensures.few n.ensures.marks n.ensures.stop,
      λ l.
          let t = c.limited.ensures.1 (read_limited c.args.live.now m.result m.ensures n.result n.ensures.few _ (search rules) l) in
          cc,
    )

pub returns : goal.returns
returns c =
    let m = c.marks-marks in
    let n = c.count_marks-count in
    let t = c.limited.ensures.0 c.if-not-limited.false in
    record {
      leads = leads-read c.args.live.now m.result m.ensures n.result n.ensures.few n.ensures.marks n.ensures.stop;
      limited = limited_read c.args.live.now m.result m.ensures n.result n.ensures.few _ (search rules) t.0 t.1;
      remembers = record { count_is = refl; events_are = λ i h. grind (arith, common_steps, m.ensures i, c.loop-i.invariant.1 i) };
    }
