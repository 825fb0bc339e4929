-- `slots::enroll` meets its contract: its three ways are the cases of `enrolled`.
-- Assumes nothing.
use Prim.Native.Nat.{◌<◌}
use mathlib.Core.Path.{◌≡◌, sym, ◌∙◌}
use native.Mathlib.Omega.{arith}
use lib.ListN.{length}
use Rattle.std.proofs.lemmas.Slice.{put_mid-paste}
use Rattle.std.proofs.Common.{rules}
use Rattle.slots.proofs.Enrolling.{enrolls-known, full_here, enrolls-put}
use Rattle.slots.proofs.enroll.Goals as goal

pub returns-in-Some-clause-found : goal.returns-in-Some-clause-found
returns-in-Some-clause-found c = λ cs s e. enrolls-known s c.args.b.now _ (c.in-Some.ensures.number cs s e) c.in-Some.ensures.known e

pub returns-then-count-eq512-clause-found : goal.returns-then-count-eq512-clause-found
returns-then-count-eq512-clause-found c = λ cs s e. full_here s c.args.b.now (e ∙ c.if-count-eq512.true) (sym (c.in_default.ensures.number cs s e) ∙ sym e)

pub returns-clause-found : goal.returns-clause-found
returns-clause-found c = λ cs s e.
    let b = c.args.b.now in
    let long : length b ≡ 128 = search rules in
    let few : length cs < 512 = omega (arith, c.requires, c.if-count-eq512) in
    enrolls-put s b c.requires.0 c.requires.1.0 long few _ c.args.count c.hash-h.result c.bucket-k.result e c.hash-h.ensures c.bucket-k.ensures.0
    (put_mid-paste _ _ _ _ b 128 c.copy_from_slice.ensures.after (omega arith) (sym long)) (c.in_default.ensures.number cs s e)
