-- `discover::explore` meets its contract: each turn is one of `Exploring`'s. Assumes nothing.
use mathlib.Core.Bool.{◌||◌}
use mathlib.Core.Path.{◌≡◌, refl}
use native.Mathlib.Omega.{arith}
use borrow.Author.Rules.{rules}
use Rattle.discover.specs.Finding.{turned}
use Rattle.discover.proofs.Exploring.{explore-begin, explore-few, explore-end, explore-grows, explore-next, explored-over, or-first, or-second}
use Rattle.discover.proofs.explore.Goals as goal
use Rattle.discover.proofs.explore.Goals.{else-large, then-large}

pub loop-k-init : goal.loop-k-init
loop-k-init c = (omega arith, omega arith, refl, refl, refl, refl, refl, refl, λ q d k s. explore-begin q s)

pub visit-t-requires : goal.visit-t-requires
visit-t-requires c =
    let i = c.loop-k in
    let p = c.requires.explores in
    let q = p.stocked.program in
    let t = i.invariant.8 q p.stocked.loaded p.stocked.kinds p.seen in
    record {
      visits = record { stocked = p.stocked; states = (turned q i.k).seen; seen = t.seen; count_is = t.count_is; turn = c.loop-k-test.true };
      room = record {
        word = omega (arith, c.requires.room.word);
        next = omega (arith, c.requires.room.next);
        tmp = omega (arith, c.requires.room.tmp);
        work = omega (arith, c.requires.room.work);
        index = omega (arith, c.requires.room.index);
        few = i.invariant.1;
      };
      in_bounds = omega (arith, c.requires.in_bounds);
    }

pub returns-then-t : goal.returns-then-t
returns-then-t c = λ q d k s.
    let i = c.loop-k in
    let a = c.args in
    let t = i.invariant.8 q d k s in
    explored-over q t c.loop-k-test.true a.modules.now a.events.now d.its (c.visit-t.ensures q d k (turned q i.k).seen t.seen t.count_is) c.if-t.true

pub loop-k-preserved : goal.loop-k-preserved
loop-k-preserved c =
    let i = c.loop-k in
    let a = c.args in
    let r = c.visit-t in
    let p = c.requires.explores in
    let more = c.loop-k-test.true in
    let o = c.if-t.false in
    let z : c.if-large.large ≡ (i.large || r.result.large) =
    elim c.if-large.branch [ then-large w ↦ or-first i.large r.result.large c.if-large.large w.if-large.true w.large-is | else-large w ↦ or-second i.large r.result.large c.if-large.large w.if-large.false w.large-is ]
    in
    let q = p.stocked.program in
    let d = p.stocked.loaded in
    let k = p.stocked.kinds in
    let t = i.invariant.8 q d k p.seen in
    let v = r.ensures q d k (turned q i.k).seen t.seen t.count_is in (
      explore-grows q t more a.modules.now a.events.now d.its v o,
      explore-few q (explore-next q t more a.modules.now a.events.now d.its v o c.if-large.large z),
      search rules,
      search rules,
      search rules,
      search rules,
      search rules,
      search rules,
      λ q d k s.
          let t = i.invariant.8 q d k s in
          explore-next q t more a.modules.now a.events.now d.its (r.ensures q d k (turned q i.k).seen t.seen t.count_is) o c.if-large.large z,
    )

pub returns : goal.returns
returns c = λ q d k s. explore-end q (c.loop-k.invariant.8 q d k s) (omega arith) (omega arith)
