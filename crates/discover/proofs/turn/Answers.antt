-- `discover::turn` meets its contract: letter by letter (`Stepping`). Assumes nothing.
use native.Mathlib.Omega.{arith}
use mathlib.Core.Path.{refl, sym}
use lib.ListN.{take, length-set}
use Rattle.paper.specs.Discovery.{letters}
use Rattle.react.specs.States.{state_of}
use Rattle.discover.specs.Finding.{met}
use Rattle.discover.proofs.Entering.{letters-long}
use Rattle.discover.proofs.Stepping.{seen_few, numbered-on, stated-of, turning-none, turning-over, turning-next, turning-all, turns-over}
use Rattle.discover.proofs.turn.Goals as goal

pub overflow_add-n : goal.overflow_add-n
overflow_add-n c = omega (arith, c.requires.standing.loaded.modules.few, c.requires.standing.loaded.events.few)

pub loop-j-init : goal.loop-j-init
loop-j-init c = ((refl, (refl, (refl, (refl, refl)))), (omega arith, (refl, λ q d k v ss h e i. turning-none q (state_of c.args.nodes.now c.args.w.now c.args.modules.now c.args.state) ss c.args.work.now c.args.index.now c.args.entries.now c.args.at c.args.count h e)))

pub letter_at-letter-requires : goal.letter_at-letter-requires
letter_at-letter-requires c = omega (arith, c.loop-j.invariant)

pub meet-a-requires : goal.meet-a-requires
meet-a-requires c =
    let q = c.requires.standing.program in
    let t = c.loop-j.invariant.1.1.1 q c.requires.standing.loaded c.requires.standing.kinds c.requires.standing.written c.requires.standing.states c.requires.standing.seen c.requires.standing.count_is c.requires.standing.numbered in
    record {
      runs = record {
        program = q;
        loaded = c.requires.standing.loaded;
        kinds = c.requires.standing.kinds;
        stated = stated-of q c.args.nodes.now c.args.modules.now c.args.w.now c.args.state _ c.requires.standing.written c.loop-j.j _ (c.letter_at-letter.ensures q c.requires.standing.loaded.its);
        stands = c.requires.standing.stands;
        few = c.requires.standing.few;
        flags = c.requires.standing.flags;
      };
      room = record {
        word = c.requires.room.word;
        next = omega (arith, c.requires.room.next, c.loop-j.invariant.0);
        tmp = omega (arith, c.requires.room.tmp, c.loop-j.invariant.0);
        work = omega (arith, c.requires.room.work, c.loop-j.invariant.0);
        index = omega (arith, c.requires.room.index, c.loop-j.invariant.0);
        few = omega (arith, t.count_is, seen_few q c.loop-j.work c.loop-j.index (met q (state_of c.args.nodes.now c.args.w.now c.args.modules.now c.args.state) (take c.loop-j.j (letters q)) c.requires.standing.states) t.seen);
      };
      k_bound = omega (arith, c.requires.standing.numbered.1, c.requires.standing.count_is, c.requires.room.few);
    }

pub shape_of-next-then-a : goal.shape_of-next-then-a
shape_of-next-then-a c = omega (arith, c.meet-a.auto, c.loop-j.invariant.0)

pub shape_of-tmp-then-a : goal.shape_of-tmp-then-a
shape_of-tmp-then-a c = omega (arith, c.meet-a.auto, c.loop-j.invariant.0)

pub shape_of-work-then-a : goal.shape_of-work-then-a
shape_of-work-then-a c = omega (arith, c.meet-a.auto, c.loop-j.invariant.0)

pub shape_of-index-then-a : goal.shape_of-index-then-a
shape_of-index-then-a c = omega (arith, c.meet-a.auto, c.loop-j.invariant.0)

pub shape_of-entries-then-a : goal.shape_of-entries-then-a
shape_of-entries-then-a c = omega (arith, c.meet-a.auto, c.loop-j.invariant.0)

pub returns-then-a : goal.returns-then-a
returns-then-a c = λ q d k v ss h e i.
    let t = c.loop-j.invariant.1.1.1 q d k v ss h e i in
    let n = c.letter_at-letter.ensures q d.its in
    let a = stated-of q c.args.nodes.now c.args.modules.now c.args.w.now c.args.state _ v c.loop-j.j _ n in
    turns-over q (state_of c.args.nodes.now c.args.w.now c.args.modules.now c.args.state) ss c.meet-a.new.work c.meet-a.new.index c.args.entries.now c.loop-j.entries c.args.at 0
    (turning-over q (state_of c.args.nodes.now c.args.w.now c.args.modules.now c.args.state) ss c.loop-j.work c.loop-j.index c.args.entries.now c.loop-j.entries c.args.at c.loop-j.j c.loop-j.seen t _ _ n c.meet-a.new.work c.meet-a.new.index c.meet-a.result
    (c.meet-a.ensures q d k a (met q (state_of c.args.nodes.now c.args.w.now c.args.modules.now c.args.state) (take c.loop-j.j (letters q)) ss) t.seen (sym t.count_is) (numbered-on (state_of c.args.nodes.now c.args.w.now c.args.modules.now c.args.state) ss c.args.k _ i)) c.if-a.true)

pub overflow_add-entries : goal.overflow_add-entries
overflow_add-entries c = omega (arith, c.requires.events_bound, c.loop-j.invariant, c.loop-j-test.true)

pub offset_bounds-entries-at : goal.offset_bounds-entries-at
offset_bounds-entries-at c = omega (arith, c.requires.events_bound, c.loop-j.invariant, c.loop-j-test.true)

pub bounds-entries-at : goal.bounds-entries-at
bounds-entries-at c = omega (arith, c.requires.events_bound, c.loop-j.invariant, c.loop-j-test.true)

pub overflow_add-j : goal.overflow_add-j
overflow_add-j c = omega (arith, c.requires.standing.loaded.modules.few, c.requires.standing.loaded.events.few, c.loop-j.invariant, c.loop-j-test.true)

pub loop-j-smaller : goal.loop-j-smaller
loop-j-smaller c = omega (arith, c.loop-j-test.true)

pub loop-j-preserved : goal.loop-j-preserved
loop-j-preserved c = (
  (omega (arith, c.meet-a.auto, c.loop-j.invariant.0), (omega (arith, c.meet-a.auto, c.loop-j.invariant.0), (omega (arith, c.meet-a.auto, c.loop-j.invariant.0), (omega (arith, c.meet-a.auto, c.loop-j.invariant.0), simp length-set c.loop-j.invariant.0.1.1.1.1)))),
  (
    omega (arith, c.loop-j-test.true),
    (
      c.loop-j.invariant.1.1.0,
      λ q d k v ss h e i.
          let t = c.loop-j.invariant.1.1.1 q d k v ss h e i in
          let n = c.letter_at-letter.ensures q d.its in
          let a = stated-of q c.args.nodes.now c.args.modules.now c.args.w.now c.args.state _ v c.loop-j.j _ n in
          turning-next q (state_of c.args.nodes.now c.args.w.now c.args.modules.now c.args.state) ss c.loop-j.work c.loop-j.index c.args.entries.now c.loop-j.entries c.args.at c.loop-j.j c.loop-j.seen t _ _ n c.meet-a.new.work c.meet-a.new.index c.meet-a.result
          (c.meet-a.ensures q d k a (met q (state_of c.args.nodes.now c.args.w.now c.args.modules.now c.args.state) (take c.loop-j.j (letters q)) ss) t.seen (sym t.count_is) (numbered-on (state_of c.args.nodes.now c.args.w.now c.args.modules.now c.args.state) ss c.args.k _ i)) c.if-a.false (omega (arith, c.requires.events_bound, c.loop-j.invariant, c.loop-j-test.true)),
    ),
  ),
)

pub shape_of-next : goal.shape_of-next
shape_of-next c = c.loop-j.invariant.0.0

pub shape_of-tmp : goal.shape_of-tmp
shape_of-tmp c = c.loop-j.invariant.0.1.0

pub shape_of-work : goal.shape_of-work
shape_of-work c = c.loop-j.invariant.0.1.1.0

pub shape_of-index : goal.shape_of-index
shape_of-index c = c.loop-j.invariant.0.1.1.1.0

pub shape_of-entries : goal.shape_of-entries
shape_of-entries c = c.loop-j.invariant.0.1.1.1.1

pub returns : goal.returns
returns c = λ q d k v ss h e i.
    turning-all q (state_of c.args.nodes.now c.args.w.now c.args.modules.now c.args.state) ss c.loop-j.work c.loop-j.index c.args.entries.now c.loop-j.entries c.args.at c.loop-j.j c.loop-j.seen (c.loop-j.invariant.1.1.1 q d k v ss h e i)
    (omega (arith, letters-long q c.args.modules.now c.args.events.now d.its, c.loop-j.invariant, c.loop-j-test.false)) (omega (arith, letters-long q c.args.modules.now c.args.events.now d.its, c.loop-j.invariant, c.loop-j-test.false))
