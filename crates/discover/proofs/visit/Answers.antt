-- `discover::visit` meets its contract: the state's bytes are its code (`Visiting`), so they are decoded, and its parts and its turn are the state's.
-- Assumes nothing.
use Prim.Native.Nat.{suc, ◌+◌, ◌*◌}
use native.Mathlib.Omega.{arith}
use lib.ListN.{length, drop}
use Rattle.engine.proofs.Calling.{of}
use Rattle.discover.proofs.Visiting.{part-block, turn-state, not_none, state-written, state-number, visited}
use Rattle.discover.proofs.visit.Goals as goal

pub unreachable-requires : goal.unreachable-requires
unreachable-requires c =
    let v = c.requires.visits in
    let q = v.stocked.program in
    let d = v.stocked.loaded in
    let y = turn-state c.args.k v.states (omega (arith, v.turn, v.count_is)) in
    not_none q d.fit c.args.work.now c.args.index.now v.states v.seen c.args.k y.0 (drop (suc c.args.k) v.states) y.1 _ (part-block c.args.work.now c.args.k)
    (c.in_default.ensures q (of q c.args.nodes.now c.args.modules.now c.args.events.now c.args.fugitive.now d v.stocked.kinds))

pub parts_of-large-requires : goal.parts_of-large-requires
parts_of-large-requires c =
    let v = c.requires.visits in
    (v.stocked.counted, (c.in-Some.ensures v.stocked.program (of v.stocked.program c.args.nodes.now c.args.modules.now c.args.events.now c.args.fugitive.now v.stocked.loaded v.stocked.kinds)).stands)

pub turn-t-requires-clause-standing : goal.turn-t-requires-clause-standing
turn-t-requires-clause-standing c =
    let v = c.requires.visits in
    let q = v.stocked.program in
    let d = v.stocked.loaded in
    let y = turn-state c.args.k v.states (omega (arith, v.turn, v.count_is)) in
    let g = c.in-Some.ensures q (of q c.args.nodes.now c.args.modules.now c.args.events.now c.args.fugitive.now d v.stocked.kinds) in
    let s = part-block c.args.work.now c.args.k in
    record {
      program = q;
      loaded = d;
      kinds = v.stocked.kinds;
      written = state-written q d.fit c.args.work.now c.args.index.now v.states v.seen c.args.k y.0 (drop (suc c.args.k) v.states) y.1 _ s c.args.nodes.now c.args.modules.now c.unpack.new.w c.in-Some.state g;
      stands = g.stands;
      few = g.few;
      flags = g.flags;
      states = v.states;
      seen = v.seen;
      count_is = v.count_is;
      numbered = state-number q d.fit c.args.work.now c.args.index.now v.states v.seen c.args.k y.0 (drop (suc c.args.k) v.states) y.1 _ s c.args.nodes.now c.args.modules.now c.unpack.new.w c.in-Some.state g;
    }

pub returns : goal.returns
returns c = λ q d k ss seen l x rest e.
    let g = c.in-Some.ensures q (of q c.args.nodes.now c.args.modules.now c.args.events.now c.args.fugitive.now d k) in
    let s = part-block c.args.work.now c.args.k in
    visited q d.fit c.args.work.now c.args.index.now ss seen c.args.k x rest e _ s c.args.nodes.now c.args.modules.now c.unpack.new.w c.in-Some.state g c.parts_of-large.result c.parts_of-large.ensures
    c.turn-t.new.work c.turn-t.new.index c.args.entries.now c.turn-t.new.entries (c.args.k * (length c.args.modules.now + length c.args.events.now)) c.turn-t.result
    (c.turn-t.ensures q d k (state-written q d.fit c.args.work.now c.args.index.now ss seen c.args.k x rest e _ s c.args.nodes.now c.args.modules.now c.unpack.new.w c.in-Some.state g) ss seen l (state-number q d.fit c.args.work.now c.args.index.now ss seen c.args.k x rest e _ s c.args.nodes.now c.args.modules.now c.unpack.new.w c.in-Some.state g))
