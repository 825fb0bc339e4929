-- `words::expand` meets its contract: the argument is in `Invariants`.
use native.Mathlib.Omega.{arith}
use Rattle.words.proofs.Holding.{holds-less}
use Rattle.words.proofs.Drawing.{below, asks-seq, asks-par, asks-par-2, asks-star, asks-act, draw-seq, draw-par, draw-star, draw-act, draw-mod, draw-one, face-room, room-act}
use Rattle.words.proofs.+expand.Goals as goal

pub returns-in-Module : goal.returns-in-Module
returns-in-Module t c =
    draw-mod c.requires c.in-Module.ensures.columns (rw c.from.ensures at c.put.ensures)

-- a sequence
pub expand-a-requires : goal.expand-a-requires
expand-a-requires t c =
    let b = below c.requires (λ z. omega (arith, c.in-Sequence.ensures.columns.0)) in
    rw c.from-in-Sequence.ensures (omega (arith, c.in-Sequence.ensures.columns), (asks-seq c.requires c.in-Sequence.ensures.columns).0)

pub put-requires-in-Sequence : goal.put-requires-in-Sequence
put-requires-in-Sequence t c =
    let h = rw c.from-in-Sequence.ensures at c.expand-a.ensures in
    omega (arith, (asks-seq c.requires c.in-Sequence.ensures.columns).1, h.fits, h.held.long, c.expand-a.auto.dst)

pub returns-in-Sequence : goal.returns-in-Sequence
returns-in-Sequence t c =
    draw-seq c.requires c.in-Sequence.ensures.columns (rw c.from-in-Sequence.ensures at c.expand-a.ensures) (rw c.from-in-Sequence-2.ensures at c.put-in-Sequence.ensures)

-- `||`
pub expand-b-requires : goal.expand-b-requires
expand-b-requires t c =
    let b = below c.requires (λ z. omega (arith, c.in-Par.ensures.columns.0)) in
    rw c.from-in-Par.ensures (omega (arith, c.in-Par.ensures.columns), (asks-par c.requires c.in-Par.ensures.columns).0)

pub expand-a-requires-in-Par : goal.expand-a-requires-in-Par
expand-a-requires-in-Par t c =
    let b = below c.requires (λ z. omega (arith, c.in-Par.ensures.columns.0)) in
    let h = rw c.from-in-Par.ensures at c.expand-b.ensures in
    rw c.from-in-Par-2.ensures (omega (arith, c.in-Par.ensures.columns), (asks-par-2 c.expand-b.auto.dst c.requires c.in-Par.ensures.columns h).0)

pub put-requires-in-Par : goal.put-requires-in-Par
put-requires-in-Par t c =
    let h = rw c.from-in-Par.ensures at c.expand-b.ensures in
    let g = rw c.from-in-Par-2.ensures at c.expand-a-in-Par.ensures in
    omega (arith, (asks-par-2 c.expand-b.auto.dst c.requires c.in-Par.ensures.columns h).1, g.fits, g.held.long, c.expand-a-in-Par.auto.dst, h.held.long)

pub returns-in-Par : goal.returns-in-Par
returns-in-Par t c =
    draw-par c.requires c.in-Par.ensures.columns (rw c.from-in-Par.ensures at c.expand-b.ensures) (rw c.from-in-Par-2.ensures at c.expand-a-in-Par.ensures) c.put-in-Par.ensures

-- a star
pub expand-a-requires-in-Star : goal.expand-a-requires-in-Star
expand-a-requires-in-Star t c =
    let b = below c.requires (λ z. omega (arith, c.in-Star.ensures.columns.0)) in
    rw c.from-in-Star.ensures (omega (arith, c.in-Star.ensures.columns), (asks-star c.requires c.in-Star.ensures.columns).0)

pub put-requires-in-Star : goal.put-requires-in-Star
put-requires-in-Star t c =
    let h = rw c.from-in-Star.ensures at c.expand-a-in-Star.ensures in
    omega (arith, (asks-star c.requires c.in-Star.ensures.columns).1, h.fits, h.held.long, c.expand-a-in-Star.auto.dst)

pub returns-in-Star : goal.returns-in-Star
returns-in-Star t c =
    draw-star c.requires c.in-Star.ensures.columns (rw c.from-in-Star.ensures at c.expand-a-in-Star.ensures) c.put-in-Star.ensures

-- `/`
pub expand-a-requires-in-Act : goal.expand-a-requires-in-Act
expand-a-requires-in-Act t c =
    let b = below c.requires (λ z. omega (arith, c.in-Act.ensures.columns.0)) in
    rw c.from-in-Act.ensures (omega (arith, c.in-Act.ensures.columns), (asks-act c.requires c.in-Act.ensures.columns).0)

pub put_act-requires : goal.put_act-requires
put_act-requires t c =
    let f = asks-act c.requires c.in-Act.ensures.columns in
    let h = rw c.from-in-Act.ensures at c.expand-a-in-Act.ensures in
    (face-room _ h.held h.fits (room-act c.requires c.in-Act.ensures.columns), (omega (arith, holds-less h.held, c.expand-a-in-Act.auto.dst, c.requires.top), omega (arith, f.1.0, c.from-in-Act-2.ensures, c.requires.table.nodes.few)))

pub returns-in-Act : goal.returns-in-Act
returns-in-Act t c =
    draw-act _ _ c.requires c.in-Act.ensures.columns (rw c.from-in-Act.ensures at c.expand-a-in-Act.ensures) (rw c.from-in-Act-2.ensures at c.put_act.ensures)

pub returns-in_default : goal.returns-in_default
returns-in_default t c =
    draw-one c.node_at.result c.requires c.node_at.ensures.row c.in_default.not-Module c.in_default.not-Sequence c.in_default.not-Par c.in_default.not-Star c.in_default.not-Act c.put-in_default.ensures
