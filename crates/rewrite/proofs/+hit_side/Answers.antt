-- `rewrite::hit` and `rewrite::side` meet their contracts: the argument is in `Invariants`.
use native.Mathlib.Omega.{arith}
use Rattle.rewrite.specs.Steps.{letter_of}
use Rattle.rewrite.proofs.Hitting.{asks-treat, hit-treat, hits-either, hit-either-l, hit-either-r, hits-both, hits-both-2, hit-both, hit-event, side-hit, side-wait}
use Rattle.rewrite.proofs.+hit_side.Goals as goal

-- `E:T`
pub hit-expand-requires : goal.hit-expand-requires
hit-expand-requires t c = rw c.from.ensures (asks-treat c.requires c.in-Treat.ensures.columns)

pub hit-returns-in-Treat : goal.hit-returns-in-Treat
hit-returns-in-Treat t c =
    hit-treat c.requires (letter_of c.args.letter) c.in-Treat.ensures.columns (rw c.from.ensures at c.expand.ensures)

-- `|`
pub hit-strikes-requires : goal.hit-strikes-requires
hit-strikes-requires t c =
    let h = hits-either c.requires c.in-Either.ensures.columns in
    (c.requires.table.nodes, omega (arith, h.0.here, c.from-first.ensures))

pub hit-hit-requires : goal.hit-hit-requires
hit-hit-requires t c =
    let h = hits-either c.requires c.in-Either.ensures.columns in
    (omega (arith, h.2, c.from-first.ensures), rw c.from-first.ensures h.0)

pub hit-hit-requires-else-strikes : goal.hit-hit-requires-else-strikes
hit-hit-requires-else-strikes t c =
    let h = hits-either c.requires c.in-Either.ensures.columns in
    (omega (arith, h.3, c.from-else-strikes.ensures), rw c.from-else-strikes.ensures h.1)

pub hit-returns-then-strikes : goal.hit-returns-then-strikes
hit-returns-then-strikes t c =
    hit-either-l c.requires (letter_of c.args.letter) c.in-Either.ensures.columns (rw c.from-first.ensures at c.strikes.ensures) c.if-strikes.true (rw c.from-first.ensures at c.hit.ensures)

pub hit-returns-else-strikes : goal.hit-returns-else-strikes
hit-returns-else-strikes t c =
    hit-either-r c.requires (letter_of c.args.letter) c.in-Either.ensures.columns (rw c.from-first.ensures at c.strikes.ensures) c.if-strikes.false (rw c.from-else-strikes.ensures at c.hit-else-strikes.ensures)

-- `||`
pub hit-side-b-requires : goal.hit-side-b-requires
hit-side-b-requires t c =
    let h = hits-both c.requires c.in-Both.ensures.columns in
    (omega (arith, h.3, c.from-in-Both.ensures), rw c.from-in-Both.ensures h.0)

pub hit-side-a-requires : goal.hit-side-a-requires
hit-side-a-requires t c =
    let h = hits-both c.requires c.in-Both.ensures.columns in
    let m = rw c.from-in-Both.ensures at c.side-b.ensures in
    (omega (arith, h.2, c.from-in-Both-2.ensures), rw c.from-in-Both-2.ensures (hits-both-2 c.requires c.side-b.auto.dst c.in-Both.ensures.columns m).0)

pub hit-go_on_par-requires : goal.hit-go_on_par-requires
hit-go_on_par-requires t c =
    let m = rw c.from-in-Both.ensures at c.side-b.ensures in
    let k = rw c.from-in-Both-2.ensures at c.side-a.ensures in
    omega (arith, (hits-both-2 c.requires c.side-b.auto.dst c.in-Both.ensures.columns m).1, k.fits, k.held.long, m.held.long, c.side-b.auto.dst, c.side-a.auto.dst, c.requires.top)

pub hit-returns-in-Both : goal.hit-returns-in-Both
hit-returns-in-Both t c =
    hit-both c.requires (letter_of c.args.letter) c.in-Both.ensures.columns (c.go_on_par.ensures _ _ _ _ _ _ _ (rw c.from-in-Both.ensures at c.side-b.ensures) (rw c.from-in-Both-2.ensures at c.side-a.ensures))

pub hit-returns-in_default : goal.hit-returns-in_default
hit-returns-in_default t c =
    hit-event c.requires _ (letter_of c.args.letter) c.node_at.result c.node_at.ensures.row c.in_default.not-Treat c.in_default.not-Either c.in_default.not-Both

pub side-returns-then-strikes : goal.side-returns-then-strikes
side-returns-then-strikes t c =
    side-hit c.requires (letter_of c.args.letter) c.strikes.ensures c.if-strikes.true c.hit.ensures

pub side-returns-else-strikes : goal.side-returns-else-strikes
side-returns-else-strikes t c =
    side-wait c.requires (letter_of c.args.letter) _ _ _ c.strikes.ensures c.if-strikes.false c.put.ensures
