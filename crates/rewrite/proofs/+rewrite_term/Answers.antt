-- `rewrite::rewrite_term` meets its contract: the argument is in `Invariants`.
use native.Mathlib.Omega.{arith}
use mathlib.Core.Path.{ap, sym}
use Rattle.paper.specs.Rewriting.{rewritten}
use Rattle.words.specs.Word.{arity}
use Rattle.words.proofs.Holding.{holds-less}
use Rattle.words.proofs.Reading.{in_src, src-unary, src-binary}
use Rattle.words.proofs.Joins.{made_up, room-par}
use Rattle.rewrite.specs.Steps.{letter_of}
use Rattle.rewrite.proofs.Tops.{top-seq, works-seq, asks-second, top-star, fine-star, works-star, asks-again, top-act, fine-act, works-act, hits-act, top-wait, hits-wait, top-one, top-mod, small-mod, top-par, works-par, works-par-2}
use Rattle.rewrite.proofs.Hitting.{act-hit, act-pass}
use Rattle.rewrite.proofs.Leaves.{leaf-waits, leaf-one, leaf-ends, leaf-stays}
use Rattle.rewrite.proofs.+rewrite_term.Goals as goal

pub offset_bounds-src-s : goal.offset_bounds-src-s
offset_bounds-src-s t c = omega (arith, in_src _ _ _ c.requires.src)

pub bounds-src-s : goal.bounds-src-s
bounds-src-s t c = in_src _ _ _ c.requires.src

pub overflow_add-s : goal.overflow_add-s
overflow_add-s t c = omega (arith, in_src _ _ _ c.requires.src)

-- a sequence
pub rewrite_term-a-requires : goal.rewrite_term-a-requires
rewrite_term-a-requires t c =
    (omega (arith, in_src _ _ _ c.requires.src), (works-seq c.requires c.in-Sequence.ensures.says).0)

pub go_on_seq-requires : goal.go_on_seq-requires
go_on_seq-requires t c =
    (asks-second c.requires c.rewrite_term-a.auto.dst c.in-Sequence.ensures.says, omega (arith, (works-seq c.requires c.in-Sequence.ensures.says).1, c.rewrite_term-a.ensures.fits, c.rewrite_term-a.ensures.held.long))

pub returns-in-Sequence : goal.returns-in-Sequence
unfolding rewritten
returns-in-Sequence t c =
    rw (top-seq c.requires c.in-Sequence.ensures.says) (c.go_on_seq.ensures _ _ _ c.rewrite_term-a.ensures)

-- a star
pub rewrite_term-a-requires-in-Star : goal.rewrite_term-a-requires-in-Star
rewrite_term-a-requires-in-Star t c =
    (omega (arith, in_src _ _ _ c.requires.src), (works-star c.requires c.in-Star.ensures.says).0)

pub go_on_star-requires : goal.go_on_star-requires
go_on_star-requires t c =
    let u = fine-star c.requires c.in-Star.ensures.says in
    (asks-again c.requires c.rewrite_term-a-in-Star.auto.dst c.in-Star.ensures.says, (u.1.0, (src-unary c.requires.src (ap arity (sym c.in-Star.ensures.says)), (u.1.1, omega (arith, (works-star c.requires c.in-Star.ensures.says).1, c.rewrite_term-a-in-Star.ensures.fits, c.rewrite_term-a-in-Star.ensures.held.long)))))

pub returns-in-Star : goal.returns-in-Star
unfolding rewritten
returns-in-Star t c =
    rw (top-star c.requires c.in-Star.ensures.says) (c.go_on_star.ensures _ _ c.rewrite_term-a-in-Star.ensures)

-- `/`
pub strikes-requires : goal.strikes-requires
strikes-requires t c = (c.requires.table.nodes, (fine-act c.requires c.in-Act.ensures.says).0)

pub hit-requires : goal.hit-requires
hit-requires t c = hits-act c.requires c.in-Act.ensures.says

pub rewrite_term-a-requires-else-strikes : goal.rewrite_term-a-requires-else-strikes
rewrite_term-a-requires-else-strikes t c =
    (omega (arith, in_src _ _ _ c.requires.src), (works-act c.requires c.in-Act.ensures.says).0)

pub go_on_act-requires : goal.go_on_act-requires
go_on_act-requires t c =
    let u = fine-act c.requires c.in-Act.ensures.says in
    (c.requires.table.nodes, (u.0, (u.1.0, omega (arith, (works-act c.requires c.in-Act.ensures.says).1, c.rewrite_term-a-else-strikes.ensures.fits, c.rewrite_term-a-else-strikes.ensures.held.long, c.requires.top, c.rewrite_term-a-else-strikes.auto.dst))))

pub returns-then-strikes : goal.returns-then-strikes
returns-then-strikes t c =
    rw (top-act c.requires c.in-Act.ensures.says) (act-hit _ _ (letter_of c.args.letter) c.strikes.ensures c.if-strikes.true c.hit.ensures)

pub returns-else-strikes : goal.returns-else-strikes
returns-else-strikes t c =
    rw (top-act c.requires c.in-Act.ensures.says, act-pass _ _ (letter_of c.args.letter) c.strikes.ensures c.if-strikes.false)
    (c.go_on_act.ensures _ _ _ (fine-act c.requires c.in-Act.ensures.says).1.1 c.rewrite_term-a-else-strikes.ensures)

-- `||`
pub skip-z-requires : goal.skip-z-requires
skip-z-requires t c = src-binary c.requires.src (ap arity (sym c.in-Par.ensures.says))

pub rewrite_term-b-requires : goal.rewrite_term-b-requires
rewrite_term-b-requires t c =
    (omega (arith, in_src _ _ _ c.requires.src, holds-less c.skip-z.ensures.held), (works-par c.requires c.in-Par.ensures.says c.skip-z.ensures).0)

pub rewrite_term-a-requires-in-Par : goal.rewrite_term-a-requires-in-Par
rewrite_term-a-requires-in-Par t c =
    (omega (arith, in_src _ _ _ c.requires.src), (works-par-2 c.requires c.rewrite_term-b.auto.dst c.in-Par.ensures.says c.skip-z.ensures c.rewrite_term-b.ensures).0)

pub go_on_par-requires : goal.go_on_par-requires
go_on_par-requires t c =
    omega (arith, (works-par-2 c.requires c.rewrite_term-b.auto.dst c.in-Par.ensures.says c.skip-z.ensures c.rewrite_term-b.ensures).1, c.rewrite_term-a-in-Par.ensures.fits, c.rewrite_term-a-in-Par.ensures.held.long, c.rewrite_term-b.ensures.held.long, c.rewrite_term-b.auto.dst, c.rewrite_term-a-in-Par.auto.dst, c.requires.top)

pub returns-in-Par : goal.returns-in-Par
unfolding rewritten
returns-in-Par t c =
    rw (top-par c.requires c.in-Par.ensures.says c.skip-z.ensures) (made_up (room-par _ _) (c.go_on_par.ensures _ _ _ _ _ _ _ c.rewrite_term-b.ensures c.rewrite_term-a-in-Par.ensures))

-- a unit without parts
pub side-requires : goal.side-requires
side-requires t c = hits-wait c.requires c.in-Wait.ensures.says

pub returns-in-Wait : goal.returns-in-Wait
returns-in-Wait t c =
    rw (top-wait c.requires c.in-Wait.ensures.says) (leaf-waits (letter_of c.args.letter) _ c.side.ensures)

pub returns-in-One : goal.returns-in-One
returns-in-One t c = rw (top-one c.requires c.in-One.ensures.says) (leaf-one (letter_of c.args.letter) c.put.ensures)

pub returns-then-ends : goal.returns-then-ends
returns-then-ends t c =
    rw (top-mod c.requires c.in-Module.ensures.says) (leaf-ends _ _ _ (letter_of c.args.letter) _ c.ends.ensures c.if-ends.true)

pub returns-else-ends : goal.returns-else-ends
returns-else-ends t c =
    rw (top-mod c.requires c.in-Module.ensures.says) (leaf-stays (letter_of c.args.letter) _ c.ends.ensures c.if-ends.false (small-mod c.requires c.in-Module.ensures.says) c.put-else-ends.ensures)
