-- `rewrite::settle` meets its contract: the argument is in `Invariants`.
use borrow.Author.Rules.{rules}
use native.Mathlib.Omega.{arith}
use mathlib.Core.Path.{◌≡◌, ◌∙◌}
use lib.ListN.{length}
use Rattle.rewrite.proofs.Served.{ended, quiet, served, lead-small, rests-by}
use Rattle.rewrite.proofs.+settle.Goals as goal

pub returns-then-s-eq96 : goal.returns-then-s-eq96
returns-then-s-eq96 t c = (c.requires.1.0, (ended _ c.requires.1.0 (omega (arith, c.if-s-eq96.true)), omega arith))

pub oldest_armed-k-requires : goal.oldest_armed-k-requires
oldest_armed-k-requires t c = (c.requires.0.nodes, (c.requires.1.0.right, (omega (arith, c.requires.1.0.within, c.requires.1.0.long), c.requires.1.1.1)))

pub returns-then-k-n : goal.returns-then-k-n
returns-then-k-n t c =
    let l : length c.args.memory.events ≡ 8 = search rules in
    (c.requires.1.0, (quiet c.requires.1.0 (omega (arith, c.if-s-eq96.false, c.requires.1.0.within)) c.args.memory.events c.args.memory.count c.oldest_armed-k.result (omega (arith, l, c.requires.1.1.1)) c.oldest_armed-k.ensures c.if-k-n.true, c.requires.1.1.1))

pub offset_bounds-memory-k : goal.offset_bounds-memory-k
offset_bounds-memory-k t c =
    let l : length c.args.memory.events ≡ 8 = search rules in
    omega (arith, lead-small c.requires.1.0 (omega (arith, c.if-s-eq96.false, c.requires.1.0.within)) c.args.memory.events c.args.memory.count c.oldest_armed-k.result (omega (arith, l, c.requires.1.1.1)) c.oldest_armed-k.ensures, c.if-k-n.false, c.requires.1.1.1)

pub bounds-memory-k : goal.bounds-memory-k
bounds-memory-k t c =
    let l : length c.args.memory.events ≡ 8 = search rules in
    omega (arith, lead-small c.requires.1.0 (omega (arith, c.if-s-eq96.false, c.requires.1.0.within)) c.args.memory.events c.args.memory.count c.oldest_armed-k.result (omega (arith, l, c.requires.1.1.1)) c.oldest_armed-k.ensures, c.if-k-n.false, c.requires.1.1.1)

pub forget-next-requires : goal.forget-next-requires
forget-next-requires t c =
    let l : length c.args.memory.events ≡ 8 = search rules in
    omega (arith, lead-small c.requires.1.0 (omega (arith, c.if-s-eq96.false, c.requires.1.0.within)) c.args.memory.events c.args.memory.count c.oldest_armed-k.result (omega (arith, l, c.requires.1.1.1)) c.oldest_armed-k.ensures, c.if-k-n.false, c.requires.1.1.1)

pub rewrite_state-r-requires : goal.rewrite_state-r-requires
rewrite_state-r-requires t c = (c.requires.0, (c.requires.1.0, ((omega (arith, c.if-s-eq96.false, c.requires.1.0.within)), c.requires.1.1.0)))

pub settle-requires : goal.settle-requires
settle-requires t c = (omega (arith, c.forget-next.ensures.0, c.requires.0), (c.requires.0, (c.rewrite_state-r.ensures.0, (c.rewrite_state-r.auto.tmp ∙ c.requires.1.1.0, omega (arith, c.forget-next.ensures.0, c.requires.1.1.1)))))

pub returns : goal.returns
returns t c =
    let l : length c.args.memory.events ≡ 8 = search (rules, c.well_formed) in
    rests-by c.settle.result c.settle.ensures (served c.requires.1.0 (omega (arith, c.if-s-eq96.false, c.requires.1.0.within)) c.args.memory.events c.args.memory.count c.oldest_armed-k.result (omega (arith, l, c.requires.1.1.1)) c.oldest_armed-k.ensures c.rewrite_state-r.new.w c.rewrite_state-r.result c.if-k-n.false c.rewrite_state-r.ensures.1 c.forget-next.ensures.1)
