-- `compiler::build` meets its contract: No. 17, No. 18, or the table, and the working slice zero in each case (`Building`). Assumes nothing.
use Rattle.compiler.proofs.Building.{emits, tells, cleared-as, over-as, large-as, built-as}
use native.Mathlib.Omega.{arith}
use lib.ListN.{length}
use Rattle.paper.specs.Discovery.{discovered}
use Rattle.paper.specs.Table.{table_of}
use borrow.Author.Rules.{rules}
use Rattle.compiler.proofs.build.Goals as goal

pub discover-f-requires : goal.discover-f-requires
discover-f-requires c = record { begins = c.requires.begins; in_bounds = (c.requires.room.wide, (search rules)) }

pub returns-then-f : goal.returns-then-f
returns-then-f c = λ q d t k. over-as q c.args.modules.now c.discover-f.new.entries c.discover-f.result (c.discover-f.ensures q d t k) c.args.output.now c.args.work.now c.clear.new.nodes (cleared-as c.args.work.now c.discover-f.new.work c.clear.new.nodes (omega (arith, c.discover-f.auto.work)) c.clear.ensures) c.if-f.true c.refuse.result c.refuse.ensures

pub returns-then-f-2 : goal.returns-then-f-2
returns-then-f-2 c = λ q d t k. large-as q c.args.modules.now c.discover-f.new.entries c.discover-f.result (c.discover-f.ensures q d t k) c.args.output.now c.args.work.now c.clear.new.nodes (cleared-as c.args.work.now c.discover-f.new.work c.clear.new.nodes (omega (arith, c.discover-f.auto.work)) c.clear.ensures) c.if-f.false c.if-f-2.true c.refuse-then-f-2.result c.refuse-then-f-2.ensures

pub emit-size-requires : goal.emit-size-requires
emit-size-requires c = let b = c.requires.begins in emits b.program c.args.nodes.now c.args.modules.now c.args.events.now b.loaded c.discover-f.new.entries c.discover-f.result (c.discover-f.ensures b.program b.loaded b.rooted b.kinds) c.if-f.false c.if-f-2.false (length c.discover-f.new.entries) (length c.args.output.now) (omega (arith, c.discover-f.auto.entries)) c.requires.room.long

pub returns : goal.returns
returns c = λ q d t k. let h = c.discover-f.ensures q d t k in built-as q c.args.modules.now c.discover-f.new.entries c.discover-f.result h c.args.output.now c.args.work.now c.clear.new.nodes (cleared-as c.args.work.now c.discover-f.new.work c.clear.new.nodes (omega (arith, c.discover-f.auto.work)) c.clear.ensures) c.if-f.false c.if-f-2.false c.emit-size.result c.emit-size.new.out (c.emit-size.ensures (table_of q (discovered q).seen) (tells q c.args.nodes.now c.args.modules.now c.args.events.now d c.discover-f.new.entries c.discover-f.result h c.if-f.false c.if-f-2.false c.args.fugitive.now k))
