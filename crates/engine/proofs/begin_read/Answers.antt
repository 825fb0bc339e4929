-- `engine::begin_read` meets its contract: the names are the first of their eight places. Assumes nothing.
use Rattle.engine.proofs.Whole.{few_modules, few_events, reads-begins, reads-loaded, reads-rooted}
use lib.ListN.{length}
use native.Mathlib.Omega.{arith}
use mathlib.Core.Path.{◌≡◌}
use borrow.Author.Rules.{rules}
use Rattle.engine.proofs.begin_read.Goals as goal

pub slice_bounds-letters-end : goal.slice_bounds-letters-end
slice_bounds-letters-end c = let z : length c.args.p.modules.letters ≡ 8 = (search rules) in omega (arith, z, few_modules c.requires.0.program c.args.p c.args.nodes.now c.requires.0.reads)

pub slice_bounds-names-end : goal.slice_bounds-names-end
slice_bounds-names-end c = let z : length c.args.p.events.letters ≡ 8 = (search rules) in omega (arith, z, few_events c.requires.0.program c.args.p c.args.nodes.now c.requires.0.reads)

pub begin-requires : goal.begin-requires
begin-requires c = (reads-begins c.requires.0.program c.args.p c.args.nodes.now c.requires.0.reads, c.requires.1)

pub returns : goal.returns
returns c = λ q h. c.begin.ensures q (reads-loaded q c.args.p c.args.nodes.now h) (reads-rooted q c.args.p c.args.nodes.now h)
