-- `compiler::build_read` meets its contract: the names are the first of their eight places. Assumes nothing.
use Rattle.engine.proofs.Whole.{few_modules, few_events, reads-loaded, reads-rooted, reads-kinds}
use Rattle.compiler.proofs.Whole.{reads-begins}
use lib.Seq.{length-take-le}
use lib.ListN.{length}
use native.Mathlib.Omega.{arith}
use mathlib.Core.Path.{◌≡◌, sym}
use borrow.Author.Rules.{rules}
use Rattle.compiler.proofs.build_read.Goals as goal

pub slice_bounds-letters-end : goal.slice_bounds-letters-end
slice_bounds-letters-end c = let z : length c.args.p.modules.letters ≡ 8 = (search rules) in omega (arith, z, few_modules c.requires.0.program c.args.p c.args.nodes.now c.requires.0.reads)

pub slice_bounds-build-end-3 : goal.slice_bounds-build-end-3
slice_bounds-build-end-3 c = sym (length-take-le c.args.p.modules.count c.args.p.modules.letters (let z : length c.args.p.modules.letters ≡ 8 = (search rules) in omega (arith, z, few_modules c.requires.0.program c.args.p c.args.nodes.now c.requires.0.reads)))

pub slice_bounds-names-end : goal.slice_bounds-names-end
slice_bounds-names-end c = let z : length c.args.p.events.letters ≡ 8 = (search rules) in omega (arith, z, few_events c.requires.0.program c.args.p c.args.nodes.now c.requires.0.reads)

pub slice_bounds-build-end-4 : goal.slice_bounds-build-end-4
slice_bounds-build-end-4 c = sym (length-take-le c.args.p.events.count c.args.p.events.letters (let z : length c.args.p.events.letters ≡ 8 = (search rules) in omega (arith, z, few_events c.requires.0.program c.args.p c.args.nodes.now c.requires.0.reads)))

pub build-requires : goal.build-requires
build-requires c = record { begins = reads-begins c.requires.0.program c.args.p c.args.nodes.now c.requires.0.reads c.args.weights.now c.requires.0.weights_are; room = c.requires.1 }

pub returns : goal.returns
returns c = λ q h. c.build.ensures q (reads-loaded q c.args.p c.args.nodes.now h) (reads-rooted q c.args.p c.args.nodes.now h) (reads-kinds q c.args.p c.args.nodes.now h)
