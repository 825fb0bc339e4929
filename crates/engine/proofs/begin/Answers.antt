-- `engine::begin` meets its contract (`Beginning`). Assumes nothing.
use Rattle.engine.proofs.Beginning.{asks, first-packs, begins}
use mathlib.Core.Path.{refl}
use Rattle.engine.proofs.begin.Goals as goal

pub start_word-s-requires : goal.start_word-s-requires
start_word-s-requires c = (asks c.requires.0.program c.args.nodes.now c.args.modules.now c.args.events.now c.requires.0.loaded c.args.root c.requires.0.rooted, refl)

pub pack-requires : goal.pack-requires
pack-requires c = first-packs c.requires.0.program c.args.nodes.now c.args.modules.now c.args.events.now c.requires.0.loaded c.args.root c.requires.0.rooted c.start_word-s.new.w c.start_word-s.result c.start_word-s.ensures.0

pub returns : goal.returns
returns c = λ q d t. begins q c.args.nodes.now c.args.modules.now c.args.events.now d c.args.root t c.start_word-s.new.w c.start_word-s.result c.start_word-s.ensures.1 c.runs_flags-orders.result c.runs_flags-orders.ensures c.pack.result (c.pack.ensures q (record { nodes_are = d.nodes_are; modules_are = d.its.modules_are; events_are = d.its.events_are })) c.args.live.now c.copy_from_slice.new.self c.copy_from_slice.ensures.after
