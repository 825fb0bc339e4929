-- `reader::read_text` meets its contract: No. 8 at the place where the reader of the text stops, or what is said of its tree. Assumes nothing.
use mathlib.Core.Path.{sym, refl}
use lib.ListN.{length}
use lib.Seq.{length-take-le}
use Rattle.paper.specs.Parse.{parse}
use Rattle.paper.specs.Refusals.{reading}
use Rattle.reader.specs.Reads.{edition_of}
use Rattle.reader.proofs.Reading.{refused_as, reading-stops, read-tree-of}
use Rattle.reader.proofs.Fits.{text-short}
use Rattle.reader.proofs.Listed.{end-in}
use Rattle.reader.proofs.read_text.Goals as goal

pub slice_bounds-read_program-end : goal.slice_bounds-read_program-end
slice_bounds-read_program-end c =
    let bs = c.args.file.now in
    let s = c.args.lines.program in
    sym (length-take-le s.end bs (end-in (length bs) s c.requires.taken.lie.program))

pub read_program-got-requires : goal.read_program-got-requires
read_program-got-requires c = record {
  s_len_bound = text-short c.args.file.now c.args.lines c.requires.taken;
  room = record { code = refl; left = refl; place = refl };
}

pub read_tree-requires : goal.read_tree-requires
read_tree-requires c =
    let a = c.args in
    let g = c.read_program-got in
    record {
      taken = c.requires.taken;
      has_tree = read-tree-of a.file.now a.lines g.new.code g.new.left g.new.place _ c.in-At.n c.in-At.ensures;
      nodes_value = c.requires.nodes_value;
    }

pub returns-in-Bad : goal.returns-in-Bad
returns-in-Bad c =
    let a = c.args in
    let e = edition_of a.basic in
    refused_as (reading parse e a.file.now) 8 c.in-Bad.p c.refuse.result a.nodes.now a.weights.now
    (reading-stops a.file.now a.lines c.requires.taken e c.in-Bad.p c.in-Bad.ensures.stop)
    c.refuse.ensures
    c.requires.nodes_value.0
    c.requires.nodes_value.1
