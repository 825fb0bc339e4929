-- `reader::read_tree` meets its contract: what the checks answer is what the paper's checks do (`Reading`). Assumes nothing.
use mathlib.Core.Path.{sym, subst}
use Rattle.paper.specs.File.{Answer}
use Rattle.paper.specs.Parse.{parse}
use Rattle.paper.specs.Reaction.{Program}
use Rattle.paper.specs.Refusals.{reading}
use Rattle.reader.specs.Reads.{edition_of, ReadsAs}
use Rattle.reader.proofs.Reading.{refused_as, reading-checked, reading-accepts, checked-fit}
use Rattle.reader.proofs.read_tree.Goals as goal

pub accept-requires : goal.accept-requires
accept-requires c =
    let a = c.args in
    record {
      fit =
          checked-fit a.file.now a.lines c.requires.taken (edition_of a.basic) a.code.now a.left.now a.place.now a.n c.requires.has_tree
          c.check-checked.result
          c.check-checked.ensures
          c.in-Fine.is;
      weights_value = c.requires.nodes_value.1;
    }

pub returns-in-Refused : goal.returns-in-Refused
returns-in-Refused c =
    let a = c.args in
    let e = edition_of a.basic in
    refused_as (reading parse e a.file.now) c.in-Refused.number c.in-Refused.p c.refuse.result a.nodes.now a.weights.now
    (reading-checked a.file.now a.lines c.requires.taken e a.code.now a.left.now a.place.now a.n c.requires.has_tree c.check-checked.result c.check-checked.ensures c.in-Refused.number c.in-Refused.p c.in-Refused.is)
    c.refuse.ensures
    c.requires.nodes_value.0
    c.requires.nodes_value.1

pub returns-in-Fine : goal.returns-in-Fine
returns-in-Fine c =
    let a = c.args in
    let t = c.requires.has_tree in
    subst (λ (x : Answer Program). ReadsAs x c.accept.result c.accept.new.nodes c.accept.new.weights)
    (sym
    (reading-accepts a.file.now a.lines c.requires.taken (edition_of a.basic) a.code.now a.left.now a.place.now a.n t c.check-checked.result c.check-checked.ensures c.in-Fine.is t.tree t.parsed))
    (c.accept.ensures t.tree t.parsed)
