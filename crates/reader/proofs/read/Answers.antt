-- `reader::read` meets its contract: the arrays are cleared first, so a refusal leaves zeros. Assumes nothing.
use Prim.Native.Nat.{ℕ}
use mathlib.Core.Path.{◌≡◌, ap, ◌∙◌}
use mathlib.Core.List.{List}
use lib.ListN.{length, replicate}
use borrow.Author.Rules.{rules}
use Rattle.paper.specs.Parse.{parse}
use Rattle.paper.specs.Refusals.{reading}
use Rattle.text.proofs.Onward.{reading-refused}
use Rattle.reader.specs.Reads.{edition_of}
use Rattle.reader.proofs.Reading.{refused_as}
use Rattle.reader.proofs.read.Goals as goal

-- zeros as many as there were places
zeros : (xs ys : List ℕ) (n : ℕ) → xs ≡ replicate (length ys) 0 → length ys ≡ n → xs ≡ replicate n 0
zeros xs ys n e l = e ∙ ap (λ (k : ℕ). replicate k 0) l

pub read_text-requires : goal.read_text-requires
read_text-requires c = record {
  taken = c.in-Read.ensures;
  nodes_value = (
    zeros c.clear.new.nodes c.args.nodes.now 768 c.clear.ensures (search rules),
    zeros c.clear-2.new.nodes c.args.weights.now 192 c.clear-2.ensures (search rules),
  );
}

pub returns-in-Refused : goal.returns-in-Refused
returns-in-Refused c =
    let a = c.args in
    let e = edition_of a.basic in
    refused_as (reading parse e a.file.now) c.in-Refused.number c.in-Refused.place c.refuse.result c.clear.new.nodes c.clear-2.new.nodes
    (reading-refused a.file.now parse e c.in-Refused.number c.in-Refused.place c.in-Refused.ensures)
    c.refuse.ensures
    (zeros c.clear.new.nodes a.nodes.now 768 c.clear.ensures (search rules))
    (zeros c.clear-2.new.nodes a.weights.now 192 c.clear-2.ensures (search rules))
