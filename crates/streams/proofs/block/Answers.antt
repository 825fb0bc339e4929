-- `streams::block` meets its contract: the two parts that were read, one behind the other. Assumes nothing.
use Rattle.std.proofs.Common.{rules}
use Rattle.std.proofs.KnownBytes.{Consumes-trans}
use Rattle.streams.proofs.block.Goals as goal

pub returns-clause-bytes : goal.returns-clause-bytes
returns-clause-bytes g c = record {
  head = c.fill.new.buffer;
  two = search rules;
  counted = search rules;
  read = Consumes-trans _ _ _ _ _ (c.in_ok-fill.ensures.bytes c.if-not-branch.false) (c.in_ok-fill-2.ensures.bytes c.if-not-branch-2.false);
}
