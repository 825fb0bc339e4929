-- `FieldWriter::append` meets its contract: what `put` pastes stands behind what stood before it (`put-done`).
-- Assumes nothing.
use mathlib.Core.Path.{refl}
use Rattle.fields.proofs.Runs.{put-done}
use Rattle.fields.proofs.FieldWriter.append.Goals as goal

pub returns : goal.returns
returns c =
    let w = c.args.self.now in
    record {
      ends = refl;
      appended = put-done w.out.now c.put.new.out w.bit c.args.width c.args.v c.requires.1.0 c.put.ensures;
      same_length = c.put.auto.out;
      same_reference = refl;
    }
