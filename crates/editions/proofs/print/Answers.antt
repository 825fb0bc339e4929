-- `editions::print` meets its contract: the table is held by the output, so the line has room for its text. Assumes nothing.
use Rattle.std.proofs.Common.{sym, arith}
use Rattle.printing.specs.Lines.{answer}
use Rattle.editions.proofs.Files.{front-text}
use Rattle.editions.proofs.print.Goals as goal

pub returns : goal.returns
returns g c =
    let made = answer c.args.made.number c.args.made.place c.args.made.states c.args.made.size c.args.table.now in
    rw (sym (front-text made _ _ _ c.requires.0 (omega (arith, c.requires.1)) c.text-end.ensures)) c.write_all.ensures.bytes
