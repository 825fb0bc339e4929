-- `compiler::compile` meets its contract: No. 1, the reader's refusal, or the table (`Whole`). Assumes nothing.
use Rattle.compiler.proofs.Whole.{came, short_output, short_work, refused-file, accepted-file}
use Rattle.compiler.proofs.Building.{cleared-as}
use Rattle.reader.specs.Reads.{edition_of}
use Rattle.compiler.specs.Compiling.{outcome}
use mathlib.Core.Path.{refl}
use Rattle.compiler.proofs.compile.Goals as goal

pub returns-then-output-lt26640 : goal.returns-then-output-lt26640
returns-then-output-lt26640 c = short_output (edition_of c.args.basic) c.args.file.now c.args.output.now c.args.work.now c.if-output-lt26640.true c.refuse.result c.refuse.ensures

pub returns-then-work-lt65536 : goal.returns-then-work-lt65536
returns-then-work-lt65536 c = short_work (edition_of c.args.basic) c.args.file.now c.args.output.now c.args.work.now c.if-work-lt65536.true c.refuse-then-work-lt65536.result c.refuse-then-work-lt65536.ensures

pub build_read-requires : goal.build_read-requires
build_read-requires c = let x = (came (edition_of c.args.basic) c.args.file.now c.read-p.result c.read-p.new.nodes c.read-p.new.weights c.read-p.ensures c.in-Accepted.is).it in (record { program = x.program; reads = x.reads; weights_are = x.weights_are }, (record { long = c.if-output-lt26640.false; wide = c.if-work-lt65536.false }))

pub returns-in-Refused : goal.returns-in-Refused
returns-in-Refused c = refused-file (edition_of c.args.basic) c.args.file.now c.args.output.now c.args.work.now (record { long = c.if-output-lt26640.false; wide = c.if-work-lt65536.false }) c.read-p.result c.read-p.new.nodes c.read-p.new.weights c.read-p.ensures c.in-Refused.number c.in-Refused.place c.in-Refused.is c.clear.new.nodes (cleared-as c.args.work.now c.args.work.now c.clear.new.nodes refl c.clear.ensures) c.refuse-in-Refused.result c.refuse-in-Refused.ensures

pub returns-in-Accepted : goal.returns-in-Accepted
returns-in-Accepted c = let x = came (edition_of c.args.basic) c.args.file.now c.read-p.result c.read-p.new.nodes c.read-p.new.weights c.read-p.ensures c.in-Accepted.is in accepted-file (edition_of c.args.basic) c.args.file.now c.args.output.now c.args.work.now (record { long = c.if-output-lt26640.false; wide = c.if-work-lt65536.false }) x.it.program x.is (outcome c.build_read.result c.build_read.new.output c.build_read.new.work) (c.build_read.ensures x.it.program x.it.reads)
