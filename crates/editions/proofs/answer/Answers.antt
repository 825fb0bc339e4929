-- `editions::answer` meets its contract: what a compile answered is printed, and no more of its table than the output holds. Assumes nothing.
use Rattle.std.proofs.Common.{◌≡◌, ap, subst, sym, ◌∙◌, arith}
use Rattle.paper.specs.Programs.{answer_text}
use Rattle.printing.specs.Lines.{answer}
use Rattle.printing.proofs.Shown.{answer-text}
use Rattle.refusals.specs.Refusals.{edition_of}
use Rattle.compiler.specs.Compiling.{outcome}
use Rattle.editions.specs.Texts.{text_of}
use Rattle.editions.proofs.Files.{Holds, compiled-holds}
use Rattle.editions.proofs.answer.Goals as goal

pub print-requires : goal.print-requires
print-requires g c =
    let h : Holds (outcome c.compile-made.result c.compile-made.new.output c.compile-made.new.work) = subst Holds (sym c.compile-made.ensures) (compiled-holds _ _ _ _ _) in
    (h, omega arith)

pub returns : goal.returns
unfolding text_of
returns g c =
    let made = outcome c.compile-made.result c.compile-made.new.output c.compile-made.new.work in
    let e : answer_text (answer made.number made.place made.states made.size made.output) ≡ text_of (edition_of c.args.edition) c.args.file.now =
    answer-text made ∙ ap answer_text c.compile-made.ensures in
    rw (sym e) c.print.ensures
