-- `reader::accept` meets its contract: what it asks of the node maker, the weights and the names holds of a program that passes, and each answer is the
-- definition's (`Accepts`). Assumes nothing.
use Prim.Native.Nat.{ℕ}
use mathlib.Core.List.{List}
use mathlib.Core.Path.{sym, subst}
use lib.ListN.{length}
use lib.Seq.{length-take-le}
use native.Mathlib.Omega.{arith}
use borrow.Author.Rules.{rules}
use Rattle.nodes.specs.Weights.{Weighed}
use Rattle.reader.proofs.Accepts.{fit-given, fit-weighable, fit-modules, fit-events, fit-reads}
use Rattle.reader.proofs.Listed.{end-in}
use Rattle.reader.proofs.accept.Goals as goal

pub make_nodes-root-requires : goal.make_nodes-root-requires
make_nodes-root-requires c =
    let a = c.args in
    fit-given a.file.now a.lines a.code.now a.left.now a.n c.requires.fit (length a.nodes.now) (search rules)

pub weigh-requires : goal.weigh-requires
weigh-requires c =
    let a = c.args in
    let m = c.make_nodes-root in
    fit-weighable a.file.now a.lines a.code.now a.left.now a.n c.requires.fit m.new.nodes m.result m.ensures (length a.weights.now)
    (search rules)

pub slice_bounds-ascending-end : goal.slice_bounds-ascending-end
slice_bounds-ascending-end c =
    let bs = c.args.file.now in
    let s = c.args.lines.program in
    sym (length-take-le s.end bs (end-in (length bs) s c.requires.fit.taken.lie.program))

pub ascending-modules-requires : goal.ascending-modules-requires
ascending-modules-requires c =
    let a = c.args in
    (omega arith, fit-modules a.file.now a.lines a.code.now a.left.now a.n c.requires.fit)

pub slice_bounds-ascending-end-2 : goal.slice_bounds-ascending-end-2
slice_bounds-ascending-end-2 c =
    let bs = c.args.file.now in
    let s = c.args.lines.program in
    sym (length-take-le s.end bs (end-in (length bs) s c.requires.fit.taken.lie.program))

pub ascending-events-requires : goal.ascending-events-requires
ascending-events-requires c =
    let a = c.args in
    (omega arith, fit-events a.file.now a.lines a.code.now a.left.now a.n c.requires.fit)

pub letters_of-fugitive-requires : goal.letters_of-fugitive-requires
letters_of-fugitive-requires c = end-in (length c.args.file.now) c.args.lines.fugitive c.requires.fit.taken.lie.fugitive

pub returns : goal.returns
returns c =
    let a = c.args in
    let m = c.make_nodes-root in
    let w : List ℕ = c.weigh.new.w in
    fit-reads a.file.now a.lines a.code.now a.left.now a.n c.requires.fit m.new.nodes m.result m.ensures w (search rules)
    (subst (λ (z : List ℕ). Weighed m.new.nodes z w) c.requires.weights_value c.weigh.ensures)
    c.ascending-modules.result
    c.ascending-events.result
    c.ascending-modules.ensures
    c.ascending-events.ensures
    c.letters_of-fugitive.result
    c.letters_of-fugitive.ensures.0
    c.letters_of-fugitive.ensures.1
