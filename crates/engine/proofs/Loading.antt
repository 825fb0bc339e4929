-- A file that was read and accepted: what the reader gives is the program as the engine holds it (`loaded`, `rooted`, `weighted`, `kinds`).
-- Assumes nothing.
use Prim.Native.Nat.{ℕ, ◌+◌, ◌-◌, ◌≤◌}
use mathlib.Core.Path.{◌≡◌, sym, ap, subst, ◌∙◌}
use mathlib.Core.Bool.{Bool, false, cond}
use mathlib.Core.List.{List, map}
use native.Mathlib.Omega.{arith}
use lib.Dec.{ltb}
use lib.ListN.{length, get_or, take, replicate}
use lib.Seq.{take-append_seam}
use borrow.Author.Tests.{lt-ltb}
use Rattle.paper.specs.Lists.{has, from, below}
use Rattle.paper.specs.Grammar.{Sequence, module_byte, event_byte, printed}
use Rattle.paper.specs.Parse.{parse}
use Rattle.paper.specs.File.{Read, accepted}
use Rattle.paper.specs.Limits.{tokens}
use Rattle.paper.specs.Term.{term_s}
use Rattle.paper.specs.Reaction.{Program}
use Rattle.paper.specs.Refusals.{adaptive, ascending, program_of, reading}
use Rattle.laws.specs.Nodes.{count, letter}
use Rattle.laws.proofs.Ordered.{Clear}
use Rattle.laws.proofs.Tokens.{few-tokens}
use Rattle.nodes.specs.Made.{Made}
use Rattle.nodes.specs.ByTerm.{made_of}
use Rattle.nodes.specs.Weights.{node_weight}
use Rattle.nodes.proofs.ByTerm.{made-of}
use Rattle.nodes.proofs.Laws.{made-root, size_below}
use Rattle.words.specs.Pieces.{Table}
use Rattle.react.specs.States.{Modules}
use Rattle.react.proofs.Flagged.{modules-kept}
use Rattle.coding.specs.Written.{nodes_of}
use Rattle.coding.proofs.Fit.{Fit}
use Rattle.coding.proofs.Accepted.{Accepted, reading-accepted, accepted-fit}
use Rattle.walk.specs.Judging.{Weighted}
use Rattle.reader.specs.declared.Program.{Program as Given}
use Rattle.reader.specs.Reads.{weights_in, kinds_of, ReadsAs}
use Rattle.reader.proofs.Accepts.{get_d-from, length_from}
use Rattle.engine.specs.Live.{Loaded, Rooted, Kinds}

-- ---- of a program that was accepted

fit-table : (q : Program) → Fit q → Table (nodes_of q)
fit-table q f = record { nodes = f.nodes; apart = f.apart; named = λ i h k. f.letters (letter (nodes_of q) i) (f.owned i h k) }

module _ (q : Program) (f : Fit q) (a : Accepted q) where
  its-modules : Modules q.modules
  unfolding program_of
  its-modules =
      let e : ascending module_byte a.value.is ≡ q.modules = ap (λ (p : Program). p.modules) a.is in
      subst Modules e (modules-kept (λ n. has (module_byte n) a.value.is) (omega (arith, ap length e, f.few_modules)))

  its-events : Modules q.events
  unfolding program_of
  its-events =
      let e : ascending event_byte a.value.is ≡ q.events = ap (λ (p : Program). p.events) a.is in
      subst Modules e (modules-kept (λ n. has (event_byte n) a.value.is) (omega (arith, ap length e, f.few_events)))

tree-rooted : (r : Read) (at : ℕ) (v : List ℕ) (s : Sequence) → length (tokens at (printed s)) ≤ 96 → Rooted (program_of r v s) (made_of (term_s s)).table (made_of (term_s s)).node
unfolding program_of
tree-rooted r at v s few =
    let m = made-root at s (size_below at s few) in
    subst (λ (x : Made). Rooted (program_of r v s) x.table x.node) (made-of at s) (record { below = m.below; a_term = m.a_term; its_term = m.its_term })

accepted-rooted : (q : Program) → Accepted q → Rooted q (nodes_of q) (made_of q.term).node
unfolding Clear program_of
accepted-rooted q a =
    let at = a.value.at in
    let few : length (tokens at (printed a.tree)) ≤ 96 = subst (λ (w : List ℕ). length (tokens at w) ≤ 96) a.text (few-tokens at a.value.is a.clear.0) in
    subst (λ (p : Program). Rooted p (nodes_of p) (made_of p.term).node) a.is (tree-rooted a.read at a.value.is a.tree few)

-- ---- as the reader gives it

module _ (file : List ℕ) (q : Program) (e : reading parse adaptive file ≡ accepted q) (r : Given) (P vs : List ℕ) (g : ReadsAs (accepted q) r P vs) where
  its-fit : Fit q
  its-fit = accepted-fit file q e

  nodes_are : nodes_of q ≡ P
  nodes_are = sym g.its_nodes

  modules_are : q.modules ≡ take r.modules.count r.modules.letters
  modules_are =
      sym (ap (λ (x : Given). take x.modules.count x.modules.letters) g.is ∙ take-append_seam q.modules (replicate (8 - length q.modules) 0))

  events_are : q.events ≡ take r.events.count r.events.letters
  events_are =
      sym (ap (λ (x : Given). take x.events.count x.events.letters) g.is ∙ take-append_seam q.events (replicate (8 - length q.events) 0))

  pub loaded : Loaded q P (take r.modules.count r.modules.letters) (take r.events.count r.events.letters)
  loaded =
      let f = its-fit in
      let a = reading-accepted file q e in
      record {
        fit = f;
        nodes_are = nodes_are;
        its = record { modules_are = modules_are; events_are = events_are };
        table = subst Table nodes_are (fit-table q f);
        modules = subst Modules modules_are (its-modules q f a);
        events = subst Modules events_are (its-events q f a);
      }

  pub rooted : Rooted q P r.root
  rooted =
      subst (λ (n : ℕ). Rooted q P n) (sym (ap (λ (x : Given). x.root) g.is))
      (subst (λ (X : List ℕ). Rooted q X (made_of q.term).node) nodes_are (accepted-rooted q (reading-accepted file q e)))

  pub weighted : Weighted P vs
  unfolding weights_in below
  weighted =
      let t : Table P = loaded.table in
      let w : vs ≡ map (λ i. cond (ltb i (count P)) (node_weight P i) 0) (from 0 192) = g.its_weights ∙ ap weights_in nodes_are in
      record {
        table = t;
        places = omega (arith, t.nodes.few, ap length w, length_from (λ i. cond (ltb i (count P)) (node_weight P i) 0) 0 192);
        weights = λ i h.
            ap (λ (l : List ℕ). get_or l i 0) w
            ∙ (get_d-from (λ j. cond (ltb j (count P)) (node_weight P j) 0) 0 0 192 i (omega (arith, t.nodes.few))
            ∙ (let z : 0 + i ≡ i = omega arith in ap (λ (j : ℕ). cond (ltb j (count P)) (node_weight P j) 0) z
            ∙ ap (λ (b : Bool). cond b (node_weight P i) 0) (lt-ltb i (count P) h)));
      }

  pub kinds : Kinds q r.fugitive
  unfolding kinds_of below
  kinds x h =
      ap (λ (y : Given). get_or y.fugitive x false) g.is
      ∙ (get_d-from (λ y. has y q.fugitive) false 0 26 x h ∙ (let z : 0 + x ≡ x = omega arith in ap (λ (y : ℕ). has y q.fugitive) z))
