-- What is asked can be met: the program `a/E.`, its postorder and its table, by computation; and in `aa.` the two equal parts are one node.
-- Assumes nothing.
use Prim.Native.Nat.{ℕ}
use mathlib.Core.List.{List, ◌∷◌, ◌++◌}
use mathlib.Core.Path.{◌≡◌, refl}
use native.Mathlib.Omega.{arith}
use lib.ListN.{replicate}
use Rattle.paper.specs.Grammar.{Sequence, only, then, plain, until, once, named, event, print_s, printed}
use Rattle.paper.specs.Limits.{tokens_from, tokens}
use Rattle.paper.specs.Term.{Mod, Act, Event, term_s}
use Rattle.laws.specs.Nodes.{Nodes, Apart, count, left, right, tree, tree_from, as_term, as_intr}
use Rattle.laws.specs.Placed.{size, codes, lefts, placed_s}
use Rattle.nodes.specs.Made.{seek, append, make, code_kind, node_by, grown, start, made}
use Rattle.nodes.specs.Given.{Given}
use Rattle.nodes.specs.Weights.{Weighable}
use Rattle.nodes.proofs.Laws.{Root, made-root}
use Rattle.nodes.proofs.Parts.{made-weighable}

abbrev q : Sequence
q = only (until (once (named 0 tt)) (event 4 tt))

abbrev code : List ℕ
code = 97 ∷ 69 ∷ 47 ∷ replicate 189 0

-- `make_nodes` can be given it
some-given : Given code (replicate 192 0) 3 768
unfolding placed_s codes lefts size
some-given =
    record {
      at = 0;
      program = q;
      written = record { its_codes = refl; its_lefts = refl };
      code_long = refl;
      left_long = refl;
      few = omega arith;
      nodes_long = refl;
    }

-- its nodes: `1`, the module 0, the event 4, and 1 `/` 2; four columns, and the number of nodes in front of the letters
abbrev some : List ℕ
some =
    (1 ∷ 0 ∷ 6 ∷ 5 ∷ replicate 188 0)
    ++ ((0 ∷ 0 ∷ 0 ∷ 1 ∷ replicate 188 0) ++ ((0 ∷ 0 ∷ 0 ∷ 2 ∷ replicate 188 0) ++ (4 ∷ 0 ∷ 4 ∷ 0 ∷ replicate 188 0)))

some-table : (made (placed_s 0 q)).table ≡ some
unfolding placed_s grown node_by code_kind make append seek start
some-table = refl

some-root : (made (placed_s 0 q)).node ≡ 3
unfolding placed_s grown node_by code_kind make append seek start
some-root = refl

some-tree : tree some 3 ≡ Act (Mod 0) (Event 4)
unfolding tree tree_from as_term as_intr
some-tree = refl

some-laws : Root some 3 3 (Act (Mod 0) (Event 4))
unfolding placed_s size term_s
some-laws = rw (some-table, some-root) at (made-root 0 q (omega arith))

pub some-nodes : Nodes some
some-nodes = some-laws.nodes

pub some-apart : Apart some
some-apart = some-laws.apart

-- `weigh` can be given it
some-weighable : Weighable some 192
unfolding tokens tokens_from printed print_s
some-weighable = rw some-table at (made-weighable 0 q (omega arith))

-- `aa.`: a module, and a sequence whose parts are that one node
abbrev twice : Sequence
twice = then (plain (once (named 0 tt))) (only (plain (once (named 0 tt))))

shared : (count (made (placed_s 0 twice)).table ≡ 3) × ((left (made (placed_s 0 twice)).table 2 ≡ 1) × (right (made (placed_s 0 twice)).table 2 ≡ 1))
unfolding placed_s grown node_by code_kind make append seek start
shared = (refl, (refl, refl))
