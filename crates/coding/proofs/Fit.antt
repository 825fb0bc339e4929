-- What a program that was read is to the coding: a table of nodes with its term as a node, its names, and few enough of them.
--     Fit p                 all of this
--     memory-short          so a memory has at most eight events: they are different, and events of the program
-- Assumes nothing.
use Prim.Native.Nat.{ℕ, ◌≤◌, ◌<◌}
use mathlib.Core.List.{List}
use mathlib.Core.Path.{◌≡◌}
use native.Mathlib.Omega.{arith}
use lib.Dec.{T}
use lib.ListN.{length}
use Rattle.paper.specs.Lists.{has}
use Rattle.paper.specs.Reaction.{Program}
use Rattle.laws.specs.Nodes.{Nodes, Apart, kind, letter, count}
use Rattle.laws.specs.Weight.{weight}
use Rattle.laws.proofs.Reached.{Memory}
use Rattle.coding.specs.Units.{IsTerm}
use Rattle.coding.specs.Written.{nodes_of}
use Rattle.coding.proofs.Letters.{once-shorter}

pub record Fit (p : Program) : Type 0 where
  pub nodes : Nodes (nodes_of p)
  pub apart : Apart (nodes_of p)
  pub root : IsTerm (nodes_of p) p.term
  pub owned : (i : ℕ) → i < count (nodes_of p) → kind (nodes_of p) i ≡ 0 → T (has (letter (nodes_of p) i) p.modules)
  pub letters : (m : ℕ) → T (has m p.modules) → m < 26
  pub few_modules : length p.modules ≤ 8
  pub few_events : length p.events ≤ 8
  pub light : weight p.term ≤ 96

pub memory-short : (p : Program) → Fit p → (m : List ℕ) → Memory p m → length m ≤ 8
memory-short p f m h = omega (arith, f.few_events, once-shorter m p.events h.0 (λ e t. (h.1 e t).0))
