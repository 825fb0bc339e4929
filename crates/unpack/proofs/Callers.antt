-- What a caller has of a file that was accepted is what `unpack` asks: the table of the program's nodes with the weight of each (`accepted-given`),
-- and flags by letter that say its fugitive events (`accepted-of`). Assumes nothing.
use Prim.Native.Nat.{ℕ, zero, suc, ◌+◌, ◌≤◌, ◌<◌}
use mathlib.Core.Bool.{Bool, true, false}
use mathlib.Core.List.{List, [], ◌∷◌}
use mathlib.Core.Path.{◌≡◌, refl, subst}
use native.Mathlib.Omega.{arith}
use lib.ListN.{length, get_or}
use Rattle.paper.specs.Lists.{with_if, has, keep, from, below}
use Rattle.paper.specs.Grammar.{module_byte, event_byte}
use Rattle.paper.specs.Parse.{parse}
use Rattle.paper.specs.File.{accepted}
use Rattle.paper.specs.Reaction.{Program}
use Rattle.paper.specs.Refusals.{adaptive, ascending, program_of, reading}
use Rattle.laws.specs.Nodes.{count}
use Rattle.nodes.specs.Weights.{node_weight}
use Rattle.react.specs.States.{Ascends}
use Rattle.coding.specs.Written.{nodes_of}
use Rattle.coding.proofs.Accepted.{Accepted, reading-accepted, accepted-fit}
use Rattle.unpack.specs.Unpacking.{Given, Of}

ascends-lower : (k : ℕ) (xs : List ℕ) → Ascends (suc k) xs → Ascends k xs
unfolding Ascends
ascends-lower k [] a = tt
ascends-lower k (x ∷ xs) a = (omega (arith, a.0), a.1)

-- what a test keeps of letters that ascend ascends
ascends-kept : (f : ℕ → Bool) (k n : ℕ) → k + n ≤ 26 → Ascends k (keep f (from k n))
unfolding Ascends keep from
ascends-kept f k zero h = tt
ascends-kept f k (suc n) h = go (f k) (ascends-kept f (suc k) n (omega arith))
  where
    go : (b : Bool) → Ascends (suc k) (keep f (from (suc k) n)) → Ascends k (with_if b k (keep f (from (suc k) n)))
    go true a = (omega arith, (omega arith, a))
    go false a = ascends-lower k (keep f (from (suc k) n)) a

letters-ascend : (byte : ℕ → ℕ) (v : List ℕ) → Ascends 0 (ascending byte v)
unfolding below
letters-ascend byte v = ascends-kept (λ n. has (byte n) v) 0 26 (omega arith)

program-letters : (q : Program) → Accepted q → Ascends 0 q.modules × Ascends 0 q.events
unfolding program_of
program-letters q a =
    subst (λ (x : Program). Ascends 0 x.modules × Ascends 0 x.events) a.is (letters-ascend module_byte a.value.is, letters-ascend event_byte a.value.is)

module _ (file : List ℕ) (q : Program) (e : reading parse adaptive file ≡ accepted q) where
  pub accepted-given : (vs : List ℕ) → count (nodes_of q) ≤ length vs → ((i : ℕ) → i < count (nodes_of q) → get_or vs i 0 ≡ node_weight (nodes_of q) i)
      → Given (nodes_of q) vs q.modules q.events
  accepted-given vs l h =
      let f = accepted-fit file q e in
      let a = program-letters q (reading-accepted file q e) in
      record {
        weighted =
            record {
              table = record { nodes = f.nodes; apart = f.apart; named = λ i u k. f.letters _ (f.owned i u k) };
              places = l;
              weights = h;
            };
        modules = record { few = f.few_modules; ascend = a.0 };
        events = record { few = f.few_events; ascend = a.1 };
      }

  pub accepted-of : (fs : List Bool) → ((x : ℕ) → x < 26 → get_or fs x false ≡ has x q.fugitive) → Of q (nodes_of q) q.modules q.events fs
  accepted-of fs h =
      record { fit = accepted-fit file q e; nodes_are = refl; modules_are = refl; events_are = refl; fugitive_are = h }
