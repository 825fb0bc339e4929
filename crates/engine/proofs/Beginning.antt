-- The start: the word of the program's term, no memory, nothing stopped. Assumes nothing.
use Prim.Native.Nat.{ℕ}
use mathlib.Core.Path.{◌≡◌, sym, ap, ◌∙◌}
use mathlib.Core.List.{List, [], map}
use native.Mathlib.Omega.{arith}
use lib.Dec.{T}
use lib.ListN.{length, replicate}
use Rattle.paper.specs.Lists.{has}
use Rattle.paper.specs.Term.{Left, still}
use Rattle.paper.specs.Running.{runs_l}
use Rattle.paper.specs.Reaction.{Program, start_of}
use Rattle.paper.specs.File.{accepted}
use Rattle.paper.specs.Table.{flag}
use Rattle.paper.specs.Calls.{eight, begun}
use Rattle.laws.specs.Nodes.{tree}
use Rattle.laws.specs.Weight.{weight}
use Rattle.words.specs.Pieces.{Asks}
use Rattle.rewrite.specs.Steps.{Stands, state}
use Rattle.react.specs.declared.State.{State as Kept}
use Rattle.react.specs.States.{flags_of, state_of, stopped_of}
use Rattle.react.proofs.Flagged.{stopped_none, flags-none}
use Rattle.coding.specs.Code.{code, coding}
use Rattle.pack.specs.Packing.{Packs}
use Rattle.engine.specs.Live.{outcome, Loaded, Rooted}
use Rattle.engine.proofs.Going.{lives-as}

-- where its word starts at s, and nothing is stored or stopped
abbrev first : ℕ → Kept
first s = record { start = s; memory = record { events = replicate 8 0; count = 0 }; stopped = replicate 8 0 }

none-stored : (e : ℕ) → T (has e []) → ⊥
unfolding has
none-stored e x = x

module _ (q : Program) (P ms es : List ℕ) (d : Loaded q P ms es) (root : ℕ) (t : Rooted q P root) where
  pub asks : Asks P root 96 96
  asks = record {
    table = d.table;
    here = t.below;
    term = t.a_term;
    space = omega (arith, ap weight t.its_term, d.fit.light);
    top = omega arith;
  }

  module _ (W : List ℕ) (s : ℕ) where
    pub first-packs : Stands P W s → Packs P ms es W (first s)
    first-packs h = record {
      table = d.table;
      modules = d.modules;
      stands = h;
      memory = record { few = d.events.few; count = omega arith; among = λ e x. absurd (none-stored e x) };
      flags = flags-none 8 (length ms);
    }

    module _ (g : state P W s ≡ still (tree P root)) where
      its_left : state P W s ≡ still q.term
      its_left = g ∙ ap still t.its_term

      its-state : state_of P W ms (first s) ≡ start_of q
      unfolding start_of
      its-state =
          ap (λ (l : Left). record { left = l; memory = []; stopped = stopped_of ms (replicate 8 0) }) its_left
          ∙ ap (λ (xs : List ℕ). record { left = still q.term; memory = []; stopped = xs }) (stopped_none 8 ms)

      pub begins : (o : List ℕ) → o ≡ flags_of (λ m. runs_l m (state P W s)) ms → (b : List ℕ) → b ≡ code q (state_of P W ms (first s)) → (live live' : List ℕ) → live' ≡ b → outcome (record { number = 0; place = 0; orders = o }) live' ≡ begun coding (accepted q) live
      unfolding start_of
      begins o e b c live live' z =
          lives-as o live' (code q (start_of q)) (map (λ m. flag (runs_l m (start_of q).left)) q.modules)
          (e ∙ (ap (λ (l : Left). eight (map (λ m. flag (runs_l m l)) ms)) its_left ∙ ap (λ (xs : List ℕ). eight (map (λ m. flag (runs_l m (still q.term))) xs)) (sym d.its.modules_are)))
          (z ∙ (c ∙ ap (code q) its-state))
