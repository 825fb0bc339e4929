-- What hitting an interruption asks of its calls, and what it leaves, by the kind of its node; and `/`, struck or not.
-- A side of `||` that is not struck is `1/I`, which a rewriting leaves as it is. Assumes nothing.
use Prim.Native.Nat.{ℕ, ◌+◌, ◌≤◌, ◌<◌}
use mathlib.Core.Bool.{Bool, true, false}
use mathlib.Core.List.{List, [], ◌∷◌}
use mathlib.Core.Path.{◌≡◌, sym, ◌∙◌}
use native.Mathlib.Omega.{arith}
use Rattle.paper.specs.Term.{Term, Intr, Left, One, Act, Treat, Either, Both, still}
use Rattle.paper.specs.Rewriting.{Letter, strikes, par_l, act_l, hit, rewritten}
use Rattle.laws.specs.Nodes.{left, right, letter, tree, intr}
use Rattle.program.specs.declared.Node.{Node}
use Rattle.program.specs.declared.Node.TheVariants as node
use Rattle.laws.specs.Weight.{weight, weight_i, room}
use Rattle.words.specs.declared.Unit.TheVariants.{Wait}
use Rattle.words.specs.Word.{mark, apply, Fine, Holds}
use Rattle.words.specs.Pieces.{node_of, Says, Put, Asks, Drawn, Made}
use Rattle.words.proofs.Marks.{mark-number}
use Rattle.words.proofs.Trees.{intr-event}
use Rattle.words.proofs.Holding.{nothing, front}
use Rattle.words.proofs.Heads.{below_i, is-either, is-both, is-treat}
use Rattle.words.proofs.Joins.{made_up}
use Rattle.rewrite.specs.Steps.{room_i, Hits}

pub drawn-made : {P D D₁ : List ℕ} {e r : ℕ} (t : Term) → Drawn P D D₁ e r t → Made P D D₁ e r (room t) (still t)
drawn-made t d = record { held = d.held; fits = d.fits }

module _ {P : List ℕ} {i e n : ℕ} (f : Hits P i e n) where
  -- `E:T`
  pub asks-treat : {a t : ℕ} → Says P i (node.Treat a t) → Asks P t e n
  unfolding weight_i
  asks-treat {a} {t} c =
      let b = below_i i f.table.nodes (λ z. omega (arith, c.0)) in
      let s : room_i (Treat a (tree P t)) ≤ e = rw (is-treat i f.table.nodes c) at f.space in
      record { table = f.table; here = omega (arith, f.here, c.2, f.table.nodes.righter i); term = rw c.2 at (f.table.nodes.of_treat i f.here c.0); space = s; top = f.top }

  pub hit-treat : {a t : ℕ} {D D₁ : List ℕ} {r : ℕ} (x : Letter) → Says P i (node.Treat a t) → Drawn P D D₁ e r (tree P t) → Made P D D₁ e r (room_i (intr P i)) (hit x (intr P i))
  unfolding weight_i hit
  hit-treat {a} {t} x c h = rw (is-treat i f.table.nodes c) (drawn-made (tree P t) h)

  -- `|`
  pub hits-either : {l q : ℕ} → Says P i (node.Either l q) → Hits P l e n × Hits P q e n × (l < i) × (q < i)
  unfolding weight_i
  hits-either {l} {q} c =
      let b = below_i i f.table.nodes (λ z. omega (arith, c.0)) in
      let o = rw (c.1, c.2) at (f.table.nodes.of_either i f.here c.0) in
      let s : room_i (Either (intr P l) (intr P q)) ≤ e = rw (is-either i f.table.nodes c) at f.space in (
        record { table = f.table; here = omega (arith, f.here, c.1); event = o.0; space = omega arith; top = f.top },
        record { table = f.table; here = omega (arith, f.here, c.2); event = o.1; space = omega arith; top = f.top },
        omega (arith, c.1),
        omega (arith, c.2),
      )

  pub hit-either-l : {l q : ℕ} {D D₁ : List ℕ} {r : ℕ} {v : Bool} (x : Letter) → Says P i (node.Either l q) → v ≡ strikes x (intr P l) → v ≡ true → Made P D D₁ e r (room_i (intr P l)) (hit x (intr P l)) → Made P D D₁ e r (room_i (intr P i)) (hit x (intr P i))
  unfolding weight_i hit
  hit-either-l x c h t m = rw (is-either i f.table.nodes c, sym h ∙ t) (made_up (omega arith) m)

  pub hit-either-r : {l q : ℕ} {D D₁ : List ℕ} {r : ℕ} {v : Bool} (x : Letter) → Says P i (node.Either l q) → v ≡ strikes x (intr P l) → v ≡ false → Made P D D₁ e r (room_i (intr P q)) (hit x (intr P q)) → Made P D D₁ e r (room_i (intr P i)) (hit x (intr P i))
  unfolding weight_i hit
  hit-either-r x c h t m = rw (is-either i f.table.nodes c, sym h ∙ t) (made_up (omega arith) m)

  -- `||`
  pub hits-both : {l q : ℕ} → Says P i (node.Both l q) → Hits P q e n × (room_i (intr P q) + room_i (intr P l) + 1 ≤ e) × (l < i) × (q < i)
  unfolding weight_i
  hits-both {l} {q} c =
      let b = below_i i f.table.nodes (λ z. omega (arith, c.0)) in
      let o = rw (c.1, c.2) at (f.table.nodes.of_both i f.here c.0) in
      let s : room_i (Both (intr P l) (intr P q)) ≤ e = rw (is-both i f.table.nodes c) at f.space in (
        record { table = f.table; here = omega (arith, f.here, c.2); event = o.1; space = omega arith; top = f.top },
        omega arith,
        omega (arith, c.1),
        omega (arith, c.2),
      )

  pub hits-both-2 : {l q : ℕ} {D D₁ : List ℕ} {b n₂ : ℕ} {ρ : Left} → n₂ ≡ n → Says P i (node.Both l q) → Made P D D₁ e b (room_i (intr P q)) ρ → Hits P l b n₂ × (room_i (intr P l) + 1 ≤ b)
  hits-both-2 z c m =
      let o = rw (c.1, c.2) at (f.table.nodes.of_both i f.here c.0) in
      let s = hits-both c in
      (record { table = f.table; here = omega (arith, f.here, s.2); event = o.0; space = omega (arith, s.1, m.fits); top = omega (arith, f.top, m.held.long) }, omega (arith, s.1, m.fits))

  -- a side of `||` is `1/I` rewritten
  pub hit-both : {l q : ℕ} {D D₁ : List ℕ} {r : ℕ} (x : Letter) → Says P i (node.Both l q) → Made P D D₁ e r (room_i (intr P l) + room_i (intr P q) + 1) (par_l (rewritten x (Act One (intr P l))) (rewritten x (Act One (intr P q)))) → Made P D D₁ e r (room_i (intr P i)) (hit x (intr P i))
  unfolding weight_i hit rewritten
  hit-both x c m = rw (is-both i f.table.nodes c) (made_up (omega arith) m)

  pub hit-event : (D : List ℕ) (x : Letter) (r : Node) → r ≡ node_of P i → ((a t : ℕ) → r ≡ node.Treat a t → ⊥) → ((a b : ℕ) → r ≡ node.Either a b → ⊥) → ((a b : ℕ) → r ≡ node.Both a b → ⊥) → Made P D D e e (room_i (intr P i)) (hit x (intr P i))
  unfolding hit node_of
  hit-event D x r o n₇ n₈ n₉ =
      rw (intr-event P f.table.nodes i (λ z. n₇ (letter P i) (right P i) (o ∙ rw z)) (λ z. n₈ (left P i) (right P i) (o ∙ rw z)) (λ z. n₉ (left P i) (right P i) (o ∙ rw z)))
      record { held = nothing P D e; fits = omega arith }

module _ {P : List ℕ} {i e n : ℕ} (f : Hits P i e n) where
  pub side-hit : {D D₁ : List ℕ} {r : ℕ} {v : Bool} (x : Letter) → v ≡ strikes x (intr P i) → v ≡ true → Made P D D₁ e r (room_i (intr P i)) (hit x (intr P i)) → Made P D D₁ e r (room_i (intr P i)) (rewritten x (Act One (intr P i)))
  unfolding rewritten
  side-hit x h t m = rw (sym h ∙ t) m

  wait-held : (D D₁ : List ℕ) (r : ℕ) → Put D D₁ e r (576 + i) → Holds P D D₁ r e (Act One (intr P i) ∷ [])
  unfolding apply Fine
  wait-held D D₁ r g =
      let m = mark-number (Wait i) (omega (arith, f.here, f.table.nodes.few)) in
      let fine : Fine P (mark (576 + i)) [] = rw m (f.here, f.event) in
      rw m at (front (576 + i) (nothing P D e) g.0 g.1 fine)

  pub side-wait : {v : Bool} (x : Letter) (D D₁ : List ℕ) (r : ℕ) → v ≡ strikes x (intr P i) → v ≡ false → Put D D₁ e r (576 + i) → Made P D D₁ e r (room_i (intr P i)) (rewritten x (Act One (intr P i)))
  unfolding rewritten
  side-wait x D D₁ r h t g = rw (sym h ∙ t) record { held = wait-held D D₁ r g; fits = omega (arith, g.0) }

-- a `/` that is struck, and one that is not
pub act-hit : {P D D₁ : List ℕ} {e r : ℕ} {v : Bool} (t : Term) (i : Intr) (x : Letter) → v ≡ strikes x i → v ≡ true → Made P D D₁ e r (room_i i) (hit x i) → Made P D D₁ e r (room (Act t i)) (rewritten x (Act t i))
unfolding rewritten weight
act-hit t i x h q m = rw (sym h ∙ q) (made_up (omega arith) m)

pub act-pass : {v : Bool} (t : Term) (i : Intr) (x : Letter) → v ≡ strikes x i → v ≡ false → rewritten x (Act t i) ≡ act_l (rewritten x t) i
unfolding rewritten
act-pass t i x h q = rw (sym h ∙ q)
