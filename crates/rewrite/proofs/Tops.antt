-- The term at a place, by the unit there, and what a rewriting asks of its calls: the weight of a join has room for its unit and its parts.
-- Assumes nothing.
use Prim.Native.Nat.{ℕ, ◌+◌, ◌-◌, ◌≤◌, ◌<◌}
use mathlib.Core.List.{List, []}
use mathlib.Core.Path.{◌≡◌, ap, sym, ◌∙◌}
use native.Mathlib.Omega.{arith}
use lib.ListN.{get_or}
use Rattle.paper.specs.Term.{Term, Left, Mod, One, Seq, Par, Star, Act}
use Rattle.laws.specs.Nodes.{Nodes, kind, left, count, tree, intr}
use Rattle.laws.specs.Weight.{weight, room}
use Rattle.words.specs.Word.{hd, u_seq, u_star, u_act, u_wait, u_one, u_par, u_mod, mark, arity, apply, Fine}
use Rattle.words.specs.Pieces.{Drawn, Asks, top, Past, Made}
use Rattle.words.proofs.Marks.{mark-star}
use Rattle.words.proofs.Trees.{tree-star}
use Rattle.words.proofs.Drawing.{weighs}
use Rattle.words.proofs.Reading.{src-terms, src-fine, src-unary, src-binary, src-mid, leaf, leaf-top}
use Rattle.rewrite.specs.Steps.{Works, Hits}

module _ {P S : List ℕ} {s e n : ℕ} (f : Works P S s e n) where
  abbrev unit : ℕ
  unit = get_or S s 0

  -- ## sequence
  pub top-seq : {y : ℕ} → u_seq y ≡ mark unit → top P S s ≡ Seq (top P S (s + 1)) (tree P y)
  unfolding apply
  top-seq m = rw (src-terms P S s f.src, ← m)

  pub fine-seq : {y : ℕ} → u_seq y ≡ mark unit → (y < count P) × (kind P y ≤ 5)
  unfolding Fine
  fine-seq m = (rw (sym m) at (src-fine P S s f.src)).1

  pub works-seq : {y : ℕ} → u_seq y ≡ mark unit → Works P S (s + 1) e n × (room (top P S (s + 1)) + 1 ≤ e)
  unfolding weight
  works-seq {y} m =
      let g : room (Seq (top P S (s + 1)) (tree P y)) ≤ e = rw (top-seq m) at f.space in
      (record { table = f.table; src = src-unary f.src (ap arity (sym m)); space = omega arith; top = f.top }, omega arith)

  pub asks-second : {y n₂ : ℕ} → n₂ ≡ n → u_seq y ≡ mark unit → Asks P y e n₂
  unfolding weight
  asks-second {y} q m =
      let g : room (Seq (top P S (s + 1)) (tree P y)) ≤ e = rw (top-seq m) at f.space in
      let u = fine-seq m in
      record { table = f.table; here = u.0; term = u.1; space = omega arith; top = omega (arith, f.top) }

  -- ## star
  pub top-star : {j : ℕ} → u_star j ≡ mark unit → top P S s ≡ Star (top P S (s + 1))
  unfolding apply
  top-star m = rw (src-terms P S s f.src, ← m)

  pub fine-star : {j : ℕ} → u_star j ≡ mark unit → (j < count P) × ((kind P j ≡ 4) × (top P S (s + 1) ≡ tree P (left P j)))
  unfolding Fine
  fine-star m = (rw (sym m) at (src-fine P S s f.src)).1

  pub works-star : {j : ℕ} → u_star j ≡ mark unit → Works P S (s + 1) e n × (room (top P S (s + 1)) + 1 ≤ e)
  unfolding weight
  works-star m =
      let g : room (Star (top P S (s + 1))) ≤ e = rw (top-star m) at f.space in
      (record { table = f.table; src = src-unary f.src (ap arity (sym m)); space = omega arith; top = f.top }, omega arith)

  pub tree_again : 192 ≤ unit → unit < 384 → tree P (unit - 192) ≡ Star (top P S (s + 1))
  tree_again l h =
      let u = fine-star (sym (mark-star unit l h)) in tree-star P f.table.nodes (unit - 192) u.1.0 ∙ ap Star (sym u.1.1)

  pub asks-again : {j n₂ : ℕ} → n₂ ≡ n → u_star j ≡ mark unit → Asks P j e n₂
  asks-again {j} q m =
      let u = fine-star m in
      let again : tree P j ≡ Star (top P S (s + 1)) = tree-star P f.table.nodes j u.1.0 ∙ ap Star (sym u.1.1) in
      record { table = f.table; here = u.0; term = omega (arith, u.1.0); space = rw again (rw (top-star m) at f.space); top = omega (arith, f.top) }

  -- ## `/`
  pub top-act : {i : ℕ} → u_act i ≡ mark unit → top P S s ≡ Act (top P S (s + 1)) (intr P i)
  unfolding apply
  top-act m = rw (src-terms P S s f.src, ← m)

  pub fine-act : {i : ℕ} → u_act i ≡ mark unit → (i < count P) × ((5 < kind P i) × (top P S (s + 1) ≡ One → ⊥))
  unfolding Fine
  fine-act m = (rw (sym m) at (src-fine P S s f.src)).1

  pub works-act : {i : ℕ} → u_act i ≡ mark unit → Works P S (s + 1) e n × (room (top P S (s + 1)) + 1 ≤ e)
  unfolding weight
  works-act {i} m =
      let g : room (Act (top P S (s + 1)) (intr P i)) ≤ e = rw (top-act m) at f.space in
      let v = weighs (top P S (s + 1)) (fine-act m).1.1 in
      (record { table = f.table; src = src-unary f.src (ap arity (sym m)); space = omega arith; top = f.top }, omega arith)

  pub hits-act : {i : ℕ} → u_act i ≡ mark unit → Hits P i e n
  unfolding weight
  hits-act {i} m =
      let g : room (Act (top P S (s + 1)) (intr P i)) ≤ e = rw (top-act m) at f.space in
      let u = fine-act m in
      record { table = f.table; here = u.0; event = u.1.0; space = omega arith; top = f.top }

  -- ## `||`
  pub top-par : {z : ℕ} → u_par ≡ mark unit → Past P S (s + 1) z → top P S s ≡ Par (top P S (s + 1)) (top P S z)
  unfolding apply
  top-par m p = rw (src-terms P S s f.src, ← m, p.next)

  pub works-par : {z : ℕ} → u_par ≡ mark unit → Past P S (s + 1) z → Works P S z e n × (room (top P S z) + room (top P S (s + 1)) + 1 ≤ e)
  unfolding weight
  works-par {z} m p =
      let g : room (Par (top P S (s + 1)) (top P S z)) ≤ e = rw (top-par m p) at f.space in
      (record { table = f.table; src = src-mid f.src (ap arity (sym m)) p; space = omega arith; top = f.top }, omega arith)

  pub works-par-2 : {z b n₂ : ℕ} {D D₁ : List ℕ} {ρ : Left} → n₂ ≡ n → u_par ≡ mark unit → Past P S (s + 1) z → Made P D D₁ e b (room (top P S z)) ρ → Works P S (s + 1) b n₂ × (room (top P S (s + 1)) + 1 ≤ b)
  works-par-2 {z} {b} q m p k =
      let g = (works-par m p).1 in
      (record { table = f.table; src = src-binary f.src (ap arity (sym m)); space = omega (arith, k.fits); top = omega (arith, f.top, k.held.long) }, omega (arith, k.fits))

  -- ## a unit without parts
  pub room-leaf : 576 ≤ unit → (unit ≡ 769 → ⊥) → room (hd (apply P (mark unit) [])) ≤ e
  room-leaf h k = rw (leaf-top f.src (leaf unit h k)) at f.space

  pub top-wait : {i : ℕ} → u_wait i ≡ mark unit → top P S s ≡ Act One (intr P i)
  unfolding apply
  top-wait m = rw (src-terms P S s f.src, ← m)

  pub hits-wait : {i : ℕ} → u_wait i ≡ mark unit → Hits P i e n
  unfolding weight Fine
  hits-wait {i} m =
      let g : room (Act One (intr P i)) ≤ e = rw (top-wait m) at f.space in
      let u = rw (sym m) at (src-fine P S s f.src) in
      record { table = f.table; here = u.0; event = u.1; space = omega arith; top = f.top }

  pub top-one : u_one ≡ mark unit → top P S s ≡ One
  unfolding apply
  top-one m = rw (src-terms P S s f.src, ← m)

  pub top-mod : {a : ℕ} → u_mod a ≡ mark unit → top P S s ≡ Mod a
  unfolding apply
  top-mod m = rw (src-terms P S s f.src, ← m)

  pub small-mod : {a : ℕ} → u_mod a ≡ mark unit → a < 26
  unfolding Fine
  small-mod m = rw (sym m) at (src-fine P S s f.src)

-- the starred node, drawn again
pub star-drawn : {P D D₁ : List ℕ} {e r : ℕ} {x : Term} (j : ℕ) → Nodes P → kind P j ≡ 4 → x ≡ tree P (left P j) → Drawn P D D₁ e r (tree P j) → Drawn P D D₁ e r (Star x)
star-drawn {P} {x = x} j ns k q d = let t : tree P j ≡ Star x = tree-star P ns j k ∙ ap Star (sym q) in rw t at d
