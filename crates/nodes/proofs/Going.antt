-- The loop of `make_nodes`: what holds before the place i. Whatever the whole postorder ends in, the rest of it ends in the same from here (`runs`), so the
-- first i places have been made as the tree is. Assumes nothing.
--     Going code left n P number z i        before place i the table is P, the nodes made so far are in `number`, the last of them is z
--     going_start, going_next, going_end    at the first place, one place on, behind the last
use Prim.Native.Nat.{ℕ, ◌+◌, ◌≤◌, ◌<◌}
use mathlib.Core.List.{List, [], ◌∷◌, ◌++◌}
use mathlib.Core.Path.{◌≡◌, refl, sym, ◌∙◌}
use native.Mathlib.Omega.{arith}
use native.Mathlib.Numerals.{add-one}
use lib.ListN.{length, get_or, set, take, replicate, length-set, get_or-replicate, get_or-eq_default}
use lib.Seq.{slice, get_or-set_same, get_or-set_other, get_or-take, take-suc-set, length-take-le}
use Rattle.paper.specs.Grammar.{Sequence}
use Rattle.laws.specs.Nodes.{count}
use Rattle.laws.specs.Placed.{placed_s}
use Rattle.nodes.specs.Made.{Made, node, start, made}
use Rattle.nodes.specs.Given.{Roomy, Leaves, Postorder, Given, Numbered}
use Rattle.nodes.proofs.Choice.{by-lt, by-eq}
use Rattle.nodes.proofs.Makes.{node_counts}
use Rattle.nodes.proofs.Means.{means-S}
use Rattle.nodes.proofs.Runs.{Runs, grown-runs, runs-next, runs-end}
use Rattle.nodes.proofs.Laws.{start-long, start-count}

pub record Going (code left : List ℕ) (n : ℕ) (P number : List ℕ) (z i : ℕ) : Type 0 where
  pub passed : i ≤ n
  pub long : length P ≡ 768
  pub some : 1 ≤ count P
  pub few : count P ≤ i + 1
  pub places : length number ≡ 192
  pub small : (j : ℕ) → get_or number j 0 < count P
  pub later : (j : ℕ) → i ≤ j → get_or number j 0 ≡ 0
  pub last_small : z < count P
  pub runs : (m : Made) → Runs (take n code) (take n left) start [] 0 m → Runs (slice i n code) (slice i n left) P (take i number) z m

-- the array of zeros
zeros : (j : ℕ) → get_or {A = ℕ} (replicate 192 0) j 0 ≡ 0
zeros j =
    by-lt j 192 (λ h. get_or-replicate 192 j 0 0 h) (λ h. get_or-eq_default (replicate 192 0) 0 {n = j} h)

pub going_start : (code left : List ℕ) (n : ℕ) (P : List ℕ) → P ≡ start → Going code left n P (replicate 192 0) 0 0
going_start code left n P e =
    rw e
    (record {
      passed = omega arith;
      long = start-long;
      some = omega (arith, start-count);
      few = omega (arith, start-count);
      places = refl;
      small = λ j. omega (arith, zeros j, start-count);
      later = λ j h. zeros j;
      last_small = omega (arith, start-count);
      runs = λ m r. r;
    })

-- a program's postorder ends in what its tree is made to
made-runs : {code left : List ℕ} {n : ℕ} (at : ℕ) (q : Sequence) → Postorder code left n at q → Runs (take n code) (take n left) start [] 0 (made (placed_s at q))
made-runs at q w = rw (w.its_codes, w.its_lefts) (grown-runs (means-S q at) start)

module _ {code left : List ℕ} {n room : ℕ} (v : Given code left n room) {P number : List ℕ} {z i : ℕ} (g : Going code left n P number z i) (h : i < n) where
  abbrev c : ℕ
  c = get_or code i 0

  abbrev l : ℕ
  l = get_or left i 0

  code_long : n ≤ length code
  code_long = omega (arith, v.code_long, v.few)

  left_long : n ≤ length left
  left_long = omega (arith, v.left_long, v.few)

  ns-long : length (take i number) ≡ i
  ns-long = length-take-le i number (omega (arith, g.places, v.few))

  -- the left part is among the nodes made
  pub going-left : l ≤ i
  going-left =
      omega (arith, ns-long, (runs-next code left n i h code_long left_long P (take i number) z (made (placed_s v.at v.program)) (g.runs (made (placed_s v.at v.program)) (made-runs v.at v.program v.written))).0)

  pub going-roomy : Roomy P
  going-roomy = record { long = g.long; some = g.some; room = omega (arith, g.few, v.few) }

  -- the node made at place i
  abbrev m : Made
  m = node P c (get_or number l 0) z

  -- a place not yet passed is 0, as is one beyond the nodes made
  same-node : get_or (take i number) l 0 ≡ get_or number l 0
  same-node =
      by-lt l i (λ u. get_or-take i number l 0 u)
      (λ u. get_or-eq_default (take i number) 0 {n = l} (omega (arith, ns-long)) ∙ sym (g.later l u))

  going_on : Going code left n m.table (set number i m.node) m.node (i + 1)
  going_on =
      let k = node_counts P going-roomy c (get_or number l 0) z in
      let at : i < length number = omega (arith, g.places, v.few) in
      record {
        passed = omega arith;
        long = k.long;
        some = omega (arith, k.more, g.some);
        few = omega (arith, k.most, g.few);
        places = simp length-set g.places;
        small =
            λ j.
            by-eq j i (λ e. rw (e, get_or-set_same number i m.node 0 at) k.below)
            (λ d. rw (get_or-set_other number i j m.node 0 d) (omega (arith, g.small j, k.more)));
        later = λ j u. get_or-set_other number i j m.node 0 (λ e. omega arith) ∙ g.later j (omega arith);
        last_small = k.below;
        runs =
            λ o r.
            let x = (runs-next code left n i h code_long left_long P (take i number) z o (g.runs o r)).1 in
            let y = rw same-node at x in
            let t : take (i + 1) (set number i m.node) ≡ take i number ++ (m.node ∷ []) = rw add-one (take-suc-set number i m.node at) in
            rw t y;
      }

  pub going_next : (Q : List ℕ) (r : ℕ) → Leaves Q r (node P c (get_or number l 0) z) → Going code left n Q (set number i r) r (i + 1)
  going_next Q r w = rw (w.table_is, w.node_is) going_on

pub going_end : {code left : List ℕ} {n : ℕ} {P number : List ℕ} {z i : ℕ} → Going code left n P number z i → n ≤ i → Numbered code left n P z
going_end {code} {left} {n} {P} {number} {z} {i} g h =
    record { table_is = λ at q w. (ends (made (placed_s at q)) (made-runs at q w)).0; root_is = λ at q w. (ends (made (placed_s at q)) (made-runs at q w)).1 }
  where
    ends : (m : Made) → Runs (take n code) (take n left) start [] 0 m → (P ≡ m.table) × (z ≡ m.node)
    ends m r = let e : i ≡ n = omega (arith, g.passed) in runs-end code left n P (take n number) z m (rw e at (g.runs m r))
