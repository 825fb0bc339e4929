-- What `make` answers, by whether a node was found; and how far a table grows by one node, whatever its columns.
--     Counts P m            m is as long a table, with the nodes of P and at most one more, and its node is one of them
-- Assumes nothing.
use Prim.Native.Nat.{ℕ, ◌+◌, ◌-◌, ◌≤◌, ◌<◌}
use mathlib.Core.Bool.{Bool, true, false, cond}
use mathlib.Core.List.{List}
use mathlib.Core.Path.{◌≡◌, refl}
use native.Mathlib.Omega.{arith}
use lib.Dec.{ltb, eqb}
use lib.ListN.{length}
use borrow.Author.Tests.{ltb-true, lt-ltb, le-ltb}
use Rattle.laws.specs.Nodes.{count, letter}
use Rattle.nodes.specs.Made.{Made, find, append, make, code_kind, node_by, node}
use Rattle.nodes.specs.Given.{Roomy, Leaves}
use Rattle.nodes.proofs.Columns.{append-long, count-new}

-- the node s that was found
pub leaves-found : (P : List ℕ) (k l r a : ℕ) {s : ℕ} → s ≡ find P k l r a → s < count P → Leaves P s (make P k l r a)
unfolding make
leaves-found P k l r a {s} e h = rw (lt-ltb (find P k l r a) (count P) (omega arith)) (record { table_is = refl; node_is = e })

-- or the one that was added
pub leaves-added : (P : List ℕ) (k l r a : ℕ) {s : ℕ} → s ≡ find P k l r a → count P ≤ s → Leaves (append P k l r a) (count P) (make P k l r a)
unfolding make
leaves-added P k l r a {s} e h = rw (le-ltb (find P k l r a) (count P) (omega arith)) (record { table_is = refl; node_is = refl })

pub record Counts (P : List ℕ) (m : Made) : Type 0 where
  pub long : length m.table ≡ 768
  pub more : count P ≤ count m.table
  pub most : count m.table ≤ count P + 1
  pub below : m.node < count m.table

module _ (P : List ℕ) (t : Roomy P) where
  make-counts : (k l r a : ℕ) → Counts P (make P k l r a)
  unfolding make
  make-counts k l r a = go (ltb (find P k l r a) (count P)) refl
    where
      go : (b : Bool) → ltb (find P k l r a) (count P) ≡ b
          → Counts P (cond b (record { table = P; node = find P k l r a }) (record { table = append P k l r a; node = count P }))
      go true e = record { long = t.long; more = omega arith; most = omega arith; below = ltb-true (find P k l r a) (count P) e }
      go false e =
          let few : count P ≤ 191 = omega (arith, t.room) in
          let c = count-new P k l r a t.long t.some few in
          record { long = append-long P k l r a t.long t.some few; more = omega arith; most = omega arith; below = omega arith }

  cond-counts : (b : Bool) (m n : Made) → Counts P m → Counts P n → Counts P (cond b m n)
  cond-counts true m n x y = x
  cond-counts false m n x y = y

  pub node_counts : (c l r : ℕ) → Counts P (node P c l r)
  unfolding node_by
  node_counts c l r =
      let k = code_kind c in
      cond-counts (eqb k 1) _ _ (record { long = t.long; more = omega arith; most = omega arith; below = omega (arith, t.some) })
      (cond-counts (eqb k 0) _ _ (make-counts 0 0 0 (c - 97))
      (cond-counts (eqb k 6) _ _ (make-counts 6 0 0 (c - 65))
      (cond-counts (eqb k 4) _ _ (make-counts 4 r 0 0)
      (cond-counts (eqb k 7) _ _ (make-counts 7 0 r (letter P l)) (make-counts k l r 0)))))
