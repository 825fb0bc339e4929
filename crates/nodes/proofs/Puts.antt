-- What `make` does to a table: it stays one, has the nodes it had, and the node answered has the columns asked for.
-- Found, the node is there; else none has these columns (`find_none`), so the new node is unlike all others. Assumes nothing.
use Prim.Native.Nat.{ℕ, ◌+◌, ◌≤◌, ◌<◌}
use mathlib.Core.Bool.{Bool, true, false, cond}
use mathlib.Core.List.{List}
use mathlib.Core.Path.{◌≡◌, refl, sym, ap, ◌∙◌}
use native.Mathlib.Omega.{arith}
use lib.Dec.{ltb}
use borrow.Author.Tests.{ltb-true, ltb-false}
use Rattle.laws.specs.Nodes.{kind, left, right, letter, count}
use Rattle.nodes.specs.Made.{Made, find, append, make}
use Rattle.nodes.proofs.Choice.{by-lt}
use Rattle.nodes.proofs.Columns.{append-long, kind-old, left-old, right-old, letter-old, count-new, kind-new, left-new, right_new, letter-new}
use Rattle.nodes.proofs.Sought.{Has, find-has, find_none}
use Rattle.nodes.proofs.Table.{Row, Fits, Blank, Table, Grows, grows-refl, row-grows}

pub record Puts (P : List ℕ) (k l r a : ℕ) (m : Made) : Type 0 where
  pub table_of : Table m.table
  pub grows : Grows P m.table
  pub below : m.node < count m.table
  pub more : count m.table ≤ count P + 1
  pub has : Has m.table k l r a m.node
  pub only : (i : ℕ) → count P ≤ i → i < count m.table → i ≡ m.node

module _ (P : List ℕ) (k l r a : ℕ) (t : Table P) (room : count P ≤ 190) (w : Row P (count P) k l r) (f : Fits k a) (d : k ≡ 1 → ⊥) where
  abbrev Q : List ℕ
  Q = append P k l r a

  few : count P ≤ 191
  few = omega arith

  append-grows : Grows P Q
  append-grows =
      let c = count-new P k l r a t.long t.some few in
      record {
        more = omega arith;
        kinds = λ i h. kind-old P k l r a t.long t.some few i (omega arith) (λ e. omega arith);
        lefts = λ i h. left-old P k l r a t.long t.some few i (omega arith) (λ e. omega arith);
        rights = λ i h. right-old P k l r a t.long t.some few i (omega arith) (λ e. omega arith);
        letters = λ i o h. letter-old P k l r a t.long t.some few i o (omega arith) (λ e. omega arith);
      }

  append-has : Has Q k l r a (count P)
  append-has =
      record {
        its_kind = kind-new P k l r a t.long t.some few;
        its_left = left-new P k l r a t.long t.some few;
        its_right = right_new P k l r a t.long t.some few;
        its_letter = letter-new P k l r a t.long t.some few;
      }

  -- a node of Q is one of P, or the new one
  by-node : {A : Type 0} (i : ℕ) → i < count Q → (i < count P → A) → (i ≡ count P → A) → A
  by-node i h old new = let c = count-new P k l r a t.long t.some few in by-lt i (count P) old (λ u. new (omega arith))

  append-rows : (i : ℕ) → i < count Q → Row Q i (kind Q i) (left Q i) (right Q i)
  append-rows i h =
      by-node i h
      (λ u. rw (append-grows.kinds i u, append-grows.lefts i u, append-grows.rights i u) (row-grows append-grows (omega arith) (t.rows i u)))
      (λ u. rw (u, append-has.its_kind, append-has.its_left, append-has.its_right) (row-grows append-grows (omega arith) w))

  append-letters : (i : ℕ) → 0 < i → i < count Q → Fits (kind Q i) (letter Q i)
  append-letters i o h =
      by-node i h (λ u. rw (append-grows.kinds i u, append-grows.letters i o u) (t.letters i o u))
      (λ u. rw (u, append-has.its_kind, append-has.its_letter) f)

  append-ones : (i : ℕ) → i < count Q → kind Q i ≡ 1 → i ≡ 0
  append-ones i h e =
      by-node i h (λ u. t.ones i u (sym (append-grows.kinds i u) ∙ e))
      (λ u. absurd (d (sym append-has.its_kind ∙ (ap (kind Q) (sym u) ∙ e))))

  append-blank : (i : ℕ) → count Q ≤ i → i < 192 → Blank Q i
  append-blank i h v =
      let c = count-new P k l r a t.long t.some few in
      let b = t.blank i (omega arith) v in
      record {
        no_left = left-old P k l r a t.long t.some few i v (λ e. omega arith) ∙ b.no_left;
        no_right = right-old P k l r a t.long t.some few i v (λ e. omega arith) ∙ b.no_right;
        no_letter = letter-old P k l r a t.long t.some few i (omega arith) v (λ e. omega arith) ∙ b.no_letter;
      }

  -- a node of P that has the columns of node j of Q
  has-back : (i j : ℕ) → 0 < i → i < count P → Has Q (kind Q i) (left Q i) (right Q i) (letter Q i) j → Has Q (kind P i) (left P i) (right P i) (letter P i) j
  has-back i j o h s =
      record {
        its_kind = s.its_kind ∙ append-grows.kinds i h;
        its_left = s.its_left ∙ append-grows.lefts i h;
        its_right = s.its_right ∙ append-grows.rights i h;
        its_letter = s.its_letter ∙ append-grows.letters i o h;
      }

  has-old : (k' l' r' a' j : ℕ) → 0 < j → j < count P → Has Q k' l' r' a' j → Has P k' l' r' a' j
  has-old k' l' r' a' j o h s =
      record {
        its_kind = sym (append-grows.kinds j h) ∙ s.its_kind;
        its_left = sym (append-grows.lefts j h) ∙ s.its_left;
        its_right = sym (append-grows.rights j h) ∙ s.its_right;
        its_letter = sym (append-grows.letters j o h) ∙ s.its_letter;
      }

  -- none of P has the columns of the new node
  module _ (none : (j : ℕ) → j < count P → Has P k l r a j → ⊥) where
    append-distinct : (i j : ℕ) → 0 < i → i < count Q → 0 < j → j < count Q → Has Q (kind Q i) (left Q i) (right Q i) (letter Q i) j → i ≡ j
    append-distinct i j oi hi oj hj s =
        by-node i hi
        (λ u.
        by-node j hj (λ v. t.distinct i j oi u oj v (has-old (kind P i) (left P i) (right P i) (letter P i) j oj v (has-back i j oi u s)))
        (λ v. absurd (none i u (old-new i j oi u v s))))
        (λ u. by-node j hj (λ v. absurd (none j v (new-old i j oj u v s))) (λ v. u ∙ sym v))
      where
        new-old : (i j : ℕ) → 0 < j → i ≡ count P → j < count P → Has Q (kind Q i) (left Q i) (right Q i) (letter Q i) j → Has P k l r a j
        new-old i j o u v s =
            has-old k l r a j o v
            (record {
              its_kind = s.its_kind ∙ (ap (kind Q) u ∙ append-has.its_kind);
              its_left = s.its_left ∙ (ap (left Q) u ∙ append-has.its_left);
              its_right = s.its_right ∙ (ap (right Q) u ∙ append-has.its_right);
              its_letter = s.its_letter ∙ (ap (letter Q) u ∙ append-has.its_letter);
            })

        old-new : (i j : ℕ) → 0 < i → i < count P → j ≡ count P → Has Q (kind Q i) (left Q i) (right Q i) (letter Q i) j → Has P k l r a i
        old-new i j o u v s =
            has-old k l r a i o u
            (record {
              its_kind = sym s.its_kind ∙ (ap (kind Q) v ∙ append-has.its_kind);
              its_left = sym s.its_left ∙ (ap (left Q) v ∙ append-has.its_left);
              its_right = sym s.its_right ∙ (ap (right Q) v ∙ append-has.its_right);
              its_letter = sym s.its_letter ∙ (ap (letter Q) v ∙ append-has.its_letter);
            })

    append-table : Table Q
    append-table =
        let c = count-new P k l r a t.long t.some few in
        record {
          long = append-long P k l r a t.long t.some few;
          some = omega arith;
          few = omega arith;
          zeroth = append-grows.kinds 0 (omega (arith, t.some)) ∙ t.zeroth;
          rows = append-rows;
          letters = append-letters;
          ones = append-ones;
          blank = append-blank;
          distinct = append-distinct;
        }

  pub make-puts : Puts P k l r a (make P k l r a)
  unfolding make
  make-puts = go (ltb (find P k l r a) (count P)) refl
    where
      go : (b : Bool) → ltb (find P k l r a) (count P) ≡ b
          → Puts P k l r a (cond b (record { table = P; node = find P k l r a }) (record { table = append P k l r a; node = count P }))
      go true e =
          record {
            table_of = t;
            grows = grows-refl P;
            below = ltb-true (find P k l r a) (count P) e;
            more = omega arith;
            has = find-has P k l r a (ltb-true (find P k l r a) (count P) e);
            only = λ i h u. absurd (omega arith);
          }
      go false e =
          let c = count-new P k l r a t.long t.some few in
          record {
            table_of = append-table (find_none P k l r a (ltb-false (find P k l r a) (count P) e));
            grows = append-grows;
            below = omega arith;
            more = omega arith;
            has = append-has;
            only = λ i h u. omega arith;
          }
