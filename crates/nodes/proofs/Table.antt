-- What holds of a table as it is made, node by node, and that it is then a table of nodes (`Nodes`).
--     Sort, left_sort k, right_sort k, lettered k     what a node of the kind k has on either side, and whether it has a letter
--     Part P i s j          j is a part of that sort for the node i: a node below it of the right kind, or 0 where there is none
--     Row P i k l r, Fits k a     the parts l and r, and the letter a, are such as a node i of the kind k has
--     Table P               node 0 is `1`, each node is such, no two have the same columns, what lies behind them is 0
--     Grows P Q             Q has the nodes of P, and perhaps more behind them
-- The columns overlap beyond the 192nd node; a number of nodes and a letter are small enough to pass for a part there. Assumes nothing.
use Prim.Native.Nat.{ℕ, ◌+◌, ◌-◌, ◌≤◌, ◌<◌}
use mathlib.Core.Bool.{Bool, true, false, cond}
use mathlib.Core.List.{List}
use mathlib.Core.Path.{◌≡◌, refl, ◌∙◌}
use native.Mathlib.Omega.{arith}
use lib.Dec.{eqb}
use lib.ListN.{length, get_or, get_or-eq_default}
use Rattle.laws.specs.Nodes.{Nodes, kind, left, right, letter, count}
use Rattle.nodes.proofs.Choice.{by-lt, by-eq}
use Rattle.nodes.proofs.Sought.{Has}

pub data Sort : Type 0 where
  none term intr : Sort

unfoldable pub left_sort : ℕ → Sort
left_sort k = cond (eqb k 2) term (cond (eqb k 3) term (cond (eqb k 4) term (cond (eqb k 5) term (cond (eqb k 8) intr (cond (eqb k 9) intr none)))))

unfoldable pub right_sort : ℕ → Sort
right_sort k = cond (eqb k 2) term (cond (eqb k 3) term (cond (eqb k 7) term (cond (eqb k 5) intr (cond (eqb k 8) intr (cond (eqb k 9) intr none)))))

unfoldable pub lettered : ℕ → Bool
lettered k = cond (eqb k 0) true (cond (eqb k 6) true (eqb k 7))

abbrev pub Part : List ℕ → ℕ → Sort → ℕ → Type 0
Part P i none j = j ≡ 0
Part P i term j = (j < i) × (kind P j ≤ 5)
Part P i intr j = (j < i) × (5 < kind P j)

pub record Row (P : List ℕ) (i k l r : ℕ) : Type 0 where
  pub known : k ≤ 9
  pub left_fits : Part P i (left_sort k) l
  pub right_fits : Part P i (right_sort k) r

abbrev pub FitsBy : Bool → ℕ → Type 0
FitsBy true a = a < 26
FitsBy false a = a ≡ 0

abbrev pub Fits : ℕ → ℕ → Type 0
Fits k a = FitsBy (lettered k) a

-- nothing stands at node i
pub record Blank (P : List ℕ) (i : ℕ) : Type 0 where
  pub no_left : left P i ≡ 0
  pub no_right : right P i ≡ 0
  pub no_letter : letter P i ≡ 0

pub record Table (P : List ℕ) : Type 0 where
  pub long : length P ≡ 768
  pub some : 1 ≤ count P
  pub few : count P ≤ 191
  pub zeroth : kind P 0 ≡ 1
  pub rows : (i : ℕ) → i < count P → Row P i (kind P i) (left P i) (right P i)
  pub letters : (i : ℕ) → 0 < i → i < count P → Fits (kind P i) (letter P i)
  pub ones : (i : ℕ) → i < count P → kind P i ≡ 1 → i ≡ 0
  pub blank : (i : ℕ) → count P ≤ i → i < 192 → Blank P i
  pub distinct : (i j : ℕ) → 0 < i → i < count P → 0 < j → j < count P → Has P (kind P i) (left P i) (right P i) (letter P i) j → i ≡ j

pub record Grows (P Q : List ℕ) : Type 0 where
  pub more : count P ≤ count Q
  pub kinds : (i : ℕ) → i < count P → kind Q i ≡ kind P i
  pub lefts : (i : ℕ) → i < count P → left Q i ≡ left P i
  pub rights : (i : ℕ) → i < count P → right Q i ≡ right P i
  pub letters : (i : ℕ) → 0 < i → i < count P → letter Q i ≡ letter P i

pub grows-refl : (P : List ℕ) → Grows P P
grows-refl P = record { more = omega arith; kinds = λ i h. refl; lefts = λ i h. refl; rights = λ i h. refl; letters = λ i o h. refl }

pub grows-trans : {P Q R : List ℕ} → Grows P Q → Grows Q R → Grows P R
grows-trans {P} {Q} {R} g h =
    let m = g.more in
    record {
      more = omega (arith, h.more);
      kinds = λ i u. h.kinds i (omega arith) ∙ g.kinds i u;
      lefts = λ i u. h.lefts i (omega arith) ∙ g.lefts i u;
      rights = λ i u. h.rights i (omega arith) ∙ g.rights i u;
      letters = λ i o u. h.letters i o (omega arith) ∙ g.letters i o u;
    }

-- a part stays a part
pub part-grows : (P Q : List ℕ) (i : ℕ) (s : Sort) (j : ℕ) → Grows P Q → i ≤ count P → Part P i s j → Part Q i s j
part-grows P Q i none j g h p = p
part-grows P Q i term j g h p = (p.0, rw (g.kinds j (omega arith)) p.1)
part-grows P Q i intr j g h p = (p.0, rw (g.kinds j (omega arith)) p.1)

pub row-grows : {P Q : List ℕ} {i k l r : ℕ} → Grows P Q → i ≤ count P → Row P i k l r → Row Q i k l r
row-grows {P} {Q} {i} {k} {l} {r} g h w =
    record {
      known = w.known;
      left_fits = part-grows P Q i (left_sort k) l g h w.left_fits;
      right_fits = part-grows P Q i (right_sort k) r g h w.right_fits;
    }

-- a part is below its node, and 0 below node 0
pub part-below : (P : List ℕ) (i : ℕ) (s : Sort) (j : ℕ) → Part P i s j → j ≤ i - 1
part-below P i none j p = omega arith
part-below P i term j p = omega arith
part-below P i intr j p = omega arith

fits-small : (b : Bool) (a : ℕ) → FitsBy b a → a < 26
fits-small true a h = h
fits-small false a h = omega arith

module _ (P : List ℕ) (t : Table P) where
  -- within the 192 nodes
  left-low : (i : ℕ) → i < 192 → left P i ≤ i - 1
  left-low i h =
      by-lt i (count P) (λ u. part-below P i (left_sort (kind P i)) (left P i) (t.rows i u).left_fits)
      (λ u. omega (arith, (t.blank i u h).no_left))

  right-low : (i : ℕ) → i < 192 → right P i ≤ i - 1
  right-low i h =
      by-lt i (count P) (λ u. part-below P i (right_sort (kind P i)) (right P i) (t.rows i u).right_fits)
      (λ u. omega (arith, (t.blank i u h).no_right))

  letter-low : (i : ℕ) → i < 192 → letter P i ≤ 191
  letter-low i h =
      by-eq i 0 (λ z. rw z (omega (arith, t.few)))
      (λ z.
      by-lt i (count P) (λ u. omega (arith, fits-small (lettered (kind P i)) (letter P i) (t.letters i (omega arith) u)))
      (λ u. omega (arith, (t.blank i u h).no_letter)))

  -- behind the end
  beyond : (j : ℕ) → 768 ≤ j → get_or P j 0 ≡ 0
  beyond j h = get_or-eq_default P 0 {n = j} (omega (arith, t.long))

  lower : (i : ℕ) → left P i ≤ i - 1
  lower i =
      by-lt i 192 (left-low i)
      (λ h.
      by-lt i 384
      (λ u. let e : i - 192 + 384 ≡ i + 192 = omega arith in let r = rw e at (right-low (i - 192) (omega arith)) in omega (arith, r))
      (λ u.
      by-lt i 576
      (λ v. let e : i - 384 + 576 ≡ i + 192 = omega arith in let r = rw e at (letter-low (i - 384) (omega arith)) in omega (arith, r))
      (λ v. omega (arith, beyond (i + 192) (omega arith)))))

  righter : (i : ℕ) → right P i ≤ i - 1
  righter i =
      by-lt i 192 (right-low i)
      (λ h.
      by-lt i 384
      (λ u. let e : i - 192 + 576 ≡ i + 384 = omega arith in let r = rw e at (letter-low (i - 192) (omega arith)) in omega (arith, r))
      (λ u. omega (arith, beyond (i + 384) (omega arith))))

  all-letters : (i : ℕ) → letter P i < 256
  all-letters i = by-lt i 192 (λ h. omega (arith, letter-low i h)) (λ h. omega (arith, beyond (i + 576) (omega arith)))

  -- the parts of a node whose kind is known
  left-of : (i k : ℕ) → i < count P → kind P i ≡ k → Part P i (left_sort k) (left P i)
  left-of i k h e = rw e at (t.rows i h).left_fits

  right_of : (i k : ℕ) → i < count P → kind P i ≡ k → Part P i (right_sort k) (right P i)
  right_of i k h e = rw e at (t.rows i h).right_fits

  pub table-nodes : Nodes P
  unfolding left_sort right_sort
  table-nodes =
      record {
        long = t.long;
        some = t.some;
        few = omega (arith, t.few);
        zeroth = t.zeroth;
        lower = lower;
        righter = righter;
        letters = all-letters;
        of_seq = λ i h k. ((left-of i 2 h k).1, (right_of i 2 h k).1);
        of_par = λ i h k. ((left-of i 3 h k).1, (right_of i 3 h k).1);
        of_star = λ i h k. (left-of i 4 h k).1;
        of_act = λ i h k. ((left-of i 5 h k).1, (right_of i 5 h k).1);
        of_treat = λ i h k. (right_of i 7 h k).1;
        of_either = λ i h k. ((left-of i 8 h k).1, (right_of i 8 h k).1);
        of_both = λ i h k. ((left-of i 9 h k).1, (right_of i 9 h k).1);
      }
