-- The tree of a program, made in a table, gives a node that means what the tree means. By the shapes of `Means`: the parts are made first and keep their
-- meaning (`says-kept`), and the node that is made has their numbers in its columns. Assumes nothing.
--     Says P j v            node j of P means v
--     Stands P m n v        m is P with at most n nodes more, and its node means v; what is new means a part of v
--     grown-stands          so does a tree that means v, made in P
use Prim.Native.Nat.{ℕ, ◌+◌, ◌-◌, ◌≤◌, ◌<◌}
use mathlib.Core.List.{List}
use mathlib.Core.Path.{◌≡◌, refl, sym, ap, subst, ◌∙◌}
use native.Mathlib.Omega.{arith}
use native.Mathlib.Nat.{pos_of_ne-zero}
use Rattle.paper.specs.Term.{Term, Intr, Mod, One, Seq, Par, Star, Act, Event, Treat, Either, Both}
use Rattle.laws.specs.Placed.{Tree, size}
use Rattle.laws.specs.Nodes.{kind, left, right, letter, count, tree, intr, as_term, as_intr}
use Rattle.nodes.specs.Made.{Made, make, code_kind, node_by, node, grown}
use Rattle.nodes.proofs.Choice.{by-lt}
use Rattle.nodes.proofs.Trees.{tree_is, intr-is}
use Rattle.nodes.proofs.Table.{Row, Fits, Table, Grows, left_sort, right_sort, lettered, table-nodes, grows-refl, grows-trans}
use Rattle.nodes.proofs.Apart.{of-intrs, grows-tree, grows-intr}
use Rattle.nodes.proofs.Puts.{Puts, make-puts}
use Rattle.nodes.proofs.Codes.{module-kind, event-kind}
use Rattle.nodes.proofs.Means.{Meaning, a_term, an_intr, Means, is_mod, is_one, is_seq, is_par, is_star, is_act, is_event, is_treat, is_either, is_both, Under, of_seq₁, of_seq₂, of_par₁, of_par₂, under_star, of_act₁, of_act₂, of_treat₁, of_treat₂, of_either₁, of_either₂, of_both₁, of_both₂, PartOf, itself, inside}

abbrev pub Says : List ℕ → ℕ → Meaning → Type 0
Says P j (a_term x) = (kind P j ≤ 5) × (tree P j ≡ x)
Says P j (an_intr i) = (5 < kind P j) × (intr P j ≡ i)

pub says-kept : {P Q : List ℕ} → Table P → Table Q → Grows P Q → (j : ℕ) → j < count P → (v : Meaning) → Says P j v → Says Q j v
says-kept {P} {Q} t u g j h (a_term x) s = (rw (g.kinds j h) s.0, sym (grows-tree P Q t u g j h s.0) ∙ s.1)
says-kept {P} {Q} t u g j h (an_intr i) s = (rw (g.kinds j h) s.0, sym (grows-intr P Q t u g j h s.0) ∙ s.1)

-- node i of P means a part of v
abbrev pub SaysPart : List ℕ → ℕ → Meaning → Type 0
SaysPart P i v = (w : Meaning) × (PartOf w v × Says P i w)

pub record Stands (P : List ℕ) (m : Made) (n : ℕ) (v : Meaning) : Type 0 where
  pub table_of : Table m.table
  pub grows : Grows P m.table
  pub below : m.node < count m.table
  pub more : count m.table ≤ count P + n
  pub says : Says m.table m.node v
  pub parts : (i : ℕ) → count P ≤ i → i < count m.table → SaysPart m.table i v

-- what a node means whose columns are known
module _ {P : List ℕ} {k l r a : ℕ} {m : Made} (p : Puts P k l r a m) where
  put-term : k ≤ 5 → (x : Term) → as_term k a (tree m.table l) (tree m.table r) (intr m.table r) ≡ x → Says m.table m.node (a_term x)
  put-term h x e = (
    rw p.has.its_kind h,
    rw (p.has.its_kind, p.has.its_left, p.has.its_right, p.has.its_letter) at (tree_is m.table (table-nodes m.table p.table_of) m.node) ∙ e,
  )

  put-intr : 5 < k → (i : Intr) → as_intr k a (tree m.table r) (intr m.table l) (intr m.table r) ≡ i → Says m.table m.node (an_intr i)
  put-intr h i e = (
    rw p.has.its_kind h,
    rw (p.has.its_kind, p.has.its_left, p.has.its_right, p.has.its_letter) at (intr-is m.table (table-nodes m.table p.table_of) m.node) ∙ e,
  )

  -- the new node, if there is one, is the node meant
  put-part : (v : Meaning) → Says m.table m.node v → (i : ℕ) → count P ≤ i → i < count m.table → SaysPart m.table i v
  put-part v s i h u = (v, (itself, subst (λ (j : ℕ). Says m.table j v) (sym (p.only i h u)) s))

  put-stands : (v : Meaning) → Says m.table m.node v → Stands P m 1 v
  put-stands v s = record { table_of = p.table_of; grows = p.grows; below = p.below; more = p.more; says = s; parts = put-part v s }

-- a node that means a plain event is one, with its letter
event-letter : {P : List ℕ} (t : Table P) (j e : ℕ) → j < count P → Says P j (an_intr (Event e)) → (letter P j ≡ e) × (e < 26)
unfolding as_intr lettered
event-letter {P} t j e h s =
    let c = of-intrs (λ k. as_intr k (letter P j) (tree P (right P j)) (intr P (left P j)) (intr P (right P j)) ≡ Event e → (k ≡ 6) × (letter P j ≡ e))
    (λ q. (refl, cc))
    (λ q. let z : ◌≡◌ {A = ℕ} 0 1 = cc in absurd (omega arith))
    (λ q. let z : ◌≡◌ {A = ℕ} 0 1 = cc in absurd (omega arith))
    (λ q. let z : ◌≡◌ {A = ℕ} 0 1 = cc in absurd (omega arith))
    (kind P j) s.0 (t.rows j h).known (sym (intr-is P (table-nodes P t) j) ∙ s.1) in
    let o : 0 < j = pos_of_ne-zero (λ z. let y = ap (kind P) z ∙ t.zeroth in omega (arith, s.0)) in
    let f = rw c.0 at (t.letters j o h) in
    (c.1, rw c.1 at f)

-- a part of a part of w, kept
part-kept : {P Q : List ℕ} → Table P → Table Q → Grows P Q → (i : ℕ) → i < count P → {v w : Meaning} → Under v w → SaysPart P i v → SaysPart Q i w
part-kept t u g i h d x = (x.0, (inside d x.1.0, says-kept t u g i h x.0 x.1.1))

-- a part, then a node over it
module _ {P : List ℕ} {m : Made} {a : ℕ} {v : Meaning} (s : Stands P m a v) where
  -- the part still means what it meant
  above-says : {k l r c : ℕ} {f : Made} → Puts m.table k l r c f → Says f.table m.node v
  above-says p = says-kept s.table_of p.table_of p.grows m.node s.below v s.says

  above-stands : (k l r c : ℕ) (f : Made) (x : Meaning) → Under v x → Puts m.table k l r c f → Says f.table f.node x → Stands P f (a + 1) x
  above-stands k l r c f x d p y =
      record {
        table_of = p.table_of;
        grows = grows-trans s.grows p.grows;
        below = p.below;
        more = omega (arith, p.more, s.more);
        says = y;
        parts =
            λ i h u. by-lt i (count m.table) (λ b. part-kept s.table_of p.table_of p.grows i b d (s.parts i h b)) (λ b. put-part p x y i b u);
      }

-- two parts, one after the other, then a node over them
module _ {P : List ℕ} {m n : Made} {a b : ℕ} {v w : Meaning} (s : Stands P m a v) (u : Stands m.table n b w) where
  first_below : m.node < count n.table
  first_below = omega (arith, s.below, u.grows.more)

  first_says : Says n.table m.node v
  first_says = says-kept s.table_of u.table_of u.grows m.node s.below v s.says

  first_above : {k l r c : ℕ} {f : Made} → Puts n.table k l r c f → Says f.table m.node v
  first_above p = says-kept u.table_of p.table_of p.grows m.node first_below v first_says

  over-stands : (k l r c : ℕ) (f : Made) (x : Meaning) → Under v x → Under w x → Puts n.table k l r c f → Says f.table f.node x → Stands P f (a + b + 1) x
  over-stands k l r c f x d e p y =
      let g = grows-trans u.grows p.grows in
      record {
        table_of = p.table_of;
        grows = grows-trans s.grows g;
        below = p.below;
        more = omega (arith, p.more, u.more, s.more);
        says = y;
        parts =
            λ i h j.
            by-lt i (count m.table) (λ o. part-kept s.table_of p.table_of g i o d (s.parts i h o))
            (λ o. by-lt i (count n.table) (λ q. part-kept u.table_of p.table_of p.grows i q e (u.parts i o q)) (λ q. put-part p x y i q j));
      }

-- a join whose columns are the numbers of its parts
module _ {P : List ℕ} {m n : Made} {a b : ℕ} {v w : Meaning} (room : count P + a + b ≤ 190) (s : Stands P m a v) (u : Stands m.table n b w) where
  join_stands : (k : ℕ) (x : Meaning) → Under v x → Under w x → Row n.table (count n.table) k m.node n.node → Fits k 0 → (k ≡ 1 → ⊥)
      → ((f : Made) → Puts n.table k m.node n.node 0 f → Says f.table m.node v → Says f.table n.node w → Says f.table f.node x)
      → Stands P (make n.table k m.node n.node 0) (a + b + 1) x
  join_stands k x i j r c d g =
      let p = make-puts n.table k m.node n.node 0 u.table_of (omega (arith, s.more, u.more)) r c d in
      let f = make n.table k m.node n.node 0 in
      over-stands s u k m.node n.node 0 f x i j p (g f p (first_above s u p) (above-says u p))

-- a treatment has its event's letter, and on the right what is done
treat-stands : {P : List ℕ} {m n : Made} {a b e : ℕ} {x : Term} → count P + a + b ≤ 190 → Stands P m a (an_intr (Event e)) → Stands m.table n b (a_term x)
    → Stands P (make n.table 7 0 n.node (letter n.table m.node)) (a + b + 1) (an_intr (Treat e x))
unfolding left_sort right_sort lettered as_intr
treat-stands {P} {m} {n} {a} {b} {e} {x} room s u =
    let c = event-letter u.table_of m.node e (first_below s u) (first_says s u) in
    let p = make-puts n.table 7 0 n.node e u.table_of (omega (arith, s.more, u.more))
    (record { known = omega arith; left_fits = refl; right_fits = (u.below, u.says.0) }) c.1 (λ z. omega arith) in
    rw c.0
    (over-stands s u 7 0 n.node e (make n.table 7 0 n.node e) (an_intr (Treat e x)) of_treat₁ of_treat₂ p
    (put-intr p (omega arith) (Treat e x) (cc (above-says u p).1)))

module-stands : (P : List ℕ) → Table P → (m : ℕ) → m < 26 → count P ≤ 190 → Stands P (node P (97 + m) 0 0) 1 (a_term (Mod m))
unfolding node_by left_sort right_sort lettered as_term
module-stands P t m h room =
    let e : 97 + m - 97 ≡ m = omega arith in
    let p = make-puts P 0 0 0 m t room (record { known = omega arith; left_fits = refl; right_fits = refl }) h (λ z. omega arith) in
    rw (module-kind (97 + m) (omega arith) (omega arith), e) (put-stands p (a_term (Mod m)) (put-term p (omega arith) (Mod m) refl))

event-stands : (P : List ℕ) → Table P → (e : ℕ) → e < 26 → count P ≤ 190 → Stands P (node P (65 + e) 0 0) 1 (an_intr (Event e))
unfolding node_by left_sort right_sort lettered as_intr
event-stands P t e h room =
    let d : 65 + e - 65 ≡ e = omega arith in
    let p = make-puts P 6 0 0 e t room (record { known = omega arith; left_fits = refl; right_fits = refl }) h (λ z. omega arith) in
    rw (event-kind (65 + e) (omega arith) (omega arith), d) (put-stands p (an_intr (Event e)) (put-intr p (omega arith) (Event e) refl))

-- `1` is node 0
one-stands : (P : List ℕ) → Table P → Stands P (record { table = P; node = 0 }) 1 (a_term One)
unfolding as_term
one-stands P t =
    record {
      table_of = t;
      grows = grows-refl P;
      below = omega (arith, t.some);
      more = omega arith;
      says = (rw t.zeroth (omega arith), rw t.zeroth at (tree_is P (table-nodes P t) 0));
      parts = λ i h u. absurd (omega arith);
    }

pub grown-stands : {t : Tree} {v : Meaning} → Means t v → (P : List ℕ) → Table P → count P + size t ≤ 191 → Stands P (grown P t) (size t) v
unfolding size grown code_kind node_by left_sort right_sort lettered as_term as_intr
grown-stands (is_mod {p} {m} h) P tb room = module-stands P tb m h (omega arith)
grown-stands is_one P tb room = one-stands P tb
grown-stands (is_seq {p} {t} {u} {x} {y} f g) P tb room =
    let s = grown-stands f P tb (omega arith) in
    let r = grown-stands g (grown P t).table s.table_of (omega (arith, s.more)) in
    join_stands (omega arith) s r 2 (a_term (Seq x y)) of_seq₁ of_seq₂ (record { known = omega arith; left_fits = (first_below s r, (first_says s r).0); right_fits = (r.below, r.says.0) }) refl
    (λ z. omega arith) (λ m q i j. put-term q (omega arith) (Seq x y) (cc (i.1, j.1)))
grown-stands (is_par {p} {t} {u} {x} {y} f g) P tb room =
    let s = grown-stands f P tb (omega arith) in
    let r = grown-stands g (grown P t).table s.table_of (omega (arith, s.more)) in
    join_stands (omega arith) s r 3 (a_term (Par x y)) of_par₁ of_par₂ (record { known = omega arith; left_fits = (first_below s r, (first_says s r).0); right_fits = (r.below, r.says.0) }) refl
    (λ z. omega arith) (λ m q i j. put-term q (omega arith) (Par x y) (cc (i.1, j.1)))
grown-stands (is_star {p} {t} {x} f) P tb room =
    let s = grown-stands f P tb (omega arith) in
    let q = make-puts (grown P t).table 4 (grown P t).node 0 0 s.table_of (omega (arith, s.more))
    (record { known = omega arith; left_fits = (s.below, s.says.0); right_fits = refl }) refl (λ z. omega arith) in
    above-stands s 4 (grown P t).node 0 0 (make (grown P t).table 4 (grown P t).node 0 0) (a_term (Star x)) under_star q (put-term q (omega arith) (Star x) (cc (above-says s q).1))
grown-stands (is_act {p} {t} {u} {x} {i} f g) P tb room =
    let s = grown-stands f P tb (omega arith) in
    let r = grown-stands g (grown P t).table s.table_of (omega (arith, s.more)) in
    join_stands (omega arith) s r 5 (a_term (Act x i)) of_act₁ of_act₂ (record { known = omega arith; left_fits = (first_below s r, (first_says s r).0); right_fits = (r.below, r.says.0) }) refl
    (λ z. omega arith) (λ m q y j. put-term q (omega arith) (Act x i) (cc (y.1, j.1)))
grown-stands (is_event {p} {e} h) P tb room = event-stands P tb e h (omega arith)
grown-stands (is_treat {p} {e} {t} {u} {x} f g) P tb room =
    let s = grown-stands f P tb (omega arith) in
    let r = grown-stands g (grown P t).table s.table_of (omega (arith, s.more)) in
    treat-stands (omega arith) s r
grown-stands (is_either {p} {t} {u} {i} {j} f g) P tb room =
    let s = grown-stands f P tb (omega arith) in
    let r = grown-stands g (grown P t).table s.table_of (omega (arith, s.more)) in
    join_stands (omega arith) s r 8 (an_intr (Either i j)) of_either₁ of_either₂ (record { known = omega arith; left_fits = (first_below s r, (first_says s r).0); right_fits = (r.below, r.says.0) }) refl
    (λ z. omega arith) (λ m q y z. put-intr q (omega arith) (Either i j) (cc (y.1, z.1)))
grown-stands (is_both {p} {t} {u} {i} {j} f g) P tb room =
    let s = grown-stands f P tb (omega arith) in
    let r = grown-stands g (grown P t).table s.table_of (omega (arith, s.more)) in
    join_stands (omega arith) s r 9 (an_intr (Both i j)) of_both₁ of_both₂ (record { known = omega arith; left_fits = (first_below s r, (first_says s r).0); right_fits = (r.below, r.says.0) }) refl
    (λ z. omega arith) (λ m q y z. put-intr q (omega arith) (Both i j) (cc (y.1, z.1)))
