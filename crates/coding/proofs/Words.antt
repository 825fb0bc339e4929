-- The word of a term and the term of a word (`words`, `Word`: Right, terms). Over a table of nodes the word of a term is right and says the term alone
-- (`over-says`), and a right word that says one term is that term's word (`word_over`, `right-word`): a right word is determined by what it says.
-- It has at most as many units as the term has room (`word-long`), each below 796 (`right-small`). Assumes nothing.
use Prim.Native.Nat.{ℕ, zero, suc, ◌+◌, ◌-◌, ◌≤◌, ◌<◌}
use mathlib.Core.Bool.{Bool, true, false, ◌||◌}
use mathlib.Core.List.{List, [], ◌∷◌, ◌++◌}
use mathlib.Core.Path.{◌≡◌, refl, sym, ap, ◌∙◌}
use native.Mathlib.Omega.{arith}
use lib.Dec.{T, ltb}
use lib.ListN.{length, get_or, length-append}
use borrow.Author.Tests.{lt-ltb, le-ltb}
use Rattle.paper.specs.Lists.{has, below}
use Rattle.paper.specs.Term.{Term, Intr, Mod, One, Seq, Par, Star, Act, eq_t}
use Rattle.paper.proofs.Equal.{and_left, and_right, and_both, eq_t-sound, eq_t-complete}
use Rattle.laws.specs.Nodes.{Nodes, Apart, kind, left, right, letter, tree, intr, as_term}
use Rattle.laws.specs.Weight.{weight, room}
use Rattle.laws.proofs.Letters.{false-not}
use Rattle.nodes.proofs.Apart.{of-terms}
use Rattle.words.specs.Word.{Mark, u_seq, u_star, u_act, u_wait, u_one, u_par, u_mod, mark, hd, tl, apply, terms, Fine, Right}
use Rattle.words.proofs.Marks.{by-lt, clash, mark-seq, mark-star, mark-act, mark-wait, mark-one, mark-par, mark-mod, unmark, unmark-mark}
use Rattle.words.proofs.Trees.{tree_is, tree-star}
use Rattle.words.proofs.Holding.{terms-app, right-app}
use Rattle.words.proofs.Determined.{tl-long, inj}
use Rattle.words.proofs.Drawing.{weighs}
use Rattle.coding.specs.Units.{node_of, intr_of, acting, word_of, IsTerm, IsIntr, Over, owns}
use Rattle.coding.proofs.Letters.{has-below, below-has}
use Rattle.coding.proofs.Found.{holds, node-found, node_is, intr-found, intr-is}

-- the word us is right, and says t alone
pub record Says (P us : List ℕ) (t : Term) : Type 0 where
  pub ok : Right P us
  pub term : terms P us ≡ t ∷ []

-- a unit in front of what it takes
unit-says : {P us : List ℕ} {ts : List Term} {t : Term} (u : ℕ) (m : Mark) → mark u ≡ m → Right P us → terms P us ≡ ts → Fine P m ts → apply P m ts ≡ t ∷ [] → Says P (u ∷ us) t
unfolding Right terms
unit-says u m e r s f a = record { ok = (r, rw (e, s) f); term = rw (e, s) a }

-- a starred node has its part on the left
star-node : (P : List ℕ) → Nodes P → (j : ℕ) (x : Term) → kind P j ≤ 5 → tree P j ≡ Star x → (kind P j ≡ 4) × (tree P (left P j) ≡ x)
unfolding as_term
star-node P ns j x k e =
    of-terms (λ n. as_term n (letter P j) (tree P (left P j)) (tree P (right P j)) (intr P (right P j)) ≡ Star x → (n ≡ 4) × (tree P (left P j) ≡ x))
    (λ q. clash cc) (λ q. clash cc) (λ q. clash cc) (λ q. clash cc) (λ q. (refl, cc)) (λ q. clash cc) (kind P j) k (sym (tree_is P ns j) ∙ e)

module _ (P ms : List ℕ) (ns : Nodes P) (small : (m : ℕ) → T (has m ms) → m < 26) where
  seq-says : {x y : Term} {us : List ℕ} → Says P us x → IsTerm P y → Says P (node_of P y ∷ us) (Seq x y)
  unfolding Fine apply
  seq-says {x} {y} {us} s n =
      let h = node-found P n in
      let k = node_is P y h in
      unit-says (node_of P y) (u_seq (node_of P y)) (mark-seq (node_of P y) (omega (arith, ns.few))) s.ok s.term (omega arith, (h, k.0)) (rw k.1)

  star-says : {x : Term} {us : List ℕ} → Says P us x → IsTerm P (Star x) → Says P ((192 + node_of P (Star x)) ∷ us) (Star x)
  unfolding Fine apply
  star-says {x} {us} s n =
      let j = node_of P (Star x) in
      let h = node-found P n in
      let k = node_is P (Star x) h in
      let w = star-node P ns j x k.0 k.1 in
      let z : 192 + j - 192 ≡ j = omega arith in
      unit-says (192 + j) (u_star j) (mark-star (192 + j) (omega arith) (omega (arith, ns.few)) ∙ ap u_star z) s.ok s.term (omega arith, (h, (w.0, sym w.1))) refl

  act-says : {x : Term} {us : List ℕ} (i : Intr) → (x ≡ One → ⊥) → Says P us x → IsIntr P i → Says P ((384 + intr_of P i) ∷ us) (Act x i)
  unfolding Fine apply
  act-says {x} {us} i d s n =
      let j = intr_of P i in
      let h = intr-found P n in
      let k = intr-is P i h in
      let z : 384 + j - 384 ≡ j = omega arith in
      unit-says (384 + j) (u_act j) (mark-act (384 + j) (omega arith) (omega (arith, ns.few)) ∙ ap u_act z) s.ok s.term (omega arith, (h, (k.0, d))) (rw k.1)

  wait-says : (i : Intr) → IsIntr P i → Says P ((576 + intr_of P i) ∷ []) (Act One i)
  unfolding Fine apply Right terms
  wait-says i n =
      let j = intr_of P i in
      let h = intr-found P n in
      let k = intr-is P i h in
      let z : 576 + j - 576 ≡ j = omega arith in
      unit-says (576 + j) (u_wait j) (mark-wait (576 + j) (omega arith) (omega (arith, ns.few)) ∙ ap u_wait z) tt refl (h, k.0) (rw k.1)

  par-says : {x y : Term} (us vs : List ℕ) → Says P us x → Says P vs y → Says P (769 ∷ (us ++ vs)) (Par x y)
  unfolding Fine apply
  par-says us vs s u =
      unit-says 769 u_par mark-par (right-app P us vs s.ok u.ok) (rw (s.term, u.term) at (terms-app P us vs s.ok)) (omega arith) refl

  mod-says : (m : ℕ) → m < 26 → Says P ((770 + m) ∷ []) (Mod m)
  unfolding Fine apply Right terms
  mod-says m h =
      let z : 770 + m - 770 ≡ m = omega arith in
      unit-says (770 + m) (u_mod m) (mark-mod (770 + m) (omega arith) ∙ ap u_mod z) tt refl h refl

  one-says : Says P (768 ∷ []) One
  unfolding Fine apply Right terms
  one-says = unit-says 768 u_one mark-one tt refl tt refl

  acting-says : {x : Term} {us : List ℕ} (i : Intr) (b : Bool) → eq_t x One ≡ b → Says P us x → IsIntr P i → Says P (acting b (intr_of P i) us) (Act x i)
  acting-says {x} i true e s n = rw (eq_t-sound x One (holds (eq_t x One) e)) (wait-says i n)
  acting-says {x} i false e s n = act-says i (λ q. false-not (eq_t x One) e (eq_t-complete x One q)) s n

  pub over-says : (t : Term) → Over P ms t → Says P (word_of P t) t
  unfolding Over word_of
  over-says (Mod m) o = mod-says m (small m o)
  over-says One o = one-says
  over-says (Seq x y) o = seq-says (over-says x o.0) o.1
  over-says (Par x y) o = par-says (word_of P x) (word_of P y) (over-says x o.0) (over-says y o.1)
  over-says (Star x) o = star-says (over-says x o.0) o.1
  over-says (Act x i) o = acting-says i (eq_t x One) refl (over-says x o.0) o.1

-- ---- its units

pub word-long : (P : List ℕ) (t : Term) → length (word_of P t) ≤ room t
unfolding word_of weight
word-long P (Mod m) = omega arith
word-long P One = omega arith
word-long P (Seq x y) = omega (arith, word-long P x)
word-long P (Par x y) = omega (arith, word-long P x, word-long P y, length-append (word_of P x) (word_of P y))
word-long P (Star x) = omega (arith, word-long P x)
word-long P (Act x i) = go (eq_t x One) refl (word-long P x)
  where
    go : (b : Bool) → eq_t x One ≡ b → length (word_of P x) ≤ room x → length (acting b (intr_of P i) (word_of P x)) ≤ room (Act x i)
    go true e h = omega arith
    go false e h = omega (arith, weighs x (λ q. false-not (eq_t x One) e (eq_t-complete x One q)))

fine-small : (P : List ℕ) (u : ℕ) (ts : List Term) → Fine P (mark u) ts → u < 796
unfolding Fine
fine-small P u ts f = by-lt u 770 (λ h. omega arith) (λ h. let r : Fine P (u_mod (u - 770)) ts = rw (mark-mod u h) at f in omega arith)

pub right-small : (P us : List ℕ) → Right P us → (i : ℕ) → get_or us i 0 < 796
unfolding Right
right-small P [] r i = omega arith
right-small P (u ∷ us) r zero = fine-small P u (terms P us) r.1
right-small P (u ∷ us) r (suc i) = right-small P us r.0 i

-- ---- whose modules they are

owns-app : (ms us vs : List ℕ) → T (owns ms us) → T (owns ms vs) → T (owns ms (us ++ vs))
unfolding owns
owns-app ms [] vs a b = b
owns-app ms (u ∷ us) vs a b =
    let t = ltb u 770 || has (u - 770) ms in and_both t _ (and_left t (owns ms us) a) (owns-app ms us vs (and_right t (owns ms us) a) b)

-- a unit that is no module's
owns-other : (ms : List ℕ) (u : ℕ) (us : List ℕ) → u < 770 → T (owns ms us) → T (owns ms (u ∷ us))
unfolding owns
owns-other ms u us h o = rw (lt-ltb u 770 h) o

owns-acting : (ms : List ℕ) (b : Bool) (j : ℕ) (us : List ℕ) → j < 192 → T (owns ms us) → T (owns ms (acting b j us))
unfolding owns
owns-acting ms true j us h o = owns-other ms (576 + j) [] (omega arith) tt
owns-acting ms false j us h o = owns-other ms (384 + j) us (omega arith) o

module _ (P ms : List ℕ) (ns : Nodes P) where
  pub over-owns : (t : Term) → Over P ms t → T (owns ms (word_of P t))
  unfolding Over word_of owns
  over-owns (Mod m) o =
      let z : 770 + m - 770 ≡ m = omega arith in
      rw (le-ltb (770 + m) 770 (omega arith), z) (and_both (has m ms) true o tt)
  over-owns One o = tt
  over-owns (Seq x y) o = owns-other ms (node_of P y) (word_of P x) (omega (arith, ns.few, node-found P o.1)) (over-owns x o.0)
  over-owns (Par x y) o = owns-app ms (word_of P x) (word_of P y) (over-owns x o.0) (over-owns y o.1)
  over-owns (Star x) o =
      owns-other ms (192 + node_of P (Star x)) (word_of P x) (omega (arith, ns.few, node-found P o.1)) (over-owns x o.0)
  over-owns (Act x i) o =
      owns-acting ms (eq_t x One) (intr_of P i) (word_of P x) (omega (arith, ns.few, intr-found P o.1)) (over-owns x o.0)

  -- each of the terms is over the nodes and the modules
  unfoldable Overs : List Term → Type 0
  Overs [] = Unit {0}
  Overs (t ∷ ts) = Over P ms t × Overs ts

  overs-hd : (ts : List Term) → 1 ≤ length ts → Overs ts → Over P ms (hd ts)
  unfolding Overs
  overs-hd [] h o = absurd (omega arith)
  overs-hd (t ∷ ts) h o = o.0

  overs-tl : (ts : List Term) → Overs ts → Overs (tl ts)
  unfolding Overs
  overs-tl [] o = tt
  overs-tl (t ∷ ts) o = o.1

  apply-over : (m : Mark) (ts : List Term) → Fine P m ts → ((a : ℕ) → m ≡ u_mod a → T (has a ms)) → Overs ts → Overs (apply P m ts)
  unfolding Overs Over Fine apply
  apply-over (u_seq j) ts f g o = ((overs-hd ts f.0 o, (j, (f.1.0, (f.1.1, refl)))), overs-tl ts o)
  apply-over (u_star j) ts f g o =
      let t : tree P j ≡ Star (hd ts) = tree-star P ns j f.1.1.0 ∙ ap Star (sym f.1.1.1) in
      ((overs-hd ts f.0 o, (j, (f.1.0, (omega (arith, f.1.1.0), t)))), overs-tl ts o)
  apply-over (u_act j) ts f g o = ((overs-hd ts f.0 o, (j, (f.1.0, (f.1.1.0, refl)))), overs-tl ts o)
  apply-over (u_wait j) ts f g o = ((tt, (j, (f.0, (f.1, refl)))), o)
  apply-over u_one ts f g o = (tt, o)
  apply-over u_par ts f g o = ((overs-hd ts (omega arith) o, overs-hd (tl ts) (tl-long ts f) (overs-tl ts o)), overs-tl (tl ts) (overs-tl ts o))
  apply-over (u_mod a) ts f g o = (g a refl, o)

  -- a module's unit is of one of ms
  owns-mark : (u : ℕ) → T (ltb u 770 || has (u - 770) ms) → (a : ℕ) → mark u ≡ u_mod a → T (has a ms)
  unfolding unmark
  owns-mark u h a e =
      let z : 770 + a ≡ u = sym (ap unmark e) ∙ unmark-mark u in
      let y : u - 770 ≡ a = omega arith in
      rw (le-ltb u 770 (omega arith), y) at h

  right-over : (us : List ℕ) → Right P us → T (owns ms us) → Overs (terms P us)
  unfolding Right terms owns Overs
  right-over [] r h = tt
  right-over (u ∷ us) r h =
      let t = ltb u 770 || has (u - 770) ms in
      apply-over (mark u) (terms P us) r.1 (owns-mark u (and_left t (owns ms us) h)) (right-over us r.0 (and_right t (owns ms us) h))

  pub word_over : Apart P → ((m : ℕ) → T (has m ms) → m < 26) → (us : List ℕ) (t : Term) → Says P us t → T (owns ms us) → Over P ms t × (word_of P t ≡ us)
  unfolding Overs
  word_over ap' small us t s h =
      let o : Overs (t ∷ []) = rw s.term at (right-over us s.ok h) in
      let w = over-says P ms ns small t o.0 in
      (o.0, inj P ns ap' (word_of P t) us w.ok s.ok (w.term ∙ sym s.term))

-- the modules of a right word are a to z
right-owns : (P us : List ℕ) → Right P us → T (owns (below 26) us)
unfolding Right owns
right-owns P [] r = tt
right-owns P (u ∷ us) r =
    and_both (ltb u 770 || has (u - 770) (below 26)) (owns (below 26) us)
    (by-lt u 770 (λ h. rw (lt-ltb u 770 h) tt)
    (λ h. rw (le-ltb u 770 h) (has-below 26 (u - 770) (let b = fine-small P u (terms P us) r.1 in omega arith))))
    (right-owns P us r.0)

-- a right word that says a term is its word, whatever its modules
pub right-word : (P : List ℕ) → Nodes P → Apart P → (us : List ℕ) (t : Term) → Says P us t → word_of P t ≡ us
right-word P ns ap' us t s = (word_over P (below 26) ns ap' (below-has 26) us t s (right-owns P us s.ok)).1
