-- Writing a tree's nodes in turn: a join's node behind the nodes of its two parts gives the join's nodes, since what is stored behind a part begins
-- where the part ends (`sets_behind`). The lists keep their lengths.
-- Assumes nothing.
use Prim.Native.Nat.{ℕ, suc, ◌+◌, ◌-◌, ◌≤◌}
use mathlib.Core.List.{List, [], ◌∷◌, ◌++◌}
use mathlib.Core.Path.{◌≡◌, refl, sym, ap, ◌∙◌}
use native.Mathlib.Nat.{add-zero, add-suc, suc-add}
use native.Mathlib.Omega.{arith}
use lib.ListN.{length, set, length-append}
use lib.Seq.{sets, set_out, length-sets}
use Rattle.paper.specs.Bytes.{star_mark}
use Rattle.laws.specs.Placed.{Tree, leaf, star, join, size, codes, lefts, places}
use Rattle.syntax.specs.Store.{Store, store, node, writes}

store_same : {c c' l l' p p' : List ℕ} {f f' : ℕ} → c ≡ c' → l ≡ l' → p ≡ p' → f ≡ f' → store c l p f ≡ store c' l' p' f'
store_same {c} {c'} {l} {l'} {p} {p'} {f} {f'} a b d e =
    ap (λ (x : List ℕ). store x l p f) a ∙ ap (λ (x : List ℕ). store c' x p f) b ∙ ap (λ (x : List ℕ). store c' l' x f) d ∙ ap (store c' l' p') e

-- a node for which there is no room
pub node-out : (c l p : List ℕ) (f : ℕ) (a b d : ℕ) → length c ≤ f → length l ≤ f → length p ≤ f → store c l p (f + 1) ≡ node (store c l p f) a b d
node-out c l p f a b d u v w = store_same (sym (set_out c f a u)) (sym (set_out l f b v)) (sym (set_out p f d w)) refl

sets-append : (vs ws l : List ℕ) (i : ℕ) → sets (sets l i vs) (i + length vs) ws ≡ sets l i (vs ++ ws)
sets-append [] ws l i = rw add-zero
sets-append (v ∷ vs) ws l i =
    ap (λ (k : ℕ). sets (sets (set l i v) (suc i) vs) k ws) (add-suc i (length vs) ∙ sym (suc-add i (length vs))) ∙ sets-append vs ws (set l i v) (suc i)

sets_behind : (l vs ws : List ℕ) (i k : ℕ) → length vs ≡ k → sets (sets l i vs) (i + k) ws ≡ sets l i (vs ++ ws)
sets_behind l vs ws i k e = ap (λ (j : ℕ). sets (sets l i vs) (i + j) ws) (sym e) ∙ sets-append vs ws l i

sets-two : (l vs ws us : List ℕ) (i k j : ℕ) → length vs ≡ k → length ws ≡ j → sets (sets (sets l i vs) (i + k) ws) (i + k + j) us ≡ sets l i (vs ++ (ws ++ us))
sets-two l vs ws us i k j e d = sets_behind (sets l i vs) ws us (i + k) j d ∙ sets_behind l vs (ws ++ us) i k e

pub length-codes : (t : Tree) → length (codes t) ≡ size t
unfolding codes size
length-codes (leaf c p) = refl
length-codes (star p t) = simp length-append (omega (arith, length-codes t))
length-codes (join c p t u) = simp length-append (omega (arith, length-codes t, length-codes u))

pub length-lefts : (f : ℕ) (t : Tree) → length (lefts f t) ≡ size t
unfolding lefts size
length-lefts f (leaf c p) = refl
length-lefts f (star p t) = simp length-append (omega (arith, length-lefts f t))
length-lefts f (join c p t u) = simp length-append (omega (arith, length-lefts f t, length-lefts (f + size t) u))

pub length-places : (t : Tree) → length (places t) ≡ size t
unfolding places size
length-places (leaf c p) = refl
length-places (star p t) = simp length-append (omega (arith, length-places t))
length-places (join c p t u) = simp length-append (omega (arith, length-places t, length-places u))

pub writes-leaf : (S : Store) (c p : ℕ) → node S c 0 p ≡ writes S (leaf c p)
unfolding codes lefts places size
writes-leaf S c p = refl

pub writes-star : (S : Store) (p : ℕ) (t : Tree) → node (writes S t) star_mark 0 p ≡ writes S (star p t)
unfolding codes lefts places size
writes-star S p t = let f = S.free in store_same
    (sets_behind S.code (codes t) (star_mark ∷ []) f (size t) (length-codes t))
    (sets_behind S.left (lefts f t) (0 ∷ []) f (size t) (length-lefts f t))
    (sets_behind S.place (places t) (p ∷ []) f (size t) (length-places t))
    (omega arith)

pub writes-join : (S : Store) (c p : ℕ) (t u : Tree) → node (writes (writes S t) u) c ((writes S t).free - 1) p ≡ writes S (join c p t u)
unfolding codes lefts places size
writes-join S c p t u = let f = S.free in let g = f + size t in store_same
    (sets-two S.code (codes t) (codes u) (c ∷ []) f (size t) (size u) (length-codes t) (length-codes u))
    (sets-two S.left (lefts f t) (lefts g u) ((g - 1) ∷ []) f (size t) (size u) (length-lefts f t) (length-lefts g u))
    (sets-two S.place (places t) (places u) (p ∷ []) f (size t) (size u) (length-places t) (length-places u))
    (omega arith)

-- ---- the lengths are kept

pub writes-code : (S : Store) (t : Tree) → length (writes S t).code ≡ length S.code
writes-code S t = length-sets S.code S.free (codes t)

pub writes-left : (S : Store) (t : Tree) → length (writes S t).left ≡ length S.left
writes-left S t = length-sets S.left S.free (lefts S.free t)

pub writes-place : (S : Store) (t : Tree) → length (writes S t).place ≡ length S.place
writes-place S t = length-sets S.place S.free (places t)
