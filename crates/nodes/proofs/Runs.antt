-- The postorder of a program's tree, place by place, makes what the tree makes. At each place the code's parts are known by their numbers: the right one is
-- the node last made, the left one stands in the list of the nodes made so far. By the shapes of `Means`: a part's places leave its node, and its numbers
-- behind those before it.
--     Runs cs ls P ns z m   from the table P, with the nodes ns made so far and z the last of them, the codes cs and lefts ls end in m
--     numbers P t           the nodes of the places of t, made in P
--     grown-runs            the places of a tree that means something end in what it grows to
-- Assumes nothing.
use Prim.Native.Nat.{ℕ, ◌+◌, ◌-◌, ◌≤◌, ◌<◌}
use mathlib.Core.List.{List, [], ◌∷◌, ◌++◌, append_assoc, append-nil}
use mathlib.Core.Path.{◌≡◌, refl, ◌∙◌}
use native.Mathlib.Omega.{arith}
use lib.ListN.{length, get_or, length-append, get_or-append}
use lib.Seq.{get_or_at, slice, slice-cons, slice_empty}
use native.Mathlib.Numerals.{add-one}
use Rattle.paper.specs.Bytes.{one_mark, star_mark, slash_mark, colon_mark, bar_mark}
use Rattle.laws.specs.Placed.{Tree, leaf, star, join, seq_code, either_code, both_code, size, codes, lefts}
use Rattle.nodes.specs.Made.{Made, code_kind, node_by, node, grown}
use Rattle.nodes.proofs.Codes.{module-kind, event-kind}
use Rattle.nodes.proofs.Means.{Meaning, Means, is_mod, is_one, is_seq, is_par, is_star, is_act, is_event, is_treat, is_either, is_both}

-- the node of the code c at a place whose left part stands at l
abbrev pub step : List ℕ → List ℕ → ℕ → ℕ → ℕ → Made
step P ns z c l = node P c (get_or ns l 0) z

unfoldable pub Runs : List ℕ → List ℕ → List ℕ → List ℕ → ℕ → Made → Type 0
Runs [] ls P ns z m = (P ≡ m.table) × (z ≡ m.node)
Runs (c ∷ cs) [] P ns z m = ⊥
Runs (c ∷ cs) (l ∷ ls) P ns z m = (l ≤ length ns) × Runs cs ls (step P ns z c l).table (ns ++ ((step P ns z c l).node ∷ [])) (step P ns z c l).node m

unfoldable numbers : List ℕ → Tree → List ℕ
numbers P (leaf c p) = (grown P (leaf c p)).node ∷ []
numbers P (star p t) = numbers P t ++ ((grown P (star p t)).node ∷ [])
numbers P (join c p t u) = numbers P t ++ (numbers (grown P t).table u ++ ((grown P (join c p t u)).node ∷ []))

numbers-long : (P : List ℕ) (t : Tree) → length (numbers P t) ≡ size t
unfolding numbers size
numbers-long P (leaf c p) = refl
numbers-long P (star p t) = simp (length-append, numbers-long P t)
numbers-long P (join c p t u) = simp (length-append, numbers-long P t, numbers-long (grown P t).table u) (omega arith)

-- the last of them is the tree's own
numbers-last : (P ns : List ℕ) (t : Tree) (l : ℕ) → l ≡ length ns + size t - 1 → get_or (ns ++ numbers P t) l 0 ≡ (grown P t).node
unfolding numbers size
numbers-last P ns (leaf c p) l e = get_or_at ns _ [] 0 l (omega arith)
numbers-last P ns (star p t) l e =
    let n = numbers-long P t in
    rw (← append_assoc ns (numbers P t) _) (get_or_at (ns ++ numbers P t) _ [] 0 l (omega (arith, length-append ns (numbers P t))))
numbers-last P ns (join c p t u) l e =
    let n = numbers-long P t in
    let k = numbers-long (grown P t).table u in
    let v = numbers (grown P t).table u in
    rw (← append_assoc (numbers P t) v _, ← append_assoc ns (numbers P t ++ v) _)
    (get_or_at (ns ++ (numbers P t ++ v)) _ [] 0 l (omega (arith, length-append ns (numbers P t ++ v), length-append (numbers P t) v)))

size-some : (t : Tree) → 1 ≤ size t
unfolding size
size-some (leaf c p) = omega arith
size-some (star p t) = omega arith
size-some (join c p t u) = omega arith

-- what a place makes does not depend on parts that its code has none of
abbrev Leafy : ℕ → Type 0
Leafy c = (P : List ℕ) (l r : ℕ) → node P c l r ≡ node P c 0 0

leafy-module : (a : ℕ) → a < 26 → Leafy (97 + a)
unfolding node_by
leafy-module a h P l r = rw (module-kind (97 + a) (omega arith) (omega arith))

leafy-event : (e : ℕ) → e < 26 → Leafy (65 + e)
unfolding node_by
leafy-event e h P l r = rw (event-kind (65 + e) (omega arith) (omega arith))

leafy-one : Leafy one_mark
unfolding node_by code_kind
leafy-one P l r = refl

module _ (o : Made) where
  -- after the places of the tree t
  abbrev After : List ℕ → Tree → List ℕ → List ℕ → List ℕ → Type 0
  After P t ns cs ls = Runs cs ls (grown P t).table (ns ++ numbers P t) (grown P t).node o

  -- the places of t, wherever they begin and whatever follows
  abbrev Passes : Tree → Type 0
  Passes t = (P ns : List ℕ) (f z : ℕ) (cs ls : List ℕ) → f ≡ length ns → After P t ns cs ls → Runs (codes t ++ cs) (lefts f t ++ ls) P ns z o

  leaf_passes : (c p : ℕ) → Leafy c → Passes (leaf c p)
  unfolding Runs codes lefts numbers grown
  leaf_passes c p h P ns f z cs ls e r = (omega arith, rw (h P (get_or ns 0 0) z) r)

  star_passes : (p : ℕ) (t : Tree) → Passes t → Passes (star p t)
  unfolding Runs codes lefts numbers grown code_kind node_by
  star_passes p t h P ns f z cs ls e r =
      rw (append_assoc (codes t) (star_mark ∷ []) cs, append_assoc (lefts f t) (0 ∷ []) ls)
      (h P ns f z (star_mark ∷ cs) (0 ∷ ls) e (omega arith, rw (append_assoc ns (numbers P t) ((grown P (star p t)).node ∷ [])) r))

  join-passes : (c p : ℕ) (t u : Tree) → Passes t → Passes u → Passes (join c p t u)
  unfolding Runs codes lefts numbers grown
  join-passes c p t u h k P ns f z cs ls e r =
      let n = numbers-long P t in
      let ms = numbers (grown P t).table u in
      let l = f + size t - 1 in
      let at : f + size t ≡ length (ns ++ numbers P t) = omega (arith, length-append ns (numbers P t)) in
      let here : get_or ((ns ++ numbers P t) ++ ms) l 0 ≡ (grown P t).node =
      get_or-append (ns ++ numbers P t) ms 0 l (omega (arith, size-some t)) ∙ numbers-last P ns t l (omega arith) in
      rw (append_assoc (codes t) (codes u ++ (c ∷ [])) cs, append_assoc (codes u) (c ∷ []) cs, append_assoc (lefts f t) (lefts (f + size t) u ++ (l ∷ [])) ls, append_assoc (lefts (f + size t) u) (l ∷ []) ls)
      (h P ns f z (codes u ++ (c ∷ cs)) (lefts (f + size t) u ++ (l ∷ ls)) e
      (k (grown P t).table (ns ++ numbers P t) (f + size t) (grown P t).node (c ∷ cs) (l ∷ ls) at (
        omega (arith, length-append (ns ++ numbers P t) ms),
        rw (here, append_assoc (ns ++ numbers P t) ms ((grown P (join c p t u)).node ∷ []), append_assoc ns (numbers P t) (ms ++ ((grown P (join c p t u)).node ∷ []))) r,
      )))

  means-passes : {t : Tree} {v : Meaning} → Means t v → Passes t
  means-passes (is_mod {p} {m} h) = leaf_passes (97 + m) p (leafy-module m h)
  means-passes (is_one {p}) = leaf_passes one_mark p leafy-one
  means-passes (is_seq {p} {t} {u} f g) = join-passes seq_code p t u (means-passes f) (means-passes g)
  means-passes (is_par {p} {t} {u} f g) = join-passes bar_mark p t u (means-passes f) (means-passes g)
  means-passes (is_star {p} {t} f) = star_passes p t (means-passes f)
  means-passes (is_act {p} {t} {u} f g) = join-passes slash_mark p t u (means-passes f) (means-passes g)
  means-passes (is_event {p} {e} h) = leaf_passes (65 + e) p (leafy-event e h)
  means-passes (is_treat {p} {e} {t} {u} f g) = join-passes colon_mark p t u (means-passes f) (means-passes g)
  means-passes (is_either {p} {t} {u} f g) = join-passes either_code p t u (means-passes f) (means-passes g)
  means-passes (is_both {p} {t} {u} f g) = join-passes both_code p t u (means-passes f) (means-passes g)

pub grown-runs : {t : Tree} {v : Meaning} → Means t v → (P : List ℕ) → Runs (codes t) (lefts 0 t) P [] 0 (grown P t)
unfolding Runs
grown-runs {t} f P =
    rw (append-nil (codes t), append-nil (lefts 0 t)) at (means-passes (grown P t) f P [] 0 0 [] [] refl (refl, refl))

-- one place further
module _ (code left : List ℕ) (n i : ℕ) (h : i < n) (u : n ≤ length code) (v : n ≤ length left) (P ns : List ℕ) (z : ℕ) (m : Made) where
  pub runs-next : Runs (slice i n code) (slice i n left) P ns z m
      → (get_or left i 0 ≤ length ns)
      × Runs (slice (i + 1) n code) (slice (i + 1) n left) (step P ns z (get_or code i 0) (get_or left i 0)).table (ns ++ ((step P ns z (get_or code i 0) (get_or left i 0)).node ∷ [])) (step P ns z (get_or code i 0) (get_or left i 0)).node m
  unfolding Runs
  runs-next r = rw add-one (rw (slice-cons i n code 0 h u, slice-cons i n left 0 h v) at r)

-- at the end
pub runs-end : (code left : List ℕ) (n : ℕ) (P ns : List ℕ) (z : ℕ) (m : Made) → Runs (slice n n code) (slice n n left) P ns z m → (P ≡ m.table) × (z ≡ m.node)
unfolding Runs
runs-end code left n P ns z m r = rw (slice_empty n code) at r
