-- A pass over the nodes of a tree, in the order of the reader, ends with the worths of all its parts and the least place of those that pass: for a
-- join the worths of its sides stand where `left` and the node before it say. Assumes nothing.
use Prim.Native.Nat.{ℕ, suc, ◌+◌, ◌-◌, ◌≤◌, min}
use mathlib.Core.Path.{◌≡◌, refl, sym, ap, ◌∙◌}
use mathlib.Core.Bool.{Bool, false, cond}
use mathlib.Core.List.{List, [], ◌∷◌, ◌++◌, append_assoc}
use native.Mathlib.Omega.{arith}
use lib.ListN.{length, get_or, length-append, get_or-append}
use lib.Seq.{get_or_at}
use Rattle.paper.specs.Bytes.{star_mark}
use Rattle.laws.specs.Placed.{Tree, leaf, star, join, size, codes, lefts, places}
use Rattle.stars.specs.Nodes.{far, is_star, is_join, Rule, scan}

-- what a tree is worth, and its nodes in order, the last by itself
unfoldable pub fold : {A : Type 0} → Rule A → Tree → A
fold r (leaf c p) = r.worth c r.none_yet r.none_yet
fold r (star p t) = r.worth star_mark r.none_yet (fold r t)
fold r (join c p t u) = r.worth c (fold r t) (fold r u)

unfoldable pub inits : {A : Type 0} → Rule A → Tree → List A
inits r (leaf c p) = []
inits r (star p t) = inits r t ++ (fold r t ∷ [])
inits r (join c p t u) = (inits r t ++ (fold r t ∷ [])) ++ (inits r u ++ (fold r u ∷ []))

abbrev pub worths : {A : Type 0} → Rule A → Tree → List A
worths r t = inits r t ++ (fold r t ∷ [])

-- the least place of a star over a part that passes s, and of a join whose sides pass p
unfoldable pub least_t : (Tree → Bool) → (ℕ → Tree → Tree → Bool) → Tree → ℕ
least_t s p (leaf c at) = far
least_t s p (star at t) = min (least_t s p t) (cond (s t) at far)
least_t s p (join c at t u) = min (min (least_t s p t) (least_t s p u)) (cond (p c t u) at far)

abbrev pub least : {A : Type 0} → Rule A → Tree → ℕ
least r t = least_t (λ t. r.passes star_mark r.none_yet (fold r t)) (λ c t u. r.passes c (fold r t) (fold r u)) t

pub least_t-top : (s : Tree → Bool) (p : ℕ → Tree → Tree → Bool) (t : Tree) → least_t s p t ≤ far
unfolding least_t
least_t-top s p (leaf c at) = omega arith
least_t-top s p (star at t) = omega (arith, least_t-top s p t)
least_t-top s p (join c at t u) = omega (arith, least_t-top s p t)

-- leaves have no mark's code
abbrev pub LeafCode : ℕ → Type 0
LeafCode c = (is_star c ≡ false) × (is_join c ≡ false)

unfoldable pub Leafy : Tree → Type 0
Leafy (leaf c p) = LeafCode c
Leafy (star p t) = Leafy t
Leafy (join c p t u) = Leafy t × Leafy u

-- a leaf looks at no part, and a star at no left part
pub record Lawful {A : Type 0} (r : Rule A) : Type 0 where
  pub leaf_worth : (c : ℕ) → LeafCode c → (y z : A) → r.worth c y z ≡ r.worth c r.none_yet r.none_yet
  pub leaf_passes : (c : ℕ) → LeafCode c → (y z : A) → r.passes c y z ≡ false
  pub star_worth : (y z : A) → r.worth star_mark y z ≡ r.worth star_mark r.none_yet z
  pub star_passes : (y z : A) → r.passes star_mark y z ≡ r.passes star_mark r.none_yet z

last_of : {A : Type 0} (xs : List A) (x d : A) → get_or (xs ++ (x ∷ [])) (length (xs ++ (x ∷ [])) - 1) d ≡ x
last_of xs x d = get_or_at xs x [] d (length (xs ++ (x ∷ [])) - 1) (omega (arith, length-append xs (x ∷ [])))

join-assoc : (a b c : List ℕ) (x : ℕ) → (a ++ (b ++ (x ∷ []))) ++ c ≡ a ++ (b ++ (x ∷ c))
join-assoc a b c x = append_assoc a (b ++ (x ∷ [])) c ∙ ap (λ (l : List ℕ). a ++ l) (append_assoc b (x ∷ []) c)

module _ {A : Type 0} (r : Rule A) where
  pub worths-length : (t : Tree) → length (worths r t) ≡ size t
  unfolding inits size
  worths-length (leaf c p) = refl
  worths-length (star p t) = omega (arith, length-append (worths r t) (fold r (star p t) ∷ []), worths-length t)
  worths-length (join c p t u) =
      omega (
        arith,
        length-append (worths r t ++ worths r u) (fold r (join c p t u) ∷ []),
        length-append (worths r t) (worths r u),
        worths-length t,
        worths-length u,
      )

  last-worth : (ws : List A) (t : Tree) (k : ℕ) → k ≡ length (ws ++ worths r t) - 1 → get_or (ws ++ worths r t) k r.none_yet ≡ fold r t
  last-worth ws t k e =
      let d = r.none_yet in
      ap (λ (j : ℕ). get_or (ws ++ worths r t) j d) e
      ∙ (ap (λ (l : List A). get_or l (length l - 1) d) (sym (append_assoc ws (inits r t) (fold r t ∷ []))) ∙ last_of (ws ++ inits r t) (fold r t) d)

  scan-lists : (cs cs' ls ls' ps ps' : List ℕ) (ws : List A) (m : ℕ) → cs ≡ cs' → ls ≡ ls' → ps ≡ ps' → scan r cs ls ps ws m ≡ scan r cs' ls' ps' ws m
  scan-lists cs cs' ls ls' ps ps' ws m a b c =
      ap (λ (x : List ℕ). scan r x ls ps ws m) a
      ∙ (ap (λ (x : List ℕ). scan r cs' x ps ws m) b ∙ ap (λ (x : List ℕ). scan r cs' ls' x ws m) c)

  -- one node, by what its two looks give
  pub scan-node : (c l p : ℕ) (cs ls ps : List ℕ) (ws : List A) (m : ℕ) (w : A) (b : Bool) (ws' : List A) (m' : ℕ)
      → r.worth c (get_or ws l r.none_yet) (get_or ws (length ws - 1) r.none_yet) ≡ w
      → r.passes c (get_or ws l r.none_yet) (get_or ws (length ws - 1) r.none_yet) ≡ b
      → ws ++ (w ∷ []) ≡ ws'
      → min m (cond b p far) ≡ m'
      → scan r (c ∷ cs) (l ∷ ls) (p ∷ ps) ws m ≡ scan r cs ls ps ws' m'
  unfolding scan
  scan-node c l p cs ls ps ws m w b ws' m' e f g h =
      ap (λ (x : A). scan r cs ls ps (ws ++ (x ∷ [])) (min m (cond (r.passes c (get_or ws l r.none_yet) (get_or ws (length ws - 1) r.none_yet)) p far))) e
      ∙ (ap (λ (x : Bool). scan r cs ls ps (ws ++ (w ∷ [])) (min m (cond x p far))) f
      ∙ (ap (λ (x : List A). scan r cs ls ps x (min m (cond b p far))) g ∙ ap (λ (x : ℕ). scan r cs ls ps ws' x) h))

  pub scan-tree : Lawful r → (t : Tree) → Leafy t → (cs ls ps : List ℕ) (ws : List A) (m : ℕ) → m ≤ far
      → scan r (codes t ++ cs) (lefts (length ws) t ++ ls) (places t ++ ps) ws m ≡ scan r cs ls ps (ws ++ worths r t) (min m (least r t))
  unfolding Leafy codes lefts places inits fold least_t
  scan-tree law (leaf c p) k cs ls ps ws m h =
      scan-node c 0 p cs ls ps ws m (fold r (leaf c p)) false (ws ++ worths r (leaf c p)) (min m far)
      (law.leaf_worth c k (get_or ws 0 r.none_yet) (get_or ws (length ws - 1) r.none_yet))
      (law.leaf_passes c k (get_or ws 0 r.none_yet) (get_or ws (length ws - 1) r.none_yet)) refl refl
  scan-tree law (star p t) k cs ls ps ws m h =
      let v = ws ++ worths r t in
      let z = last-worth ws t (length v - 1) refl in
      let y = get_or v 0 r.none_yet in
      let b = r.passes star_mark r.none_yet (fold r t) in
      scan-lists _ (codes t ++ (star_mark ∷ cs)) _ (lefts (length ws) t ++ (0 ∷ ls)) _ (places t ++ (p ∷ ps)) ws m
      (append_assoc (codes t) (star_mark ∷ []) cs) (append_assoc (lefts (length ws) t) (0 ∷ []) ls) (append_assoc (places t) (p ∷ []) ps)
      ∙ (scan-tree law t k (star_mark ∷ cs) (0 ∷ ls) (p ∷ ps) ws m h
      ∙ scan-node star_mark 0 p cs ls ps v (min m (least r t)) (fold r (star p t)) b (ws ++ worths r (star p t)) (min m (least r (star p t)))
      (ap (λ (x : A). r.worth star_mark y x) z ∙ law.star_worth y (fold r t))
      (ap (λ (x : A). r.passes star_mark y x) z ∙ law.star_passes y (fold r t))
      (append_assoc ws (worths r t) (fold r (star p t) ∷ []))
      (omega arith))
  scan-tree law (join c p t u) k cs ls ps ws m h =
      let f = length ws in
      let v = ws ++ worths r t in
      let w = v ++ worths r u in
      let n : length v ≡ f + size t = length-append ws (worths r t) ∙ ap (λ (j : ℕ). f + j) (worths-length t) in
      let s : length v ≡ suc (length v - 1) = omega (arith, length-append ws (worths r t), length-append (inits r t) (fold r t ∷ [])) in
      let i : f + size t - 1 ≡ length v - 1 = omega arith in
      let y : get_or w (f + size t - 1) r.none_yet ≡ fold r t =
      get_or-append v (worths r u) r.none_yet (f + size t - 1) (omega arith) ∙ last-worth ws t (f + size t - 1) i in
      let z = last-worth v u (length w - 1) refl in
      let b = r.passes c (fold r t) (fold r u) in
      scan-lists _ (codes t ++ (codes u ++ (c ∷ cs))) _ (lefts f t ++ (lefts (f + size t) u ++ ((f + size t - 1) ∷ ls))) _
      (places t ++ (places u ++ (p ∷ ps))) ws m
      (join-assoc (codes t) (codes u) cs c) (join-assoc (lefts f t) (lefts (f + size t) u) ls (f + size t - 1)) (join-assoc (places t) (places u) ps p)
      ∙ (scan-tree law t k.0 (codes u ++ (c ∷ cs)) (lefts (f + size t) u ++ ((f + size t - 1) ∷ ls)) (places u ++ (p ∷ ps)) ws m h
      ∙ (ap
      (λ (j : ℕ). scan r (codes u ++ (c ∷ cs)) (lefts j u ++ ((f + size t - 1) ∷ ls)) (places u ++ (p ∷ ps)) v (min m (least r t)))
      (sym n)
      ∙ (scan-tree law u k.1 (c ∷ cs) ((f + size t - 1) ∷ ls) (p ∷ ps) v (min m (least r t)) (omega arith)
      ∙ scan-node c (f + size t - 1) p cs ls ps w (min (min m (least r t)) (least r u)) (fold r (join c p t u)) b (ws ++ worths r (join c p t u))
      (min m (least r (join c p t u)))
      (ap (λ (x : A). r.worth c x (get_or w (length w - 1) r.none_yet)) y ∙ ap (λ (x : A). r.worth c (fold r t) x) z)
      (ap (λ (x : A). r.passes c x (get_or w (length w - 1) r.none_yet)) y ∙ ap (λ (x : A). r.passes c (fold r t) x) z)
      (append_assoc v (worths r u) (fold r (join c p t u) ∷ [])
      ∙ (append_assoc ws (worths r t) (worths r u ++ (fold r (join c p t u) ∷ []))
      ∙ ap (λ (x : List A). ws ++ x) (sym (append_assoc (worths r t) (worths r u) (fold r (join c p t u) ∷ [])))))
      (omega arith))))
