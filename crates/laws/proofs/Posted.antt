-- The codes of a tree, in the order in which the machine of `Parse` writes them, and that they build the tree: each part's codes leave the part on
-- the stack of its sort, so the tree's own code finds its parts on top.
--     post_s s, post_i i, ..      the codes of a tree, one function for each sort
--     builds-S s r k, ..        after them the stacks are as before, with the tree on top
-- Assumes nothing.
use Prim.Native.Nat.{ℕ}
use mathlib.Core.Bool.{Bool, true, false}
use mathlib.Core.List.{List, [], ◌∷◌, ◌++◌, append_assoc, append-nil}
use mathlib.Core.Path.{◌≡◌, refl, sym, ap, subst, ◌∙◌}
use lib.Dec.{T, T_prop, ltb}
use Rattle.paper.specs.Grammar.{Sequence, Item, Starred, Atom, Body, Interruption, Chain, only, then, plain, until, once, again, named, never, group, single, beside, event, treated, braces, last, next}
use Rattle.paper.specs.Parse.{Code, c_named, c_letter, c_never, c_group, c_once, c_again, c_plain, c_until, c_only, c_then, c_single, c_beside, c_event, c_treated, c_last, c_next, c_braces, Stacks, empty, as_atom, as_event, as_treated, atoms_are, starreds_are, items_are, sequences_are, bodies_are, interruptions_are, chains_are, letters_are, build, builds}

unfoldable mutual
  pub post_s : Sequence → List Code
  post_s (only i) = post_i i ++ (c_only ∷ [])
  post_s (then i s) = post_i i ++ (post_s s ++ (c_then ∷ []))

  pub post_i : Item → List Code
  post_i (plain t) = post_t t ++ (c_plain ∷ [])
  post_i (until t n) = post_t t ++ (post_n n ++ (c_until ∷ []))

  pub post_t : Starred → List Code
  post_t (once a) = post_a a ++ (c_once ∷ [])
  post_t (again a) = post_a a ++ (c_again ∷ [])

  pub post_a : Atom → List Code
  post_a (named m h) = c_named m ∷ []
  post_a never = c_never ∷ []
  post_a (group b) = post_b b ++ (c_group ∷ [])

  pub post_b : Body → List Code
  post_b (single s) = post_s s ++ (c_single ∷ [])
  post_b (beside s b) = post_s s ++ (post_b b ++ (c_beside ∷ []))

  pub post_n : Interruption → List Code
  post_n (event e h) = c_letter e ∷ c_event ∷ []
  post_n (treated e h i) = c_letter e ∷ (post_i i ++ (c_treated ∷ []))
  post_n (braces j n c) = post_n n ++ (post_c c ++ (c_braces j ∷ []))

  pub post_c : Chain → List Code
  post_c (last n) = post_n n ++ (c_last ∷ [])
  post_c (next n c) = post_n n ++ (post_c c ++ (c_next ∷ []))

-- A code's letter is tested again when the tree is built. It passes, and the proof that it passes is the tree's own: there is only one.
as-letter : {A : Type 0} (m : ℕ) (h : T (ltb m 26)) (f : (b : Bool) → ltb m 26 ≡ b → A) (g : T (ltb m 26) → A)
    → ((e : ltb m 26 ≡ true) → f true e ≡ g (subst T (sym e) tt)) → f (ltb m 26) refl ≡ g h
as-letter m h f g k = go (ltb m 26) refl
  where
    go : (b : Bool) (e : ltb m 26 ≡ b) → f b e ≡ g h
    go true e = k e ∙ ap g (T_prop (ltb m 26) (subst T (sym e) tt) h)
    go false e = absurd (subst T e h)

mutual
  unfolding post_s build builds

  pub builds-S : (s : Sequence) (r : List Code) (k : Stacks) → builds (post_s s ++ r) k ≡ builds r (sequences_are (s ∷ k.sequences) k)
  builds-S (only i) r k = rw append_assoc (builds-I i (c_only ∷ r) k)
  builds-S (then i s) r k = simp append_assoc (builds-I i (post_s s ++ (c_then ∷ r)) k ∙ builds-S s (c_then ∷ r) (items_are (i ∷ k.items) k))

  pub builds-I : (i : Item) (r : List Code) (k : Stacks) → builds (post_i i ++ r) k ≡ builds r (items_are (i ∷ k.items) k)
  builds-I (plain t) r k = rw append_assoc (builds-T t (c_plain ∷ r) k)
  builds-I (until t n) r k = simp append_assoc (builds-T t (post_n n ++ (c_until ∷ r)) k ∙ builds-N n (c_until ∷ r) (starreds_are (t ∷ k.starreds) k))

  pub builds-T : (t : Starred) (r : List Code) (k : Stacks) → builds (post_t t ++ r) k ≡ builds r (starreds_are (t ∷ k.starreds) k)
  builds-T (once a) r k = rw append_assoc (builds-A a (c_once ∷ r) k)
  builds-T (again a) r k = rw append_assoc (builds-A a (c_again ∷ r) k)

  pub builds-A : (a : Atom) (r : List Code) (k : Stacks) → builds (post_a a ++ r) k ≡ builds r (atoms_are (a ∷ k.atoms) k)
  builds-A (named m h) r k = ap (λ (a : Atom). builds r (atoms_are (a ∷ k.atoms) k)) (as-letter m h (as_atom m) (named m) (λ q. refl))
  builds-A never r k = refl
  builds-A (group b) r k = rw append_assoc (builds-B b (c_group ∷ r) k)

  pub builds-B : (b : Body) (r : List Code) (k : Stacks) → builds (post_b b ++ r) k ≡ builds r (bodies_are (b ∷ k.bodies) k)
  builds-B (single s) r k = rw append_assoc (builds-S s (c_single ∷ r) k)
  builds-B (beside s b) r k = simp append_assoc (builds-S s (post_b b ++ (c_beside ∷ r)) k ∙ builds-B b (c_beside ∷ r) (sequences_are (s ∷ k.sequences) k))

  pub builds-N : (n : Interruption) (r : List Code) (k : Stacks) → builds (post_n n ++ r) k ≡ builds r (interruptions_are (n ∷ k.interruptions) k)
  builds-N (event e h) r k = ap (λ (n : Interruption). builds r (interruptions_are (n ∷ k.interruptions) k)) (as-letter e h (as_event e) (event e) (λ q. refl))
  builds-N (treated e h i) r k =
      rw append_assoc (builds-I i (c_treated ∷ r) (letters_are (e ∷ k.letters) k))
      ∙ ap (λ (n : Interruption). builds r (interruptions_are (n ∷ k.interruptions) k)) (as-letter e h (λ b q. as_treated e b q i) (λ z. treated e z i) (λ q. refl))
  builds-N (braces j n c) r k =
      simp append_assoc (builds-N n (post_c c ++ (c_braces j ∷ r)) k ∙ builds-C c (c_braces j ∷ r) (interruptions_are (n ∷ k.interruptions) k))

  pub builds-C : (c : Chain) (r : List Code) (k : Stacks) → builds (post_c c ++ r) k ≡ builds r (chains_are (c ∷ k.chains) k)
  builds-C (last n) r k = rw append_assoc (builds-N n (c_last ∷ r) k)
  builds-C (next n c) r k = simp append_assoc (builds-N n (post_c c ++ (c_next ∷ r)) k ∙ builds-C c (c_next ∷ r) (interruptions_are (n ∷ k.interruptions) k))

-- so a program's codes build the program
pub builds-post : (s : Sequence) → (builds (post_s s) empty).sequences ≡ s ∷ []
unfolding builds
builds-post s = ap (λ (x : List Code). (builds x empty).sequences) (sym (append-nil (post_s s))) ∙ ap (λ (k : Stacks). k.sequences) (builds-S s [] empty)
