-- The cases of an occurrence and of a letter, as the code tells them apart: by what the tests found, the rules' choice is known.
-- Assumes nothing.
use Prim.Native.Nat.{ℕ, ◌+◌, ◌≤◌, ◌<◌}
use mathlib.Core.Bool.{Bool, true, false, ◌||◌}
use mathlib.Core.List.{List, [], ◌∷◌, ◌++◌}
use mathlib.Core.Path.{◌≡◌, refl, ap, sym, ◌∙◌}
use native.Mathlib.Omega.{arith}
use lib.ListN.{get_or, length, drop, take, length-take, drop_of_length-le}
use borrow.Author.Tests.{eq-eqb, ne_eqb}
use Rattle.paper.specs.Term.{Term, Left, gone, still}
use Rattle.paper.specs.Lists.{has}
use Rattle.paper.specs.Running.{armed}
use Rattle.paper.specs.Rewriting.{Letter, completion, occurrence, rewritten}
use Rattle.paper.specs.Settling.{held, settled}
use Rattle.paper.specs.Reaction.{Program, occurred, moved}
use Rattle.words.specs.Word.{terms, any_armed}
use Rattle.words.specs.Pieces.{top}
use Rattle.rewrite.specs.Steps.{Stands, state}
use Rattle.rewrite.proofs.Standing.{state-still, state-gone, state-terms}
use Rattle.rewrite.proofs.Leading.{stored-cons}

-- ## is an event stored

module _ (e : ℕ) (ev : List ℕ) (n k : ℕ) (h : k < n) (l : n ≤ length ev) where
  pub has_here : e ≡ get_or ev k 0 → has e (drop k (take n ev)) ≡ true
  unfolding has
  has_here q = rw (stored-cons ev n k h l, eq-eqb e (get_or ev k 0) q)

  pub has_on : (e ≡ get_or ev k 0 → ⊥) → has e (drop k (take n ev)) ≡ has e (drop (k + 1) (take n ev))
  unfolding has
  has_on d = rw (stored-cons ev n k h l, ne_eqb e (get_or ev k 0) d)

pub has_end : (e : ℕ) (ev : List ℕ) (n k : ℕ) → n ≤ k → n ≤ length ev → has e (drop k (take n ev)) ≡ false
unfolding has
has_end e ev n k h l = rw (drop_of_length-le (take n ev) {i = k} (simp length-take (omega arith)))

-- ## an occurrence before the end

or-none : (b : Bool) → (b || false) ≡ b
or-none true = refl
or-none false = refl

module _ {P W : List ℕ} {s : ℕ} (st : Stands P W s) (h : s < 96) (q : Program) (e : ℕ) (m : List ℕ) where
  abbrev t : Term
  t = top P W s

  armed-top : {v : Bool} → v ≡ any_armed e (terms P (drop s W)) → v ≡ armed e t
  unfolding any_armed
  armed-top a = a ∙ ap (any_armed e) (state-terms st h) ∙ or-none (armed e t)

  stays : (m₂ : List ℕ) → held (state P W s) m₂ ≡ held (still t) m₂
  stays m₂ = ap (λ (x : Left). held x m₂) (state-still st h)

  pub fugitive-taken : {f v : Bool} → f ≡ has e q.fugitive → f ≡ true → v ≡ any_armed e (terms P (drop s W)) → v ≡ true → settled (rewritten (occurrence e) t) m ≡ occurred q e t m
  unfolding occurred
  fugitive-taken k f a b = rw (sym k ∙ f, sym (armed-top a) ∙ b)

  pub fugitive-passed : {f v : Bool} → f ≡ has e q.fugitive → f ≡ true → v ≡ any_armed e (terms P (drop s W)) → v ≡ false → held (state P W s) m ≡ occurred q e t m
  unfolding occurred
  fugitive-passed k f a b = rw (sym k ∙ f, sym (armed-top a) ∙ b) (stays m)

  pub standard-stored : {f b : Bool} → f ≡ has e q.fugitive → f ≡ false → b ≡ has e m → b ≡ true → held (state P W s) m ≡ occurred q e t m
  unfolding occurred
  standard-stored k f b c = rw (sym k ∙ f, sym b ∙ c) (stays m)

  pub standard-taken : {f b v : Bool} → f ≡ has e q.fugitive → f ≡ false → b ≡ has e m → b ≡ false → v ≡ any_armed e (terms P (drop s W)) → v ≡ true → settled (rewritten (occurrence e) t) m ≡ occurred q e t m
  unfolding occurred
  standard-taken k f b c a d = rw (sym k ∙ f, sym b ∙ c, sym (armed-top a) ∙ d)

  pub standard-kept : {f b v : Bool} {m₂ : List ℕ} → f ≡ has e q.fugitive → f ≡ false → b ≡ has e m → b ≡ false → v ≡ any_armed e (terms P (drop s W)) → v ≡ false → m₂ ≡ m ++ (e ∷ []) → held (state P W s) m₂ ≡ occurred q e t m
  unfolding occurred
  standard-kept k f b c a d g = rw (sym k ∙ f, sym b ∙ c, sym (armed-top a) ∙ d, g) (stays (m ++ (e ∷ [])))

-- ## a letter

gone-moved : (q : Program) (l : Letter) (m : List ℕ) → moved q l gone m ≡ held gone m
unfolding moved
gone-moved q (completion a) m = refl
gone-moved q (occurrence e) m = refl

pub moved-ended : {P W : List ℕ} {s : ℕ} (st : Stands P W s) (q : Program) (l : Letter) (m : List ℕ) → 96 ≤ s → held (state P W s) m ≡ moved q l (state P W s) m
moved-ended st q l m h = rw (state-gone st h) (sym (gone-moved q l m))

pub moved-completion : {P W : List ℕ} {s : ℕ} (st : Stands P W s) (q : Program) (l : Letter) (a : ℕ) (m : List ℕ) → s < 96 → l ≡ completion a → settled (rewritten l (top P W s)) m ≡ moved q l (state P W s) m
unfolding moved
moved-completion st q l a m h e = rw (e, state-still st h)

pub moved-occurrence : {P W : List ℕ} {s : ℕ} (st : Stands P W s) (q : Program) (l : Letter) (e : ℕ) (m : List ℕ) → s < 96 → l ≡ occurrence e → occurred q e (top P W s) m ≡ moved q l (state P W s) m
unfolding moved
moved-occurrence st q l e m h k = rw (k, state-still st h)
