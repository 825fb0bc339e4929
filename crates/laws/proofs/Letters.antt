-- Lists of letters: what stands in one (`has`), and what `without` and `keep` leave of it.
-- What a test keeps of a list is those of the list that stand in what was kept (`keep-own`), so what stands there determines it (`keep_same`).
-- Assumes nothing.
use Prim.Native.Nat.{ℕ}
use mathlib.Core.Path.{◌≡◌, refl, subst, sym, ap, ◌∙◌}
use mathlib.Core.Bool.{Bool, true, false, cond, ◌&&◌, ◌||◌}
use mathlib.Core.List.{List, [], ◌∷◌, ◌++◌}
use mathlib.Core.Logic.{◌⊎◌, inl, inr, ⊎_elim}
use lib.Dec.{T, eqb, eqb→eq, eqb_refl}
use borrow.Author.Tests.{eqb-true}
use Rattle.paper.specs.Lists.{with_if, has, without, keep}

or_cases : (a b : Bool) → T (a || b) → T a ⊎ T b
or_cases true b t = inl t
or_cases false b t = inr t

or-first : (a b : Bool) → T a → T (a || b)
or-first true b t = tt
or-first false b t = absurd t

or-second : (a b : Bool) → T b → T (a || b)
or-second true b t = tt
or-second false b t = t

pub false-not : (b : Bool) → b ≡ false → T b → ⊥
false-not b e t = subst T e t

-- a choice between two values, with the equation of its test
pub by_cond : {A : Type 0} (P : A → Type 0) (b : Bool) (x y : A) → (b ≡ true → P x) → (b ≡ false → P y) → P (cond b x y)
by_cond P true x y h k = h refl
by_cond P false x y h k = k refl

has-cons : (n x : ℕ) (xs : List ℕ) → T (has n (x ∷ xs)) → T (eqb n x) ⊎ T (has n xs)
unfolding has
has-cons n x xs t = or_cases (eqb n x) (has n xs) t

pub has_there : (n x : ℕ) (xs : List ℕ) → T (has n xs) → T (has n (x ∷ xs))
unfolding has
has_there n x xs t = or-second (eqb n x) (has n xs) t

pub has_here : (n x : ℕ) (xs : List ℕ) → T (eqb n x) → T (has n (x ∷ xs))
unfolding has
has_here n x xs t = or-first (eqb n x) (has n xs) t

pub has_more : (n e : ℕ) (xs : List ℕ) → T (has n (xs ++ e ∷ [])) → T (has n xs) ⊎ (n ≡ e)
unfolding has
has_more n e [] t = ⊎_elim (λ h. inr (eqb→eq n e h)) (λ h. absurd h) (has-cons n e [] t)
has_more n e (x ∷ xs) t =
    ⊎_elim (λ h. inl (has_here n x xs h))
    (λ h. ⊎_elim (λ k. inl (has_there n x xs k)) (λ k. inr k) (has_more n e xs h))
    (has-cons n x (xs ++ e ∷ []) t)

pub has-without : (n e : ℕ) (xs : List ℕ) → T (has n (without e xs)) → T (has n xs)
unfolding without
has-without n e [] t = t
has-without n e (x ∷ xs) t =
    by_cond (λ ys. T (has n ys) → T (has n (x ∷ xs))) (eqb e x) xs (x ∷ without e xs) (λ q k. has_there n x xs k)
    (λ q k.
    ⊎_elim (λ h. has_here n x xs h) (λ h. has_there n x xs (has-without n e xs h)) (has-cons n x (without e xs) k))
    t

-- no letter stands twice
unfoldable pub Once : List ℕ → Type 0
Once [] = Unit {0}
Once (x ∷ xs) = (T (has x xs) → ⊥) × Once xs

pub once-without : (e : ℕ) (xs : List ℕ) → Once xs → Once (without e xs)
unfolding Once without
once-without e [] o = tt
once-without e (x ∷ xs) o =
    by_cond Once (eqb e x) xs (x ∷ without e xs) (λ q. o.1) (λ q. (λ k. o.0 (has-without x e xs k), once-without e xs o.1))

pub once_more : (e : ℕ) (xs : List ℕ) → Once xs → (T (has e xs) → ⊥) → Once (xs ++ e ∷ [])
unfolding Once has
once_more e [] o h = (λ k. k, tt)
once_more e (x ∷ xs) o h = (
  λ k. ⊎_elim o.0 (λ q. h (has_here e x xs (subst (λ (y : ℕ). T (eqb e y)) (sym q) (eqb_refl e)))) (has_more x e xs k),
  once_more e xs o.1 (λ k. h (has_there e x xs k)),
)

and-false : (a : Bool) → (a && false) ≡ false
and-false true = refl
and-false false = refl

-- what stands in what was kept: it stands in the list and passes
pub has-keep : (q : ℕ → Bool) (n : ℕ) (xs : List ℕ) → has n (keep q xs) ≡ (has n xs && q n)
unfolding has keep
has-keep q n [] = refl
has-keep q n (x ∷ xs) = go (eqb n x) (q x) refl refl (has-keep q n xs)
  where
    go : (b c : Bool) → eqb n x ≡ b → q x ≡ c → has n (keep q xs) ≡ (has n xs && q n) → has n (with_if c x (keep q xs)) ≡ ((b || has n xs) && q n)
    go true true e f ih = rw e (sym (ap q (eqb-true n x e) ∙ f))
    go false true e f ih = rw (e, ih)
    go true false e f ih = rw (ih, ap q (eqb-true n x e) ∙ f) (and-false (has n xs))
    go false false e f ih = rw ih

pub keep-none : (xs : List ℕ) → keep (λ n. false) xs ≡ []
unfolding keep
keep-none [] = refl
keep-none (x ∷ xs) = keep-none xs

pub keep_same : (f g : ℕ → Bool) (xs : List ℕ) → ((n : ℕ) → T (has n xs) → f n ≡ g n) → keep f xs ≡ keep g xs
unfolding keep
keep_same f g [] h = refl
keep_same f g (x ∷ xs) h =
    rw (h x (has_here x x xs (eqb_refl x)), keep_same f g xs (λ n k. h n (has_there n x xs k)))

and-given : (a b : Bool) → T a → (a && b) ≡ b
and-given true b t = refl
and-given false b t = absurd t

pub keep-own : (q : ℕ → Bool) (xs : List ℕ) → keep (λ n. has n (keep q xs)) xs ≡ keep q xs
keep-own q xs = keep_same (λ n. has n (keep q xs)) q xs (λ n h. has-keep q n xs ∙ and-given (has n xs) (q n) h)
