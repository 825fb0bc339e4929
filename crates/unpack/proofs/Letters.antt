-- Letters that ascend stand once and are below 26; and a memory whose events are of the program is one of it exactly where it is fresh.
-- Assumes nothing.
use Prim.Native.Nat.{ℕ, zero, suc, ◌≤◌, ◌<◌}
use mathlib.Core.Bool.{Bool, true, false, not, ◌&&◌}
use mathlib.Core.List.{List, [], ◌∷◌}
use mathlib.Core.Path.{◌≡◌, sym, subst, ◌∙◌}
use native.Mathlib.Omega.{arith}
use lib.Dec.{T, eqb, eqb→eq, eqb_refl, T_not, not_T}
use lib.ListN.{length, drop, get_or}
use borrow.Author.Tests.{not-true}
use Rattle.paper.specs.Lists.{has}
use Rattle.paper.specs.Reaction.{Program}
use Rattle.paper.proofs.Equal.{and_left, and_right, and_both}
use Rattle.paper.proofs.Stays.{T_true}
use Rattle.laws.proofs.Letters.{false-not, has_here, has_there, Once}
use Rattle.laws.proofs.Reached.{Memory}
use Rattle.react.specs.States.{Ascends}
use Rattle.coding.proofs.Letters.{by-or}
use Rattle.unpack.specs.Unpacking.{fresh}

pub ascends-small : (k n : ℕ) (xs : List ℕ) → Ascends k xs → T (has n xs) → (k ≤ n) × (n < 26)
unfolding Ascends has
ascends-small k n [] a t = absurd t
ascends-small k n (x ∷ xs) a t =
    by-or (eqb n x) (has n xs) t (λ h. let e = eqb→eq n x h in (omega (arith, a.0), omega (arith, a.1.0)))
    (λ h. let r = ascends-small (suc x) n xs a.1.1 h in (omega (arith, r.0, a.0), r.1))

pub ascends-once : (k : ℕ) (xs : List ℕ) → Ascends k xs → Once xs
unfolding Ascends Once
ascends-once k [] a = tt
ascends-once k (x ∷ xs) a = (λ t. let r = ascends-small (suc x) x xs a.1.1 t in omega (arith, r.0), ascends-once (suc x) xs a.1.1)

pub has_get_d : (xs : List ℕ) (i : ℕ) → i < length xs → T (has (get_or xs i 0) xs)
has_get_d [] i h = absurd (omega arith)
has_get_d (x ∷ xs) zero h = has_here x x xs (eqb_refl x)
has_get_d (x ∷ xs) (suc i) h = has_there (get_or xs i 0) x xs (has_get_d xs i (omega arith))

-- ---- fresh

pub fresh-drop : (fs : List Bool) (k : ℕ) (m : List ℕ) → T (fresh fs m) → T (fresh fs (drop k m))
unfolding fresh
fresh-drop fs zero m t = t
fresh-drop fs (suc k) [] t = t
fresh-drop fs (suc k) (e ∷ m) t = fresh-drop fs k m (and_right (not (has e m) && not (get_or fs e false)) (fresh fs m) t)

pub fresh-cons : (fs : List Bool) (e : ℕ) (m : List ℕ) → has e m ≡ false → get_or fs e false ≡ false → fresh fs m ≡ true → fresh fs (e ∷ m) ≡ true
unfolding fresh
fresh-cons fs e m a b c = rw (a, b, c)

module _ (q : Program) (fs : List Bool) (told : (e : ℕ) → e < 26 → get_or fs e false ≡ has e q.fugitive) where
  pub fresh-memory : (m : List ℕ) → ((e : ℕ) → T (has e m) → T (has e q.events) × (e < 26)) → T (fresh fs m) → Memory q m
  unfolding fresh Once has
  fresh-memory [] h t = (tt, λ e u. absurd u)
  fresh-memory (x ∷ m) h t =
      let a = not (has x m) && not (get_or fs x false) in
      let f = and_left a (fresh fs m) t in
      let r = fresh-memory m (λ e u. h e (has_there e x m u)) (and_right a (fresh fs m) t) in
      let own = h x (has_here x x m (eqb_refl x)) in
      let no : has x q.fugitive ≡ false = sym (told x own.1) ∙ not-true (get_or fs x false) (T_true (not (get_or fs x false)) (and_right (not (has x m)) _ f)) in (
        (T_not (has x m) (and_left (not (has x m)) _ f), r.0),
        λ e u.
            by-or (eqb e x) (has e m) u
            (λ z. subst (λ (y : ℕ). T (has y q.events) × (has y q.fugitive ≡ false)) (sym (eqb→eq e x z)) (own.0, no)) (r.1 e),
      )

  pub memory-fresh : (m : List ℕ) → ((e : ℕ) → T (has e m) → e < 26) → Memory q m → T (fresh fs m)
  unfolding fresh Once
  memory-fresh [] h r = tt
  memory-fresh (x ∷ m) h r =
      let u = has_here x x m (eqb_refl x) in
      let no : get_or fs x false ≡ false = told x (h x u) ∙ (r.1 x u).1 in
      and_both (not (has x m) && not (get_or fs x false)) _
      (and_both (not (has x m)) _ (not_T (has x m) r.0.0) (not_T (get_or fs x false) (false-not (get_or fs x false) no)))
      (memory-fresh m (λ e t. h e (has_there e x m t)) (r.0.1, λ e t. r.1 e (has_there e x m t)))
