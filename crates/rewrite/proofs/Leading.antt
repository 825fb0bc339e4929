-- The first armed event of a list, found by a count from its front, is the oldest that settling serves; and what is left without it.
-- Each place before the first armed event holds one that is not armed, so the first place of that event is this one. Assumes nothing.
use Prim.Native.Nat.{ℕ, suc, ◌+◌, ◌≤◌, ◌<◌}
use mathlib.Core.Bool.{Bool, true, false, cond, ◌||◌}
use mathlib.Core.List.{List, [], ◌∷◌}
use mathlib.Core.Option.{none, some}
use mathlib.Core.Path.{◌≡◌, refl, ap, sym, ◌∙◌}
use native.Mathlib.Numerals.{add-one}
use native.Mathlib.Omega.{arith}
use lib.Dec.{eqb}
use lib.ListN.{get_or, length, drop, take, length-take, drop_of_length-le}
use lib.Seq.{drop-cons, get_or-take}
use borrow.Author.Tests.{eq-eqb, ne_eqb}
use Rattle.paper.specs.Term.{Term}
use Rattle.paper.specs.Lists.{without}
use Rattle.paper.specs.Running.{armed}
use Rattle.paper.specs.Settling.{oldest}
use Rattle.words.specs.Word.{any_armed}
use Rattle.words.proofs.Marks.{clash}
use Rattle.rewrite.specs.Stored.{lead, removed}

-- ## the loop that counts

-- the stored events from place k on
pub stored-cons : (ev : List ℕ) (n k : ℕ) → k < n → n ≤ length ev → drop k (take n ev) ≡ get_or ev k 0 ∷ drop (k + 1) (take n ev)
stored-cons ev n k h l =
    let i : k < length (take n ev) = simp length-take (omega arith) in
    drop-cons (take n ev) k 0 i ∙ ap (λ (x : ℕ). x ∷ drop (suc k) (take n ev)) (get_or-take n ev k 0 h) ∙ ap (λ (m : ℕ). get_or ev k 0 ∷ drop m (take n ev)) (sym (add-one k))

module _ (ts : List Term) (ev : List ℕ) (n k : ℕ) (h : k < n) (l : n ≤ length ev) where
  pub lead-here : {v : Bool} → v ≡ any_armed (get_or ev k 0) ts → v ≡ true → lead ts (take n ev) ≡ k + lead ts (drop k (take n ev)) → k ≡ lead ts (take n ev)
  unfolding lead
  lead-here a t q =
      let z : lead ts (drop k (take n ev)) ≡ 0 = rw (stored-cons ev n k h l, sym a ∙ t) in omega (arith, q, z)

  pub lead-on : {v : Bool} → v ≡ any_armed (get_or ev k 0) ts → v ≡ false → lead ts (take n ev) ≡ k + lead ts (drop k (take n ev)) → lead ts (take n ev) ≡ k + 1 + lead ts (drop (k + 1) (take n ev))
  unfolding lead
  lead-on a t q =
      let z : lead ts (drop k (take n ev)) ≡ suc (lead ts (drop (k + 1) (take n ev))) = rw (stored-cons ev n k h l, sym a ∙ t) in omega (arith, q, z)

pub lead-none : (ts : List Term) (ev : List ℕ) (n k : ℕ) → k ≤ n → n ≤ k → n ≤ length ev → lead ts (take n ev) ≡ k + lead ts (drop k (take n ev)) → n ≡ lead ts (take n ev)
unfolding lead
lead-none ts ev n k h g l q =
    let e : drop k (take n ev) ≡ [] = drop_of_length-le (take n ev) {i = k} (simp length-take (omega arith)) in
    let z : lead ts (drop k (take n ev)) ≡ 0 = rw e in
    omega (arith, q, z)

pub lead-start : (ts : List Term) (m : List ℕ) → lead ts m ≡ 0 + lead ts (drop 0 m)
lead-start ts m = omega arith

-- ## the place that it finds

pub lead-most : (ts : List Term) (m : List ℕ) → lead ts m ≤ length m
unfolding lead
lead-most ts [] = omega arith
lead-most ts (e ∷ m) = go (any_armed e ts) (lead-most ts m)
  where
    go : (b : Bool) → lead ts m ≤ length m → cond b 0 (suc (lead ts m)) ≤ suc (length m)
    go true ih = omega arith
    go false ih = omega arith

-- the event there is armed
lead-armed : (ts : List Term) (m : List ℕ) → lead ts m < length m → any_armed (get_or m (lead ts m) 0) ts ≡ true
unfolding lead
lead-armed ts [] h = absurd (omega arith)
lead-armed ts (e ∷ m) h = go (any_armed e ts) refl (λ l. lead-armed ts m l) h
  where
    go : (b : Bool) → any_armed e ts ≡ b → (lead ts m < length m → any_armed (get_or m (lead ts m) 0) ts ≡ true) → cond b 0 (suc (lead ts m)) < suc (length m) → any_armed (get_or (e ∷ m) (cond b 0 (suc (lead ts m))) 0) ts ≡ true
    go true q ih k = q
    go false q ih k = ih (omega arith)

-- an armed event is not one that is not armed
armed-apart : (ts : List Term) (e f : ℕ) → any_armed e ts ≡ true → any_armed f ts ≡ false → e ≡ f → ⊥
armed-apart ts e f p q z = clash cc

-- so it leaves by its place as it does by its name
pub removed-without : (ts : List Term) (m : List ℕ) → lead ts m < length m → removed (lead ts m) m ≡ without (get_or m (lead ts m) 0) m
unfolding lead removed without
removed-without ts [] h = absurd (omega arith)
removed-without ts (e ∷ m) h = go (any_armed e ts) refl (λ l. removed-without ts m l) h
  where
    go : (b : Bool) → any_armed e ts ≡ b → (lead ts m < length m → removed (lead ts m) m ≡ without (get_or m (lead ts m) 0) m) → cond b 0 (suc (lead ts m)) < suc (length m) → removed (cond b 0 (suc (lead ts m))) (e ∷ m) ≡ cond (eqb (get_or (e ∷ m) (cond b 0 (suc (lead ts m))) 0) e) m (e ∷ without (get_or (e ∷ m) (cond b 0 (suc (lead ts m))) 0) m)
    go true q ih k = rw (eq-eqb e e refl)
    go false q ih k =
        let l : lead ts m < length m = omega arith in
        rw (ne_eqb (get_or m (lead ts m) 0) e (armed-apart ts (get_or m (lead ts m) 0) e (lead-armed ts m l) q)) (ap (λ (x : List ℕ). e ∷ x) (ih l))

pub oldest-some : (t : Term) (m : List ℕ) → lead (t ∷ []) m < length m → oldest t m ≡ some (get_or m (lead (t ∷ []) m) 0)
unfolding lead oldest any_armed
oldest-some t [] h = absurd (omega arith)
oldest-some t (e ∷ m) h = go (armed e t) (λ l. oldest-some t m l) h
  where
    go : (b : Bool) → (lead (t ∷ []) m < length m → oldest t m ≡ some (get_or m (lead (t ∷ []) m) 0)) → cond (b || false) 0 (suc (lead (t ∷ []) m)) < suc (length m) → cond b (some e) (oldest t m) ≡ some (get_or (e ∷ m) (cond (b || false) 0 (suc (lead (t ∷ []) m))) 0)
    go true ih k = refl
    go false ih k = ih (omega arith)

pub oldest-none : (t : Term) (m : List ℕ) → length m ≤ lead (t ∷ []) m → oldest t m ≡ none
unfolding lead oldest any_armed
oldest-none t [] h = refl
oldest-none t (e ∷ m) h = go (armed e t) (λ l. oldest-none t m l) h
  where
    go : (b : Bool) → (length m ≤ lead (t ∷ []) m → oldest t m ≡ none) → suc (length m) ≤ cond (b || false) 0 (suc (lead (t ∷ []) m)) → cond b (some e) (oldest t m) ≡ none
    go true ih k = absurd (omega arith)
    go false ih k = ih (omega arith)
