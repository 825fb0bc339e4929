-- Letters: which bytes are the program's. A name stands in a list from the first place on as it does from place i on, until it stands there.
-- Assumes nothing.
use Prim.Native.Nat.{ℕ, suc, ◌+◌, ◌-◌, ◌≤◌, ◌<◌}
use mathlib.Core.Path.{◌≡◌, refl, sym, ap, subst, ◌∙◌}
use mathlib.Core.Bool.{Bool, true, false, cond, ◌&&◌, ◌||◌}
use mathlib.Core.List.{List, [], ◌∷◌, ◌++◌, map}
use mathlib.Core.Logic.{⊎_elim}
use mathlib.Core.Option.{none, some}
use native.Mathlib.Omega.{arith}
use lib.Dec.{T, eqb, leb}
use lib.ListN.{length, get_or, drop, drop_of_length-le}
use lib.Seq.{drop-cons}
use borrow.Author.Tests.{eqb-true, eq-eqb, ne_eqb, leb-true, lt-leb}
use Rattle.paper.specs.Lists.{has}
use Rattle.paper.specs.Bytes.{is_module, is_event}
use Rattle.paper.specs.Rewriting.{Letter, completion, occurrence}
use Rattle.paper.specs.Reaction.{Program}
use Rattle.paper.specs.Discovery.{Among, here, there, letters}
use Rattle.paper.specs.Calls.{letter_of}
use Rattle.laws.proofs.Reached.{among-cons}
use Rattle.rewrite.specs.declared.Letter.{Letter as Named}
use Rattle.rewrite.specs.declared.Letter.TheVariants.{Completion, Occurrence}
use Rattle.rewrite.specs.Steps.{letter_of as argument}
use Rattle.engine.specs.Live.{Letters}

module _ (xs : List ℕ) (n i : ℕ) (h : i < length xs) where
  has_one : has n (drop i xs) ≡ (eqb n (get_or xs i 0) || has n (drop (i + 1) xs))
  unfolding has
  has_one =
      let e : suc i ≡ i + 1 = omega arith in
      ap (has n) (drop-cons xs i 0 h) ∙ ap (λ (k : ℕ). eqb n (get_or xs i 0) || has n (drop k xs)) e

  pub has_here : n ≡ get_or xs i 0 → has n (drop i xs) ≡ true
  has_here q = has_one ∙ ap (λ (t : Bool). t || has n (drop (i + 1) xs)) (eq-eqb n (get_or xs i 0) q)

  pub has_on : (n ≡ get_or xs i 0 → ⊥) → has n (drop i xs) ≡ has n (drop (i + 1) xs)
  has_on q = has_one ∙ ap (λ (t : Bool). t || has n (drop (i + 1) xs)) (ne_eqb n (get_or xs i 0) q)

pub has_end : (xs : List ℕ) (n i : ℕ) → length xs ≤ i → has n (drop i xs) ≡ false
unfolding has
has_end xs n i h = ap (has n) (drop_of_length-le xs {i = i} h)

pub module-low : (b : ℕ) → is_module b ≡ true → 97 ≤ b
module-low b h = by-test (leb 97 b) (leb b 122) refl h
  where
    by-test : (s t : Bool) → leb 97 b ≡ s → (s && t) ≡ true → 97 ≤ b
    by-test true t e k = leb-true 97 b e
    by-test false t e k = absurd (let o : ◌≡◌ {A = ℕ} 0 1 = cc in omega arith)

pub event-low : (b : ℕ) → is_event b ≡ true → 65 ≤ b
event-low b h = by-test (leb 65 b) (leb b 90) refl h
  where
    by-test : (s t : Bool) → leb 65 b ≡ s → (s && t) ≡ true → 65 ≤ b
    by-test true t e k = leb-true 65 b e
    by-test false t e k = absurd (let o : ◌≡◌ {A = ℕ} 0 1 = cc in omega arith)

no-event : (b : ℕ) → is_module b ≡ true → is_event b ≡ false
no-event b h =
    let l = module-low b h in
    ap (λ (t : Bool). leb 65 b && t) (lt-leb b 90 (omega arith)) ∙ and-false (leb 65 b)
  where
    and-false : (t : Bool) → (t && false) ≡ false
    and-false true = refl
    and-false false = refl

-- ---- the letter of a byte

module _ (q : Program) (ms es : List ℕ) (l : Letters q ms es) (b : ℕ) where
  -- by its two tests
  letter-by : (s t : Bool) → (is_module b && has (b - 97) ms) ≡ s → (is_event b && has (b - 65) es) ≡ t → letter_of q b ≡ cond s (some (completion (b - 97))) (cond t (some (occurrence (b - 65))) none)
  unfolding letter_of
  letter-by s t e d =
      ap (λ (x : Bool). cond x (some (completion (b - 97))) (cond (is_event b && has (b - 65) q.events) (some (occurrence (b - 65))) none))
      (ap (λ (xs : List ℕ). is_module b && has (b - 97) xs) l.modules_are ∙ e)
      ∙ ap (λ (x : Bool). cond s (some (completion (b - 97))) (cond x (some (occurrence (b - 65))) none))
      (ap (λ (xs : List ℕ). is_event b && has (b - 65) xs) l.events_are ∙ d)

  both : (x y a c : Bool) → x ≡ a → y ≡ c → (x && y) ≡ (a && c)
  both x y a c e d = ap (λ (t : Bool). t && y) e ∙ ap (λ (t : Bool). a && t) d

  pub letter-module : is_module b ≡ true → has (b - 97) ms ≡ true → some (completion (b - 97)) ≡ letter_of q b
  letter-module e d =
      sym (letter-by true false (both _ _ true true e d) (both _ _ false (has (b - 65) es) (no-event b e) refl))

  pub letter-no-module : is_module b ≡ true → has (b - 97) ms ≡ false → none ≡ letter_of q b
  letter-no-module e d =
      sym (letter-by false false (both _ _ true false e d) (both _ _ false (has (b - 65) es) (no-event b e) refl))

  pub letter-event : is_module b ≡ false → is_event b ≡ true → has (b - 65) es ≡ true → some (occurrence (b - 65)) ≡ letter_of q b
  letter-event m e d = sym (letter-by false true (both _ _ false (has (b - 97) ms) m refl) (both _ _ true true e d))

  pub letter-no-event : is_module b ≡ false → is_event b ≡ true → has (b - 65) es ≡ false → none ≡ letter_of q b
  letter-no-event m e d = sym (letter-by false false (both _ _ false (has (b - 97) ms) m refl) (both _ _ true false e d))

  pub letter-other : is_module b ≡ false → is_event b ≡ false → none ≡ letter_of q b
  letter-other m e = sym (letter-by false false (both _ _ false (has (b - 97) ms) m refl) (both _ _ false (has (b - 65) es) e refl))

-- ---- a letter of the program

module-among : (m : ℕ) (ms : List ℕ) (ls : List Letter) → T (has m ms) → Among (completion m) (map (λ x. completion x) ms ++ ls)
unfolding has
module-among m [] ls t = absurd t
module-among m (x ∷ ms) ls t = by-head (eqb m x) refl t (λ k. module-among m ms ls k)
  where
    by-head : (b : Bool) → eqb m x ≡ b → T (b || has m ms) → (T (has m ms) → Among (completion m) (map (λ y. completion y) ms ++ ls)) → Among (completion m) (completion x ∷ (map (λ y. completion y) ms ++ ls))
    by-head true e k f = subst (λ (y : ℕ). Among (completion m) (completion y ∷ (map (λ z. completion z) ms ++ ls))) (eqb-true m x e) here
    by-head false e k f = there (f k)

event-among : (e : ℕ) (es : List ℕ) → T (has e es) → Among (occurrence e) (map (λ x. occurrence x) es)
unfolding has
event-among e [] t = absurd t
event-among e (x ∷ es) t = by-head (eqb e x) refl t (λ k. event-among e es k)
  where
    by-head : (b : Bool) → eqb e x ≡ b → T (b || has e es) → (T (has e es) → Among (occurrence e) (map (λ y. occurrence y) es)) → Among (occurrence e) (occurrence x ∷ map (λ y. occurrence y) es)
    by-head true d k f = subst (λ (y : ℕ). Among (occurrence e) (occurrence y ∷ map (λ z. occurrence z) es)) (eqb-true e x d) here
    by-head false d k f = there (f k)

behind : (l : Letter) (ks ls : List Letter) → Among l ls → Among l (ks ++ ls)
behind l [] ls a = a
behind l (k ∷ ks) ls a = there (behind l ks ls a)

and_second : (a b : Bool) → (a && b) ≡ true → T b
and_second true true e = tt
and_second true false e = absurd (let o : ◌≡◌ {A = ℕ} 0 1 = cc in omega arith)
and_second false b e = absurd (let o : ◌≡◌ {A = ℕ} 0 1 = cc in omega arith)

pub letter-among : (q : Program) (b : ℕ) (l : Letter) → some l ≡ letter_of q b → Among l (letters q)
unfolding letter_of letters
letter-among q b l h = by_tests (is_module b && has (b - 97) q.modules) (is_event b && has (b - 65) q.events) refl refl h
  where
    by_tests : (s t : Bool) → (is_module b && has (b - 97) q.modules) ≡ s → (is_event b && has (b - 65) q.events) ≡ t → some l ≡ cond s (some (completion (b - 97))) (cond t (some (occurrence (b - 65))) none) → Among l (map (λ m. completion m) q.modules ++ map (λ e. occurrence e) q.events)
    by_tests true t e d k =
        let z : completion (b - 97) ≡ l = cc in
        subst (λ (x : Letter). Among x (map (λ m. completion m) q.modules ++ map (λ y. occurrence y) q.events)) z
        (module-among (b - 97) q.modules (map (λ y. occurrence y) q.events) (and_second (is_module b) (has (b - 97) q.modules) e))
    by_tests false true e d k =
        let z : occurrence (b - 65) ≡ l = cc in
        subst (λ (x : Letter). Among x (map (λ m. completion m) q.modules ++ map (λ y. occurrence y) q.events)) z
        (behind (occurrence (b - 65)) (map (λ m. completion m) q.modules) (map (λ y. occurrence y) q.events) (event-among (b - 65) q.events (and_second (is_event b) (has (b - 65) q.events) d)))
    by_tests false false e d k = absurd (let o : ◌≡◌ {A = ℕ} 0 1 = cc in omega arith)

none-among : (l : Letter) (ls : List Letter) → ls ≡ [] → Among l ls → ⊥
none-among l ls e (here {ls = ks}) = let o : ◌≡◌ {A = ℕ} 0 1 = cc in omega arith
none-among l ls e (there {k = k} {ls = ks} a) = let o : ◌≡◌ {A = ℕ} 0 1 = cc in omega arith

no-completion : (m : ℕ) (es : List ℕ) → Among (completion m) (map (λ x. occurrence x) es) → ⊥
no-completion m [] a = none-among (completion m) [] refl a
no-completion m (x ∷ es) a =
    ⊎_elim (λ (h : completion m ≡ occurrence x). let o : ◌≡◌ {A = ℕ} 0 1 = cc in omega arith) (λ h. no-completion m es h)
    (among-cons (completion m) (occurrence x) (map (λ y. occurrence y) es) a)

pub among-module : (m : ℕ) (ms es : List ℕ) → Among (completion m) (map (λ x. completion x) ms ++ map (λ x. occurrence x) es) → T (has m ms)
unfolding has
among-module m [] es a = absurd (no-completion m es a)
among-module m (x ∷ ms) es a =
    ⊎_elim (λ (h : completion m ≡ completion x). let z : m ≡ x = cc in has-here-first z) (λ h. has-later (among-module m ms es h))
    (among-cons (completion m) (completion x) (map (λ y. completion y) ms ++ map (λ y. occurrence y) es) a)
  where
    has-here-first : m ≡ x → T (eqb m x || has m ms)
    has-here-first z = subst (λ (t : Bool). T (t || has m ms)) (sym (eq-eqb m x z)) tt

    has-later : T (has m ms) → T (eqb m x || has m ms)
    has-later k = by_first (eqb m x)
      where
        by_first : (t : Bool) → T (t || has m ms)
        by_first true = tt
        by_first false = k

-- ---- the letter that an argument names

pub not-both : {A : Type 0} (l : Named) (m e : ℕ) → l ≡ Completion m → argument l ≡ occurrence e → A
not-both l m e p k =
    let z : completion m ≡ occurrence e = sym (ap argument p) ∙ k in absurd (let o : ◌≡◌ {A = ℕ} 0 1 = cc in omega arith)

pub same-event : (l : Named) (d e : ℕ) → l ≡ Occurrence d → argument l ≡ occurrence e → d ≡ e
same-event l d e p k = let z : occurrence d ≡ occurrence e = sym (ap argument p) ∙ k in cc
