-- A byte is the same letter to either edition: where it stands among the bytes of the table's letters, and what the live engine takes it for
-- (`letters-alike`). Both read names from 0 on, modules behind byte 97 and events behind byte 65, and no name is above 25. Assumes nothing.
use Prim.Native.Nat.{ℕ, suc, ◌+◌, ◌-◌, ◌≤◌, ◌<◌}
use mathlib.Core.Path.{◌≡◌, refl, sym, ap, subst, ◌∙◌}
use mathlib.Core.Bool.{Bool, true, false, cond, ◌&&◌, ◌||◌}
use mathlib.Core.List.{List, [], ◌∷◌, ◌++◌, map, append-nil}
use mathlib.Core.Option.{Option, none, some}
use native.Mathlib.Omega.{arith}
use lib.Dec.{eqb, leb}
use lib.ListN.{length, get_or}
use borrow.Author.Tests.{eqb-true, eqb-false, leb-true, eq-eqb, ne_eqb, le-leb}
use Rattle.paper.specs.Lists.{has}
use Rattle.paper.specs.Grammar.{event_byte}
use Rattle.paper.specs.Rewriting.{Letter, completion, occurrence}
use Rattle.paper.specs.Reaction.{Program}
use Rattle.paper.specs.Discovery.{letters}
use Rattle.paper.specs.Calls.{index_from, letter_bytes, letter_of}
use Rattle.paper.proofs.Choices.{clash}
use Rattle.layout.specs.InRange.{Ascending}
use Rattle.layout.proofs.Ranged.{letters-length, module-letter, event-letter}
use Rattle.compiler.specs.Demand.{letter_by_place}

-- ---- names behind a byte w

-- b is the byte of one of the names
abbrev is_name : (w b : ℕ) → List ℕ → Bool
is_name w b ns = (leb w b && leb b (w + 25)) && has (b - w) ns

-- it stands among their bytes, at the place of its name
record Place (w i b : ℕ) (ns rest : List ℕ) : Type 0 where
  k : ℕ
  found : index_from i b (map (λ n. w + n) ns ++ rest) ≡ some (i + k)
  below : k < length ns
  name : get_or ns k 0 ≡ b - w

-- not the first name's byte: it is one of the others', or none's
name-later : (w b n : ℕ) (ns : List ℕ) → (b ≡ w + n → ⊥) → is_name w b (n ∷ ns) ≡ is_name w b ns
unfolding has
name-later w b n ns d = by (leb w b) refl
  where
    by : (x : Bool) → leb w b ≡ x → ((leb w b && leb b (w + 25)) && (eqb (b - w) n || has (b - w) ns)) ≡ ((leb w b && leb b (w + 25)) && has (b - w) ns)
    by true e =
        let l = leb-true w b e in
        ap (λ (t : Bool). (leb w b && leb b (w + 25)) && (t || has (b - w) ns)) (ne_eqb (b - w) n (λ q. d (omega arith)))
    by false e = rw e

first-name : (w b n : ℕ) (ns : List ℕ) → b ≡ w + n → n ≤ 25 → is_name w b (n ∷ ns) ≡ true
unfolding has
first-name w b n ns e h =
    rw (le-leb w b (omega arith), le-leb b (w + 25) (omega arith), eq-eqb (b - w) n (omega arith))

index-found : (w i b : ℕ) (ns rest : List ℕ) → is_name w b ns ≡ true → Place w i b ns rest
unfolding index_from has
index-found w i b [] rest h = clash (let z = and_no (leb w b && leb b (w + 25)) in cc)
  where
    and_no : (x : Bool) → (x && false) ≡ false
    and_no true = refl
    and_no false = refl
index-found w i b (n ∷ ns) rest h = by (eqb b (w + n)) refl (λ d. index-found w (i + 1) b ns rest (sym (name-later w b n ns d) ∙ h))
  where
    by : (x : Bool) → eqb b (w + n) ≡ x → ((b ≡ w + n → ⊥) → Place w (i + 1) b ns rest) → Place w i b (n ∷ ns) rest
    by true e f =
        let o = eqb-true b (w + n) e in
        let z : i ≡ i + 0 = omega arith in
        record { k = 0; found = rw e (ap some z); below = omega arith; name = omega arith }
    by false e f =
        let p = f (eqb-false b (w + n) e) in
        let z : i + 1 + p.k ≡ i + suc p.k = omega arith in
        record { k = suc p.k; found = rw e (p.found ∙ ap some z); below = omega (arith, p.below); name = p.name }

index-missing : (w i b : ℕ) (ns rest : List ℕ) → ((k : ℕ) → k < length ns → get_or ns k 0 ≤ 25) → is_name w b ns ≡ false
    → index_from i b (map (λ n. w + n) ns ++ rest) ≡ index_from (i + length ns) b rest
unfolding index_from
index-missing w i b [] rest s h = let z : i ≡ i + 0 = omega arith in ap (λ (k : ℕ). index_from k b rest) z
index-missing w i b (n ∷ ns) rest s h =
    by (eqb b (w + n)) refl (λ d. index-missing w (i + 1) b ns rest (λ k q. s (suc k) (omega arith)) (sym (name-later w b n ns d) ∙ h))
  where
    by : (x : Bool) → eqb b (w + n) ≡ x
        → ((b ≡ w + n → ⊥) → index_from (i + 1) b (map (λ n. w + n) ns ++ rest) ≡ index_from (i + 1 + length ns) b rest)
        → cond (eqb b (w + n)) (some i) (index_from (i + 1) b (map (λ n. w + n) ns ++ rest)) ≡ index_from (i + suc (length ns)) b rest
    by true e f = clash (let z = first-name w b n ns (eqb-true b (w + n) e) (s 0 (omega arith)) in cc)
    by false e f =
        let z : i + 1 + length ns ≡ i + suc (length ns) = omega arith in
        rw e (f (eqb-false b (w + n) e) ∙ ap (λ (k : ℕ). index_from k b rest) z)

-- ---- the letters of a program

-- no letter to either, or the l-th letter to the table and the same to the live engine
pub data Same (q : Program) : Option ℕ → Option Letter → Type 0 where
  neither : Same q none none
  both : (l : ℕ) → l < length (letters q) → Same q (some l) (some (letter_by_place q l))

module _ (q : Program) (b : ℕ) where
  -- no module: the search goes on among the events
  past-modules : is_name 97 b q.modules ≡ false → Ascending q.modules
      → index_from 0 b (letter_bytes q.modules q.events) ≡ index_from (length q.modules) b (map event_byte q.events ++ [])
  unfolding letter_bytes
  past-modules h a =
      let z : 0 + length q.modules ≡ length q.modules = omega arith in
      index-missing 97 0 b q.modules (map event_byte q.events) a.small h
      ∙ (ap (λ (k : ℕ). index_from k b (map event_byte q.events)) z ∙ ap (index_from (length q.modules) b) (sym (append-nil (map event_byte q.events))))

  a-module : Place 97 0 b q.modules (map event_byte q.events) → Same q (index_from 0 b (letter_bytes q.modules q.events)) (some (completion (b - 97)))
  unfolding letter_bytes
  a-module p =
      let l = p.below in
      let z : 0 + p.k ≡ p.k = omega arith in
      let e : letter_by_place q p.k ≡ completion (b - 97) = module-letter q p.k (completion 0) p.below ∙ ap (λ (m : ℕ). completion m) p.name in
      rw (p.found, z) (subst (λ (x : Letter). Same q (some p.k) (some x)) e (both p.k (omega (arith, letters-length q))))

  an-event : is_name 97 b q.modules ≡ false → Ascending q.modules → Place 65 (length q.modules) b q.events [] → Same q (index_from 0 b (letter_bytes q.modules q.events)) (some (occurrence (b - 65)))
  an-event h a p =
      let l = p.below in
      let k : ℕ = length q.modules + p.k in
      let e : letter_by_place q k ≡ occurrence (b - 65) = event-letter q p.k (completion 0) p.below ∙ ap (λ (m : ℕ). occurrence m) p.name in
      rw (past-modules h a ∙ p.found) (subst (λ (x : Letter). Same q (some k) (some x)) e (both k (omega (arith, letters-length q))))

  no_letter : is_name 97 b q.modules ≡ false → is_name 65 b q.events ≡ false → Ascending q.modules → Ascending q.events
      → index_from 0 b (letter_bytes q.modules q.events) ≡ none
  unfolding index_from
  no_letter h k a c = past-modules h a ∙ index-missing 65 (length q.modules) b q.events [] c.small k

  pub letters-alike : Ascending q.modules → Ascending q.events → Same q (index_from 0 b (letter_bytes q.modules q.events)) (letter_of q b)
  unfolding letter_of
  letters-alike a c = by (is_name 97 b q.modules) (is_name 65 b q.events) refl refl
    where
      by : (x y : Bool) → is_name 97 b q.modules ≡ x → is_name 65 b q.events ≡ y → Same q (index_from 0 b (letter_bytes q.modules q.events)) (letter_of q b)
      by true y h k = rw h (a-module (index-found 97 0 b q.modules (map event_byte q.events) h))
      by false true h k = rw (h, k) (an-event h a (index-found 65 (length q.modules) b q.events [] k))
      by false false h k = rw (h, k, no_letter h k a c) neither
