-- Exactly one number applies, in document 01's order: "Order: 1, 2, then line by line 3 to 6, then 7 to 18 in turn, each over the whole file."
-- The checks of a program are a list (`checks`), and the answer is the first of them whose condition holds, or the program where none does
-- (`programmed-first`, `first-refuses`, `first-accepts`). Assumes nothing.
use Prim.Native.Nat.{ℕ}
use mathlib.Core.Path.{◌≡◌, refl, ap, ◌∙◌}
use mathlib.Core.List.{List, [], ◌∷◌}
use mathlib.Core.Logic.{◌↔◌}
use mathlib.Core.Option.{Option, none, some}
use Rattle.paper.specs.Bytes.{is_module, is_event}
use Rattle.paper.specs.Grammar.{Sequence, event_byte}
use Rattle.paper.specs.Parse.{program}
use Rattle.paper.specs.File.{Answer, refused, accepted, unless, Value, Read, letters_of}
use Rattle.paper.specs.Limits.{over96, too_deep, too_starred, unlisted, unused, ninth, shared_module, shared_event, braces_joined}
use Rattle.paper.specs.Refusals.{Edition, basic, adaptive, ascending, fugitive_text, line_of, program_of, for_edition, within_limits, with_letters, programmed}
use Rattle.paper.proofs.Choices.{clash}

-- a number, and the place where its condition holds
pub record Check : Type 0 where
  pub number : ℕ
  pub place : Option ℕ

abbrev pub check : ℕ → Option ℕ → Check
check n o = record { number = n; place = o }

-- the checks of a program's text v and tree s, in order
abbrev pub adaptive_checks : Read → ℕ → List ℕ → Sequence → List Check → List Check
adaptive_checks r at v s more =
    check 9 (over96 at v)
    ∷ check 9 (too_deep at v)
    ∷ check 9 (too_starred at s)
    ∷ check 10 (unlisted (letters_of r.listed) at v)
    ∷ check 11 (unused v r.listed)
    ∷ check 12 (ninth is_module at v)
    ∷ check 12 (ninth is_event at v)
    ∷ check 13 (shared_module at s)
    ∷ check 14 (shared_event (ascending event_byte (fugitive_text r.fugitive)) at s)
    ∷ more

abbrev pub checks : Edition → Read → ℕ → List ℕ → Sequence → List Check
checks adaptive r at v s = adaptive_checks r at v s []
checks basic r at v s = adaptive_checks r at v s (check 15 (line_of r.fugitive) ∷ check 16 (braces_joined at s) ∷ [])

-- the first check whose condition holds
unfoldable pub first : {A : Type 0} → List Check → A → Answer A
first [] a = accepted a
first (c ∷ cs) a = unless c.place c.number (first cs a)

pub programmed-first : (e : Edition) (r : Read) (v : Value) (s : Sequence) → programmed e r v (program s) ≡ first (checks e r v.at v.is s) (program_of r v.is s)
unfolding programmed within_limits with_letters for_edition first
programmed-first basic r v s = refl
programmed-first adaptive r v s = refl

-- no condition of the list holds
unfoldable pub Clear : List Check → Type 0
Clear [] = Unit {0}
Clear (c ∷ cs) = (c.place ≡ none) × Clear cs

-- one does, at the place p, and none before it
pub data Refuses (n p : ℕ) : List Check → Type 0 where
  now : {c : Check} {cs : List Check} → c.number ≡ n → c.place ≡ some p → Refuses n p (c ∷ cs)
  later : {c : Check} {cs : List Check} → c.place ≡ none → Refuses n p cs → Refuses n p (c ∷ cs)

refused-to : {A : Type 0} (a : A) (n p : ℕ) (cs : List Check) → first cs a ≡ refused n p → Refuses n p cs
unfolding first
refused-to a n p [] e = clash (cc)
refused-to a n p (c ∷ cs) e = go c.place refl e (λ h. refused-to a n p cs h)
  where
    go : (o : Option ℕ) → c.place ≡ o → unless o c.number (first cs a) ≡ refused n p → (first cs a ≡ refused n p → Refuses n p cs) → Refuses n p (c ∷ cs)
    go none q h ih = later q (ih h)
    go (some k) q h ih = let x : c.number ≡ n = cc in let y : k ≡ p = cc in now {c = c} x (q ∙ ap some y)

to-refused : {A : Type 0} (a : A) (n p : ℕ) (cs : List Check) → Refuses n p cs → first cs a ≡ refused n p
unfolding first
to-refused a n p cs (now {c = c} {cs = more} x y) = ap (λ (o : Option ℕ). unless o c.number (first more a)) y ∙ ap (λ (k : ℕ). refused k p) x
to-refused a n p cs (later {c = c} {cs = more} x r) = ap (λ (o : Option ℕ). unless o c.number (first more a)) x ∙ to-refused a n p more r

-- refused by n at p: its check is the first whose condition holds, and holds at p
pub first-refuses : {A : Type 0} (a : A) (n p : ℕ) (cs : List Check) → (first cs a ≡ refused n p) ↔ Refuses n p cs
first-refuses a n p cs = (refused-to a n p cs, to-refused a n p cs)

accepted-to : {A : Type 0} (a b : A) (cs : List Check) → first cs a ≡ accepted b → Clear cs × (a ≡ b)
unfolding first Clear
accepted-to a b [] e = (tt, cc)
accepted-to a b (c ∷ cs) e = go c.place refl e (λ h. accepted-to a b cs h)
  where
    go : (o : Option ℕ) → c.place ≡ o → unless o c.number (first cs a) ≡ accepted b → (first cs a ≡ accepted b → Clear cs × (a ≡ b)) → Clear (c ∷ cs) × (a ≡ b)
    go none q h ih = let k = ih h in ((q, k.0), k.1)
    go (some p) q h ih = clash (cc)

to-accepted : {A : Type 0} (a : A) (cs : List Check) → Clear cs → first cs a ≡ accepted a
unfolding first Clear
to-accepted a [] h = refl
to-accepted a (c ∷ cs) h = ap (λ (o : Option ℕ). unless o c.number (first cs a)) h.0 ∙ to-accepted a cs h.1

-- accepted: no condition holds
pub first-accepts : {A : Type 0} (a b : A) (cs : List Check) → (first cs a ≡ accepted b) ↔ (Clear cs × (a ≡ b))
first-accepts a b cs = (accepted-to a b cs, λ h. to-accepted a cs h.0 ∙ ap accepted h.1)
