-- An event list, read letter by letter with marks for the letters heard before, is wrong at the paper's `wrong_letter`.
-- `wrong_letter` puts each letter in front of those before it, the file lists them in its order: the marks are the same, since both have the same
-- letters (`heard-has`). Assumes nothing.
use Prim.Native.Nat.{ℕ, ◌+◌, ◌-◌, ◌≤◌, ◌<◌}
use mathlib.Core.Path.{◌≡◌, refl, ap, sym, subst, ◌∙◌}
use mathlib.Core.Bool.{Bool, true, false, cond, not, ◌&&◌, ◌||◌}
use mathlib.Core.List.{List, [], ◌∷◌, ◌++◌}
use mathlib.Core.Option.{some}
use native.Mathlib.Omega.{arith}
use lib.Dec.{eqb, leb}
use lib.ListN.{length, get_or, set, length-set}
use lib.Seq.{get_or-set_same, get_or-set_other}
use borrow.Author.Tests.{eqb-true, eqb-false, leb-true}
use Rattle.paper.specs.Lists.{has}
use Rattle.paper.specs.Bytes.{is_event}
use Rattle.paper.specs.File.{listed_from, letters_of, wrong_letter}
use Rattle.paper.proofs.Choices.{clash}
use Rattle.text.specs.Spans.{part}
use Rattle.text.specs.Steps.{Marks, Lists}
use Rattle.text.specs.declared.Listing.TheVariants.{Wrong, Fine}
use Rattle.text.proofs.Parts.{part_none, part-more, part-cons}

and-true : (a b : Bool) → (a && b) ≡ true → (a ≡ true) × (b ≡ true)
and-true true b h = (refl, h)
and-true false b h = clash (cc)

-- an event letter is A to Z
pub is_event-low : (b : ℕ) → is_event b ≡ true → 65 ≤ b
is_event-low b h = leb-true 65 b (and-true (leb 65 b) (leb b 90) h).0

pub is_event-high : (b : ℕ) → is_event b ≡ true → b ≤ 90
is_event-high b h = leb-true b 90 (and-true (leb 65 b) (leb b 90) h).1

-- the letters before, and those of the bytes in front of them as `wrong_letter` puts them
unfoldable pub heard : List ℕ → List ℕ → List ℕ
heard before [] = before
heard before (b ∷ bs) = heard ((b - 65) ∷ before) bs

heard-more : (before bs : List ℕ) (b : ℕ) → heard before (bs ++ (b ∷ [])) ≡ (b - 65) ∷ heard before bs
unfolding heard
heard-more before [] b = refl
heard-more before (x ∷ bs) b = heard-more ((x - 65) ∷ before) bs b

or-front : (a b c : Bool) → (a || (b || c)) ≡ (b || (a || c))
or-front true true c = refl
or-front true false c = refl
or-front false true c = refl
or-front false false c = refl

has-middle : (k y : ℕ) (xs ys : List ℕ) → has k (xs ++ (y ∷ ys)) ≡ (eqb k y || has k (xs ++ ys))
unfolding has
has-middle k y [] ys = refl
has-middle k y (x ∷ xs) ys =
    ap (λ (b : Bool). eqb k x || b) (has-middle k y xs ys) ∙ or-front (eqb k x) (eqb k y) (has k (xs ++ ys))

append-none : (xs : List ℕ) → xs ++ [] ≡ xs
append-none [] = refl
append-none (x ∷ xs) = ap (λ (ys : List ℕ). x ∷ ys) (append-none xs)

heard-has : (k at : ℕ) (before bs : List ℕ) → has k (heard before bs) ≡ has k (before ++ letters_of (listed_from at bs))
unfolding heard listed_from
heard-has k at before [] = ap (has k) (sym (append-none before))
heard-has k at before (b ∷ bs) =
    heard-has k (at + 1) ((b - 65) ∷ before) bs
    ∙ (has-middle k (b - 65) [] (before ++ letters_of (listed_from (at + 1) bs))
    ∙ sym (has-middle k (b - 65) before (letters_of (listed_from (at + 1) bs))))

-- the list is read up to the place i
pub record Heard (bs : List ℕ) (from to : ℕ) (before : List ℕ) (i : ℕ) (seen : List Bool) : Type 0 where
  pub marks : Marks seen (heard before (part bs from i))
  pub wrong : wrong_letter before from (part bs from to) ≡ wrong_letter (heard before (part bs from i)) i (part bs i to)

pub heard-none : (bs : List ℕ) (from to : ℕ) (before : List ℕ) (seen : List Bool) → Marks seen before → Heard bs from to before from seen
unfolding heard
heard-none bs from to before seen m = record {
  marks = subst (λ (xs : List ℕ). Marks seen (heard before xs)) (sym (part_none bs from)) m;
  wrong = ap (λ (xs : List ℕ). wrong_letter (heard before xs) from (part bs from to)) (sym (part_none bs from));
}

wrong-step : (before : List ℕ) (at b : ℕ) (bs : List ℕ) (t : Bool) → (is_event b && not (has (b - 65) before)) ≡ t → wrong_letter before at (b ∷ bs) ≡ cond t (wrong_letter ((b - 65) ∷ before) (at + 1) bs) (some at)
unfolding wrong_letter
wrong-step before at b bs t h = ap (λ (s : Bool). cond s (wrong_letter ((b - 65) ∷ before) (at + 1) bs) (some at)) h

marks-more : (seen : List Bool) (before : List ℕ) (n : ℕ) → n < 26 → Marks seen before → Marks (set seen n true) (n ∷ before)
unfolding has
marks-more seen before n h m = record { long = length-set seen n true ∙ m.long; each = λ k j. go k j (eqb k n) refl }
  where
    go : (k : ℕ) → k < 26 → (t : Bool) → eqb k n ≡ t → get_or (set seen n true) k false ≡ (eqb k n || has k before)
    go k j true e =
        ap (λ (i : ℕ). get_or (set seen n true) i false) (eqb-true k n e)
        ∙ (get_or-set_same seen n true false (omega (arith, m.long)) ∙ ap (λ (s : Bool). s || has k before) (sym e))
    go k j false e =
        get_or-set_other seen n k true false (eqb-false k n e)
        ∙ (m.each k j ∙ ap (λ (s : Bool). s || has k before) (sym e))

module _ (bs : List ℕ) (from to : ℕ) (before : List ℕ) (i : ℕ) (seen : List Bool) (g : Heard bs from to before i seen) (low : from ≤ i) (h : i < to) (high : to ≤ length bs) where
  -- the next letter, by its test
  wrong-next : (t : Bool) → (is_event (get_or bs i 0) && not (has (get_or bs i 0 - 65) (heard before (part bs from i)))) ≡ t → wrong_letter before from (part bs from to) ≡ cond t (wrong_letter ((get_or bs i 0 - 65) ∷ heard before (part bs from i)) (i + 1) (part bs (i + 1) to)) (some i)
  wrong-next t e =
      g.wrong
      ∙ (ap (wrong_letter (heard before (part bs from i)) i) (part-cons bs i to h high)
      ∙ wrong-step (heard before (part bs from i)) i (get_or bs i 0) (part bs (i + 1) to) t e)

  pub heard-step : is_event (get_or bs i 0) ≡ true → get_or seen (get_or bs i 0 - 65) false ≡ false → Heard bs from to before (i + 1) (set seen (get_or bs i 0 - 65) true)
  heard-step e s =
      let n : get_or bs i 0 - 65 < 26 = omega (arith, is_event-low (get_or bs i 0) e, is_event-high (get_or bs i 0) e) in
      let q : heard before (part bs from (i + 1)) ≡ (get_or bs i 0 - 65) ∷ heard before (part bs from i) =
      ap (heard before) (part-more bs from i low (omega arith)) ∙ heard-more before (part bs from i) (get_or bs i 0)
      in
      record {
        marks = subst (Marks (set seen (get_or bs i 0 - 65) true)) (sym q) (marks-more seen (heard before (part bs from i)) (get_or bs i 0 - 65) n g.marks);
        wrong =
            wrong-next true (rw (e, sym (g.marks.each (get_or bs i 0 - 65) n), s))
            ∙ ap (λ (xs : List ℕ). wrong_letter xs (i + 1) (part bs (i + 1) to)) (sym q);
      }

  pub heard-other : is_event (get_or bs i 0) ≡ false → wrong_letter before from (part bs from to) ≡ some i
  heard-other e = wrong-next false (rw e)

  pub heard-twice : is_event (get_or bs i 0) ≡ true → get_or seen (get_or bs i 0 - 65) false ≡ true → wrong_letter before from (part bs from to) ≡ some i
  heard-twice e s =
      let n : get_or bs i 0 - 65 < 26 = omega (arith, is_event-low (get_or bs i 0) e, is_event-high (get_or bs i 0) e) in
      wrong-next false (rw (e, sym (g.marks.each (get_or bs i 0 - 65) n), s))

module _ (bs : List ℕ) (from to i : ℕ) (seen₀ seen : List Bool) (g : (before : List ℕ) → Marks seen₀ before → Heard bs from to before i seen) where
  marked : (before : List ℕ) → Marks seen₀ before → Marks seen (before ++ letters_of (listed_from from (part bs from i)))
  marked before m = record {
    long = (g before m).marks.long;
    each = λ k h. (g before m).marks.each k h ∙ heard-has k from before (part bs from i);
  }

  pub lists-wrong : ((before : List ℕ) → Marks seen₀ before → wrong_letter before from (part bs from to) ≡ some i) → Lists bs from to seen₀ seen (Wrong i)
  lists-wrong w = record { finds = w; marks = marked }

  pub lists-fine : i ≡ to → Lists bs from to seen₀ seen Fine
  unfolding wrong_letter
  lists-fine q = record {
    finds = λ before m.
        (g before m).wrong
        ∙ ap (wrong_letter (heard before (part bs from i)) i) (ap (λ (n : ℕ). part bs n to) q ∙ part_none bs to);
    marks = λ before m. subst (λ (n : ℕ). Marks seen (before ++ letters_of (listed_from from (part bs from n)))) q (marked before m);
  }
