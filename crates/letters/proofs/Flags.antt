-- Flags and what they tell. A flag is set exactly for the letters that were marked, so flags stay in step with the list of the letters seen.
-- Assumes nothing.
use Prim.Native.Nat.{ℕ, ◌+◌, ◌-◌, ◌<◌, ◌≤◌}
use mathlib.Core.Path.{◌≡◌, refl, sym, ap, ◌∙◌}
use mathlib.Core.Bool.{Bool, true, false, cond, not, ◌&&◌, ◌||◌}
use mathlib.Core.List.{List, ◌∷◌}
use native.Mathlib.Omega.{arith}
use lib.Dec.{eqb, leb}
use lib.ListN.{length, drop, get_or, set, length-set, drop_of_length-le}
use lib.Seq.{get_or-set_same, get_or-set_other}
use borrow.Author.Tests.{leb-true, eqb-true, eqb-false, le-leb}
use Rattle.paper.specs.Lists.{has}
use Rattle.paper.specs.Bytes.{is_event}
use Rattle.letters.specs.Letters.{is_letter, flag_of, marked, Tells, TellsFrom}
use Rattle.letters.proofs.Turns.{drop-one}

pub or-false : (t : Bool) → (t || false) ≡ t
or-false true = refl
or-false false = refl

pub or_swap : (a b c : Bool) → (a || (b || c)) ≡ (b || a || c)
or_swap true true c = refl
or_swap true false c = refl
or_swap false true c = refl
or_swap false false c = refl

-- a letter whose flag is not set is one that g does not have
letter-flag-by : (f g t : Bool) → (t ≡ true → f ≡ g) → (t && not (t && f)) ≡ (t && not g)
letter-flag-by f g true k = ap not (k refl)
letter-flag-by f g false k = refl

pub letter-flag : (fs : List Bool) (base b : ℕ) (g : Bool) → (is_letter base b ≡ true → get_or fs (b - base) false ≡ g)
    → (is_letter base b && not (flag_of fs base b)) ≡ (is_letter base b && not g)
letter-flag fs base b g k = letter-flag-by (get_or fs (b - base) false) g (is_letter base b) k

-- where the letter stands
and_left : (a c : Bool) → (a && c) ≡ true → a ≡ true
and_left true c e = refl
and_left false c e = e

and_right : (a c : Bool) → (a && c) ≡ true → c ≡ true
and_right true c e = e
and_right false c e = absurd (let n : ◌≡◌ {A = Bool} false true = e in let z : ◌≡◌ {A = ℕ} 0 1 = cc in omega arith)

pub letter-low : (base b : ℕ) → is_letter base b ≡ true → base ≤ b
letter-low base b e = leb-true base b (and_left (leb base b) (leb b (base + 25)) e)

pub letter-high : (base b : ℕ) → is_letter base b ≡ true → b ≤ base + 25
letter-high base b e = leb-true b (base + 25) (and_right (leb base b) (leb b (base + 25)) e)

pub letter-in : (base b : ℕ) → base ≤ b → b ≤ base + 25 → is_letter base b ≡ true
letter-in base b p q = ap (λ (a : Bool). a && leb b (base + 25)) (le-leb base b p) ∙ le-leb b (base + 25) q

-- the flags tell of a text or of a list
pub tells-letter : (base : ℕ) (fs : List Bool) (v : List ℕ) (b : ℕ) → TellsFrom base fs v → is_letter base b ≡ true → get_or fs (b - base) false ≡ has b v
tells-letter base fs v b t e =
    let k : base + (b - base) ≡ b = omega (arith, letter-low base b e) in
    t (b - base) (omega (arith, letter-low base b e, letter-high base b e)) ∙ ap (λ (x : ℕ). has x v) k

pub unlisted-flag : (fs : List Bool) (ls : List ℕ) (b : ℕ) → Tells fs ls → (is_event b && not (flag_of fs 65 b)) ≡ (is_event b && not (has (b - 65) ls))
unlisted-flag fs ls b t =
    letter-flag fs 65 b (has (b - 65) ls) (λ e. t (b - 65) (omega (arith, letter-low 65 b e, letter-high 65 b e)))

pub new-flag : (base : ℕ) (fs : List Bool) (v : List ℕ) (b : ℕ) → TellsFrom base fs v
    → (is_letter base b && not (flag_of fs base b)) ≡ (is_letter base b && not (has b v))
new-flag base fs v b t = letter-flag fs base b (has b v) (tells-letter base fs v b t)

-- an event's flag is its use
pub event-flag : (fs : List Bool) (v : List ℕ) (b : ℕ) → TellsFrom 65 fs v → is_event b ≡ true → flag_of fs 65 b ≡ has (65 + (b - 65)) v
event-flag fs v b t e =
    ap (λ (a : Bool). a && get_or fs (b - 65) false) e
    ∙ t (b - 65) (omega (arith, letter-low 65 b e, letter-high 65 b e))

-- one mark more
mark-by : (fs : List Bool) (base b l : ℕ) (a c : Bool) → is_letter base b ≡ a → eqb (base + l) b ≡ c → length fs ≡ 26 → l < 26
    → get_or (cond a (set fs (b - base) true) fs) l false ≡ (c || get_or fs l false)
mark-by fs base b l true true p q n h =
    let k : b - base ≡ l = omega (arith, eqb-true (base + l) b q) in
    ap (λ (i : ℕ). get_or (set fs i true) l false) k ∙ get_or-set_same fs l true false (omega arith)
mark-by fs base b l true false p q n h =
    get_or-set_other fs (b - base) l true false (λ k. eqb-false (base + l) b q (omega (arith, letter-low base b p)))
mark-by fs base b l false true p q n h =
    let e = letter-in base b (omega (arith, eqb-true (base + l) b q)) (omega (arith, eqb-true (base + l) b q)) in
    absurd (let z : true ≡ false = sym e ∙ p in let o : ◌≡◌ {A = ℕ} 0 1 = cc in omega arith)
mark-by fs base b l false false p q n h = refl

pub marked-flag : (fs : List Bool) (base b l : ℕ) → length fs ≡ 26 → l < 26 → get_or (marked fs base b) l false ≡ (eqb (base + l) b || get_or fs l false)
marked-flag fs base b l n h = mark-by fs base b l (is_letter base b) (eqb (base + l) b) refl refl n h

marked-length-by : (fs : List Bool) (i : ℕ) (a : Bool) → length fs ≡ 26 → length (cond a (set fs i true) fs) ≡ 26
marked-length-by fs i true n = length-set fs i true ∙ n
marked-length-by fs i false n = n

pub marked-length : (fs : List Bool) (base b : ℕ) → length fs ≡ 26 → length (marked fs base b) ≡ 26
marked-length fs base b n = marked-length-by fs (b - base) (is_letter base b) n

pub marked-tells : (base : ℕ) (fs : List Bool) (v : List ℕ) (b : ℕ) → length fs ≡ 26 → TellsFrom base fs v → TellsFrom base (marked fs base b) (b ∷ v)
unfolding has
marked-tells base fs v b n t l h = marked-flag fs base b l n h ∙ ap (λ (x : Bool). eqb (base + l) b || x) (t l h)

-- what the flags have not, the rest of the text may
abbrev pub Between : ℕ → List Bool → List ℕ → ℕ → ℕ → Type 0
Between base fs s i at = (l : ℕ) → l < 26 → (get_or fs l false || has (base + l) (drop i s)) ≡ has (base + l) (drop at s)

pub used-none : (base : ℕ) (fs : List Bool) (s : List ℕ) (at : ℕ) → ((l : ℕ) → l < 26 → get_or fs l false ≡ false) → Between base fs s at at
used-none base fs s at k l h = ap (λ (x : Bool). x || has (base + l) (drop at s)) (k l h)

pub used-more : (base : ℕ) (fs : List Bool) (s : List ℕ) (i at : ℕ) → i < length s → length fs ≡ 26 → Between base fs s i at
    → Between base (marked fs base (get_or s i 0)) s (i + 1) at
unfolding has
used-more base fs s i at p n k l h =
    let b = get_or s i 0 in
    let r = has (base + l) (drop (i + 1) s) in
    ap (λ (x : Bool). x || r) (marked-flag fs base b l n h)
    ∙ (sym (or_swap (get_or fs l false) (eqb (base + l) b) r)
    ∙ (ap (λ (xs : List ℕ). get_or fs l false || has (base + l) xs) (sym (drop-one s i p)) ∙ k l h))

pub used_all : (base : ℕ) (fs : List Bool) (s : List ℕ) (i at : ℕ) → length s ≤ i → Between base fs s i at → TellsFrom base fs (drop at s)
unfolding has
used_all base fs s i at p k l h =
    sym (or-false (get_or fs l false)) ∙ (ap (λ (xs : List ℕ). get_or fs l false || has (base + l) xs) (sym (drop_of_length-le s p)) ∙ k l h)
