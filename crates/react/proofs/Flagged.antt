-- Modules and their flags. The modules ascend, so each stands once, and its flag says whether it is in the stopped set (`stopped-flag`); flags
-- that are made by a test say the modules that pass it (`stopped-kept`).
-- Assumes nothing.
use Prim.Native.Nat.{ℕ, zero, suc, ◌+◌, ◌-◌, ◌≤◌, ◌<◌}
use mathlib.Core.Bool.{Bool, true, false}
use mathlib.Core.List.{List, [], ◌∷◌, ◌++◌, map, map-append}
use mathlib.Core.Path.{◌≡◌, refl, ap, ap₂, sym, ◌∙◌}
use native.Mathlib.Numerals.{add-one}
use native.Mathlib.Omega.{arith}
use lib.Dec.{eqb}
use lib.ListN.{length, get_or, take, set, replicate, length-map, length-take, get_or-replicate, get_or-append, get_or-eq_default}
use lib.Seq.{take-suc, take_all, length-take-le, get_or-take, get_or-append-add}
use borrow.Author.Tests.{eq-eqb, ne_eqb}
use mir.Val.{bool_byte}
use Rattle.paper.specs.Lists.{with_if, has, keep, from, below}
use Rattle.paper.specs.Rewriting.{Letter}
use Rattle.paper.specs.Reaction.{is_own}
use Rattle.paper.specs.Table.{flag}
use Rattle.paper.specs.Calls.{eight}
use Rattle.laws.proofs.Eight.{eight-set}
use Rattle.words.proofs.Marks.{by-lt}
use Rattle.react.specs.States.{Ascends, Modules, stopped_of, Flags, flags_of, ruled}

-- ## ascending

pub ascends-named : (k i : ℕ) (ms : List ℕ) → Ascends k ms → i < length ms → (k ≤ get_or ms i 0) × (get_or ms i 0 < 26)
unfolding Ascends
ascends-named k i [] a h = absurd (omega arith)
ascends-named k zero (m ∷ ms) a h = (a.0, a.1.0)
ascends-named k (suc i) (m ∷ ms) a h =
    let r = ascends-named (suc m) i ms a.1.1 (omega arith) in
    (omega (arith, r.0, a.0), r.1)

-- a module is one of a to z
pub module-below : (ms : List ℕ) (i : ℕ) → Modules ms → i < length ms → get_or ms i 0 < 26
module-below ms i h l = (ascends-named 0 i ms h.ascend l).1

-- from a lower letter on too
ascends-down : (k : ℕ) (ms : List ℕ) → Ascends (suc k) ms → Ascends k ms
unfolding Ascends
ascends-down k [] a = tt
ascends-down k (m ∷ ms) a = (omega (arith, a.0), a.1)

ascends-with : (k : ℕ) (ms : List ℕ) (b : Bool) → k < 26 → Ascends (suc k) ms → Ascends k (with_if b k ms)
unfolding Ascends
ascends-with k ms true h a = (omega arith, (h, a))
ascends-with k ms false h a = ascends-down k ms a

ascends-kept : (p : ℕ → Bool) (k n : ℕ) → k + n ≤ 26 → Ascends k (keep p (from k n))
unfolding Ascends keep from
ascends-kept p k zero h = tt
ascends-kept p k (suc n) h = ascends-with k (keep p (from (suc k) n)) (p k) (omega arith) (ascends-kept p (suc k) n (omega arith))

-- the names of a program are what a test keeps of a to z
pub modules-kept : (p : ℕ → Bool) → length (keep p (below 26)) ≤ 8 → Modules (keep p (below 26))
unfolding below
modules-kept p h = record { few = h; ascend = ascends-kept p 0 26 (omega arith) }

-- tests that agree on a to z
pub map_same : (f g : ℕ → ℕ) (k : ℕ) (ms : List ℕ) → Ascends k ms → ((m : ℕ) → m < 26 → f m ≡ g m) → map f ms ≡ map g ms
unfolding Ascends
map_same f g k [] a h = refl
map_same f g k (m ∷ ms) a h = ap₂ (λ (x : ℕ) (xs : List ℕ). x ∷ xs) (h m a.1.0) (map_same f g (suc m) ms a.1.1 h)

-- ## the stopped set

has_other : (n m : ℕ) (ms : List ℕ) (b : Bool) → eqb n m ≡ false → has n (with_if b m ms) ≡ has n ms
unfolding has
has_other n m ms true e = rw e
has_other n m ms false e = refl

-- a module below those of the list is not among them
stopped-below : (k n : ℕ) (ms fs : List ℕ) → Ascends k ms → n < k → has n (stopped_of ms fs) ≡ false
unfolding Ascends stopped_of has
stopped-below k n [] fs a h = refl
stopped-below k n (m ∷ ms) [] a h = refl
stopped-below k n (m ∷ ms) (f ∷ fs) a h =
    has_other n m (stopped_of ms fs) (eqb f 1) (ne_eqb n m (λ e. omega arith)) ∙ stopped-below (suc m) n ms fs a.1.1 (omega arith)

stopped-first : (m : ℕ) (ms fs : List ℕ) → Ascends (suc m) ms → (b : Bool) → has m (with_if b m (stopped_of ms fs)) ≡ b
unfolding has
stopped-first m ms fs a true = rw (eq-eqb m m refl)
stopped-first m ms fs a false = stopped-below (suc m) m ms fs a (omega arith)

pub stopped-flag : (k i : ℕ) (ms fs : List ℕ) → Ascends k ms → i < length ms → eqb (get_or fs i 0) 1 ≡ has (get_or ms i 0) (stopped_of ms fs)
unfolding Ascends stopped_of has
stopped-flag k i [] fs a h = absurd (omega arith)
stopped-flag k i (m ∷ ms) [] a h = refl
stopped-flag k zero (m ∷ ms) (f ∷ fs) a h = sym (stopped-first m ms fs a.1.1 (eqb f 1))
stopped-flag k (suc i) (m ∷ ms) (f ∷ fs) a h =
    let n = ascends-named (suc m) i ms a.1.1 (omega arith) in
    stopped-flag (suc m) i ms fs a.1.1 (omega arith)
    ∙ sym (has_other (get_or ms i 0) m (stopped_of ms fs) (eqb f 1) (ne_eqb (get_or ms i 0) m (λ e. omega (arith, n.0))))

-- the byte of a flag
pub flag_byte : (b : Bool) → bool_byte b ≡ flag b
flag_byte true = refl
flag_byte false = refl

flag_one : (b : Bool) → eqb (flag b) 1 ≡ b
flag_one true = refl
flag_one false = refl

kept_from : (p : ℕ → Bool) (ms rest : List ℕ) (n : ℕ) → length ms ≤ n → stopped_of ms (take n (map (λ m. flag (p m)) ms ++ rest)) ≡ keep p ms
unfolding stopped_of keep
kept_from p [] rest n h = refl
kept_from p (m ∷ ms) rest zero h = absurd (omega arith)
kept_from p (m ∷ ms) rest (suc n) h = ap₂ (λ (b : Bool) (xs : List ℕ). with_if b m xs) (flag_one (p m)) (kept_from p ms rest n (omega arith))

-- the modules whose flag a test made are those that pass it
pub stopped-kept : (p : ℕ → Bool) (ms : List ℕ) → length ms ≤ 8 → stopped_of ms (flags_of p ms) ≡ keep p ms
stopped-kept p ms h = kept_from p ms (replicate 8 0) 8 h

-- zeros say none
pub stopped_none : (n : ℕ) (ms : List ℕ) → stopped_of ms (replicate n 0) ≡ []
unfolding stopped_of
stopped_none n [] = refl
stopped_none zero (m ∷ ms) = refl
stopped_none (suc n) (m ∷ ms) = stopped_none n ms

-- ## eight flags

flag_small : (b : Bool) → flag b ≤ 1
flag_small true = omega arith
flag_small false = omega arith

flags-small : (p : ℕ → Bool) (ms : List ℕ) (i : ℕ) → get_or (map (λ m. flag (p m)) ms) i 0 ≤ 1
flags-small p [] i = omega arith
flags-small p (m ∷ ms) zero = flag_small (p m)
flags-small p (m ∷ ms) (suc i) = flags-small p ms i

eight-in : (xs : List ℕ) (i : ℕ) → i < length xs → i < 8 → get_or (eight xs) i 0 ≡ get_or xs i 0
eight-in xs i h k = get_or-take 8 (xs ++ replicate 8 0) i 0 k ∙ get_or-append xs (replicate 8 0) 0 i h

eight-behind : (xs : List ℕ) (i : ℕ) → length xs ≤ i → get_or (eight xs) i 0 ≡ 0
eight-behind xs i h =
    by-lt i 8
    (λ k.
    let z : length xs + (i - length xs) ≡ i = omega arith in
    get_or-take 8 (xs ++ replicate 8 0) i 0 k
    ∙ (ap (λ (n : ℕ). get_or (xs ++ replicate 8 0) n 0) (sym z)
    ∙ (get_or-append-add xs (replicate 8 0) (i - length xs) 0 ∙ get_or-replicate 8 (i - length xs) 0 0 (omega arith))))
    (λ k. get_or-eq_default (eight xs) 0 {n = i} (simp length-take (omega arith)))

pub flags-are : (p : ℕ → Bool) (ms : List ℕ) → length ms ≤ 8 → Flags (length ms) (flags_of p ms)
flags-are p ms h i =
    let xs = map (λ m. flag (p m)) ms in
    let l : length xs ≡ length ms = length-map ms (λ m. flag (p m)) in (
      by-lt i (length ms)
          (λ k. omega (arith, eight-in xs i (omega arith) (omega arith), flags-small p ms i))
          (λ k. omega (arith, eight-behind xs i (omega arith))),
      λ k. eight-behind xs i (omega arith),
    )

pub flags-none : (n k : ℕ) → Flags k (replicate n 0)
flags-none zero k i = (omega arith, λ h. refl)
flags-none (suc n) k zero = (omega arith, λ h. refl)
flags-none (suc n) k (suc i) = ((flags-none n k i).0, λ h. (flags-none n 0 i).1 (omega arith))

-- ## one module more

-- what a rule says of the module at hand, by what the tests found
pub ruled-at : {A : Type 0} (f : (own before after stopped : Bool) → A) (l : Letter) (b a : ℕ → Bool) (st : List ℕ) {v : A} {own h : Bool} {m n : ℕ} → v ≡ f own (b m) (a m) h → own ≡ is_own l m → h ≡ has n st → m ≡ n → v ≡ ruled f l b a st n
ruled-at f l b a st e o h q = cc

pub eight-more : (g : ℕ → ℕ) (ms : List ℕ) (i v : ℕ) (o : List ℕ) → o ≡ eight (map g (take i ms)) → v ≡ g (get_or ms i 0) → i < length ms → length ms ≤ 8 → set o i v ≡ eight (map g (take (i + 1) ms))
eight-more g ms i v o e f h l =
    let n : length (map g (take i ms)) ≡ i = length-map (take i ms) g ∙ length-take-le i ms (omega arith) in
    let t : take (i + 1) ms ≡ take i ms ++ (get_or ms i 0 ∷ []) = ap (λ (k : ℕ). take k ms) (add-one i) ∙ take-suc ms i 0 h in
    ap₂ (λ (x : List ℕ) (y : ℕ). set x i y) e f
    ∙ (eight-set (map g (take i ms)) i (g (get_or ms i 0)) n (omega arith) ∙ ap eight (sym (ap (map g) t ∙ map-append g (take i ms) (get_or ms i 0 ∷ []))))

pub eight-all : (g : ℕ → ℕ) (ms : List ℕ) (i : ℕ) (o : List ℕ) → o ≡ eight (map g (take i ms)) → length ms ≤ i → o ≡ eight (map g ms)
eight-all g ms i o e h = e ∙ ap (λ (l : List ℕ). eight (map g l)) (take_all i ms h)
