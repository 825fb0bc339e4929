-- Sets of letters as numbers. Bit k of `set_of f n` is f k, for k below n; `|` has the bits of either number, `&` those of both, and a number is 0 exactly
-- where it has no bit. So the set of a part is that of the letters that it uses by the rule for one letter (`set_is`), and two sets meet where a letter
-- that counts is used on both sides (`sets-meet`). Assumes nothing.
use Prim.Native.Nat.{ℕ, zero, suc, ◌+◌, ◌-◌, ◌*◌, ◌^◌, ◌<◌, min, max}
use mathlib.Core.Path.{◌≡◌, refl, sym, ap, ap₂, ◌∙◌}
use mathlib.Core.Bool.{Bool, true, false, cond, not, ◌&&◌, ◌||◌}
use native.Mathlib.Nat.{add-zero, pow-suc}
use native.Mathlib.Omega.{arith}
use lib.Arith.{digits_div, digits_mod}
use lib.Bits.{bit_and, bit_or, and_step, or_step}
use lib.Dec.{eqb, eqb-zero-suc, eqb-suc-zero, eqb-suc-suc}
use borrow.Author.Tests.{eqb-true, eqb-false, eq-eqb, ne_eqb}
use Rattle.paper.specs.Bytes.{star_mark}
use Rattle.paper.specs.Table.{flag}
use Rattle.laws.specs.Placed.{Tree, leaf, star, join}
use Rattle.letters.specs.Letters.{is_letter}
use Rattle.letters.proofs.Flags.{letter-low, letter-high, letter-in, or-false}
use Rattle.stars.specs.Nodes.{is_star, is_bars, is_join, uses, sharing}
use Rattle.stars.proofs.Least.{fold, LeafCode, Lawful}
use Rattle.joins.specs.Sets.{own_set, node_set, sharing_any}
use Rattle.joins.proofs.Uses.{is_alpha, apart, leaf-no-bars}

unfoldable set_of : (ℕ → Bool) → ℕ → ℕ
set_of f zero = 0
set_of f (suc n) = set_of (λ k. f (suc k)) n * 2 + flag (f 0)

-- some number below n passes
unfoldable pub any : (ℕ → Bool) → ℕ → Bool
any f zero = false
any f (suc n) = f 0 || any (λ k. f (suc k)) n

-- bits
flag-lt : (b : Bool) → flag b < 2
flag-lt true = omega arith
flag-lt false = omega arith

flag-or : (a b : Bool) → max (flag a) (flag b) ≡ flag (a || b)
flag-or true true = refl
flag-or true false = refl
flag-or false true = refl
flag-or false false = refl

flag-and : (a b : Bool) → min (flag a) (flag b) ≡ flag (a && b)
flag-and true true = refl
flag-and true false = refl
flag-and false true = refl
flag-and false false = refl

set-or : (f g : ℕ → Bool) (n : ℕ) → bit_or (set_of f n) (set_of g n) ≡ set_of (λ k. f k || g k) n
unfolding set_of
set-or f g zero = refl
set-or f g (suc n) =
    let a = set_of (λ k. f (suc k)) n in
    let b = set_of (λ k. g (suc k)) n in
    or_step (a * 2 + flag (f 0)) (b * 2 + flag (g 0))
    ∙ ap₂ (λ (x y : ℕ). x * 2 + y)
    (ap₂ bit_or (digits_div a (flag-lt (f 0))) (digits_div b (flag-lt (g 0))) ∙ set-or (λ k. f (suc k)) (λ k. g (suc k)) n)
    (ap₂ max (digits_mod a (flag-lt (f 0))) (digits_mod b (flag-lt (g 0))) ∙ flag-or (f 0) (g 0))

set-and : (f g : ℕ → Bool) (n : ℕ) → bit_and (set_of f n) (set_of g n) ≡ set_of (λ k. f k && g k) n
unfolding set_of
set-and f g zero = refl
set-and f g (suc n) =
    let a = set_of (λ k. f (suc k)) n in
    let b = set_of (λ k. g (suc k)) n in
    and_step (a * 2 + flag (f 0)) (b * 2 + flag (g 0))
    ∙ ap₂ (λ (x y : ℕ). x * 2 + y)
    (ap₂ bit_and (digits_div a (flag-lt (f 0))) (digits_div b (flag-lt (g 0))) ∙ set-and (λ k. f (suc k)) (λ k. g (suc k)) n)
    (ap₂ min (digits_mod a (flag-lt (f 0))) (digits_mod b (flag-lt (g 0))) ∙ flag-and (f 0) (g 0))

set_same : (f g : ℕ → Bool) (n : ℕ) → ((k : ℕ) → k < n → f k ≡ g k) → set_of f n ≡ set_of g n
unfolding set_of
set_same f g zero e = refl
set_same f g (suc n) e =
    ap₂ (λ (x y : ℕ). x * 2 + y) (set_same (λ k. f (suc k)) (λ k. g (suc k)) n (λ k h. e (suc k) (omega arith))) (ap flag (e 0 (omega arith)))

-- the set with nothing, and with one number
set-none : (n : ℕ) → set_of (λ k. false) n ≡ 0
unfolding set_of
set-none zero = refl
set-none (suc n) = ap (λ (x : ℕ). x * 2 + 0) (set-none n)

set-one : (n k : ℕ) → k < n → set_of (λ j. eqb j k) n ≡ 2 ^ k
unfolding set_of
set-one zero k h = absurd (omega arith)
set-one (suc n) zero h = ap (λ (x : ℕ). x * 2 + 1) (set_same (λ j. eqb (suc j) 0) (λ j. false) n (λ j l. eqb-suc-zero j) ∙ set-none n)
set-one (suc n) (suc k) h =
    let e : set_of (λ j. eqb (suc j) (suc k)) n ≡ 2 ^ k =
    set_same (λ j. eqb (suc j) (suc k)) (λ j. eqb j k) n (λ j l. eqb-suc-suc j k) ∙ set-one n k (omega arith) in
    ap₂ (λ (x y : ℕ). x * 2 + y) e (ap flag (eqb-zero-suc k)) ∙ (add-zero (2 ^ k * 2) ∙ sym (pow-suc 2 k))

-- a number is 0 where no bit is set
empty-step : (a : ℕ) (b r : Bool) → eqb a 0 ≡ not r → eqb (a * 2 + flag b) 0 ≡ not (b || r)
empty-step a true r e = ne_eqb (a * 2 + 1) 0 (λ (h : a * 2 + 1 ≡ 0). omega arith)
empty-step a false true e = ne_eqb (a * 2 + 0) 0 (λ (h : a * 2 + 0 ≡ 0). eqb-false a 0 e (omega arith))
empty-step a false false e = eq-eqb (a * 2 + 0) 0 (omega (arith, eqb-true a 0 e))

set-empty : (f : ℕ → Bool) (n : ℕ) → eqb (set_of f n) 0 ≡ not (any f n)
unfolding set_of any
set-empty f zero = refl
set-empty f (suc n) = empty-step (set_of (λ k. f (suc k)) n) (f 0) (any (λ k. f (suc k)) n) (set-empty (λ k. f (suc k)) n)

not-not : (b : Bool) → not (not b) ≡ b
not-not true = refl
not-not false = refl

-- marks are no letters
or-takes : {P : Type 0} (a b : Bool) → (a ≡ true → P) → (b ≡ true → P) → (a || b) ≡ true → P
or-takes true b f g e = f refl
or-takes false b f g e = g e

is-mark : (c m : ℕ) → is_alpha m ≡ false → eqb c m ≡ true → is_alpha c ≡ false
is-mark c m h e = ap is_alpha (eqb-true c m e) ∙ h

join-mark : (c : ℕ) → is_join c ≡ true → is_alpha c ≡ false
join-mark c =
    or-takes (is_bars c || eqb c 59 || eqb c 47 || eqb c 58) (eqb c 33)
    (or-takes (is_bars c || eqb c 59 || eqb c 47) (eqb c 58)
    (or-takes (is_bars c || eqb c 59) (eqb c 47)
    (or-takes (is_bars c) (eqb c 59) (or-takes (eqb c 124) (eqb c 38) (is-mark c 124 refl) (is-mark c 38 refl)) (is-mark c 59 refl))
    (is-mark c 47 refl))
    (is-mark c 58 refl))
    (is-mark c 33 refl)

-- one bit of a node
pub and_none : (a : Bool) → (a && false) ≡ false
and_none true = refl
and_none false = refl

join-some : (f g s : Bool) → (f || g) ≡ (s && g || (f || g))
join-some true true true = refl
join-some true true false = refl
join-some true false true = refl
join-some true false false = refl
join-some false true true = refl
join-some false true false = refl
join-some false false true = refl
join-some false false false = refl

join-bit : (o f g s e : Bool) → e ≡ false → (o && f || o && g) ≡ (o && (s && g || (f || g) || e))
join-bit true f g s e h = join-some f g s ∙ (sym (or-false (s && g || (f || g))) ∙ ap (λ (x : Bool). s && g || (f || g) || x) (sym h))
join-bit false f g s e h = refl

star-bit : (g e : Bool) → e ≡ false → g ≡ (g || false || e)
star-bit g e h = sym (or-false g) ∙ (sym (or-false (g || false)) ∙ ap (λ (x : Bool). g || false || x) (sym h))

-- the letters from base on
module _ (base : ℕ) (on : ℕ → Bool) where
  own-bit : (c k : ℕ) (t : Bool) → base + (c - base) ≡ c → eqb k (c - base) ≡ t → (on k && eqb (base + k) c) ≡ (on (c - base) && t)
  own-bit c k true h e =
      let i : k ≡ c - base = eqb-true k (c - base) e in
      ap (λ (x : Bool). on k && x) (eq-eqb (base + k) c (omega arith)) ∙ ap (λ (j : ℕ). on j && true) i
  own-bit c k false h e =
      ap (λ (x : Bool). on k && x) (ne_eqb (base + k) c (λ (z : base + k ≡ c). eqb-false k (c - base) e (omega arith)))
      ∙ (and_none (on k) ∙ sym (and_none (on (c - base))))

  own_on : (j : ℕ) (b : Bool) → j < 26 → set_of (λ k. b && eqb k j) 26 ≡ cond b (2 ^ j) 0
  own_on j true h = set-one 26 j h
  own_on j false h = set-none 26

  own-by : (c : ℕ) (t : Bool) → is_letter base c ≡ t → set_of (λ k. on k && eqb (base + k) c) 26 ≡ cond (t && on (c - base)) (2 ^ (c - base)) 0
  own-by c true e =
      let low = letter-low base c e in
      let high = letter-high base c e in
      set_same (λ k. on k && eqb (base + k) c) (λ k. on (c - base) && eqb k (c - base)) 26 (λ k h. own-bit c k (eqb k (c - base)) (omega arith) refl)
      ∙ own_on (c - base) (on (c - base)) (omega arith)
  own-by c false e =
      set_same (λ k. on k && eqb (base + k) c) (λ k. false) 26
      (λ k h.
      ap (λ (x : Bool). on k && x)
      (ne_eqb (base + k) c
      (λ (z : base + k ≡ c).
      let n : false ≡ true = sym e ∙ letter-in base c (omega arith) (omega arith) in let o : ◌≡◌ {A = ℕ} 0 1 = cc in omega arith))
      ∙ and_none (on k))
      ∙ set-none 26

  set-off : set_of (λ k. on k && false) 26 ≡ 0
  set-off = set_same (λ k. on k && false) (λ k. false) 26 (λ k h. and_none (on k)) ∙ set-none 26

  leaf-set : (c y z : ℕ) → LeafCode c → node_set base on c y z ≡ own_set base on c
  leaf-set c y z k =
      ap (λ (b : Bool). cond b (bit_or y z) (cond (is_star c) z (own_set base on c))) k.1 ∙ ap (λ (b : Bool). cond b z (own_set base on c)) k.0

  pub any-lawful : Lawful (sharing_any base on)
  any-lawful = record {
    leaf_worth = λ c k y z. leaf-set c y z k ∙ sym (leaf-set c 0 0 k);
    leaf_passes = λ c k y z. ap (λ (b : Bool). b && not (eqb (bit_and y z) 0)) (leaf-no-bars c k);
    star_worth = λ y z. refl;
    star_passes = λ y z. refl;
  }

  module _ (alpha : (k : ℕ) → k < 26 → is_alpha (base + k) ≡ true) where
    node_by : (c : ℕ) (f g : ℕ → Bool) (j s : Bool) → is_join c ≡ j → is_star c ≡ s
        → cond j (bit_or (set_of (λ k. on k && f k) 26) (set_of (λ k. on k && g k) 26)) (cond s (set_of (λ k. on k && g k) 26) (own_set base on c))
        ≡ set_of (λ k. on k && (s && g k || j && (f k || g k) || eqb (base + k) c)) 26
    node_by c f g true s p q =
        set-or (λ k. on k && f k) (λ k. on k && g k) 26
        ∙ set_same (λ k. on k && f k || on k && g k) (λ k. on k && (s && g k || (f k || g k) || eqb (base + k) c)) 26
        (λ k h. join-bit (on k) (f k) (g k) s (eqb (base + k) c) (apart (base + k) c (alpha k h) (join-mark c p)))
    node_by c f g false true p q =
        set_same (λ k. on k && g k) (λ k. on k && (g k || false || eqb (base + k) c)) 26
        (λ k h. ap (λ (x : Bool). on k && x) (star-bit (g k) (eqb (base + k) c) (apart (base + k) c (alpha k h) (is-mark c star_mark refl q))))
    node_by c f g false false p q = sym (own-by c (is_letter base c) refl)

    node_is : (c : ℕ) (f g : ℕ → Bool) → node_set base on c (set_of (λ k. on k && f k) 26) (set_of (λ k. on k && g k) 26)
        ≡ set_of (λ k. on k && uses (base + k) c (f k) (g k)) 26
    node_is c f g = node_by c f g (is_join c) (is_star c) refl refl

    set_is : (t : Tree) → fold (sharing_any base on) t ≡ set_of (λ k. on k && fold (sharing (base + k)) t) 26
    unfolding fold
    set_is (leaf c p) = ap₂ (node_set base on c) (sym set-off) (sym set-off) ∙ node_is c (λ k. false) (λ k. false)
    set_is (star p t) =
        ap₂ (node_set base on star_mark) (sym set-off) (set_is t) ∙ node_is star_mark (λ k. false) (λ k. fold (sharing (base + k)) t)
    set_is (join c p t u) =
        ap₂ (node_set base on c) (set_is t) (set_is u) ∙ node_is c (λ k. fold (sharing (base + k)) t) (λ k. fold (sharing (base + k)) u)

    pub sets-meet : (t u : Tree) → not (eqb (bit_and (fold (sharing_any base on) t) (fold (sharing_any base on) u)) 0)
        ≡ any (λ k. (on k && fold (sharing (base + k)) t) && (on k && fold (sharing (base + k)) u)) 26
    sets-meet t u =
        let f : ℕ → Bool = λ k. on k && fold (sharing (base + k)) t in
        let g : ℕ → Bool = λ k. on k && fold (sharing (base + k)) u in
        ap (λ (x : ℕ). not (eqb x 0)) (ap₂ bit_and (set_is t) (set_is u) ∙ set-and f g 26)
        ∙ (ap not (set-empty (λ k. f k && g k) 26) ∙ not-not (any (λ k. f k && g k) 26))
