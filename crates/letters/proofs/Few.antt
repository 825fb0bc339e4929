-- The different letters of a text. The letters seen so far are a list that the flags tell, so a letter is new exactly where its flag is not set; and
-- where none is the ninth, the letters that the text uses are at most eight. Assumes nothing.
use Prim.Native.Nat.{ℕ, ◌+◌, ◌<◌, ◌≤◌}
use mathlib.Core.Path.{◌≡◌, refl, sym, ap, ◌∙◌}
use mathlib.Core.Bool.{Bool, true, false, cond, not, ◌&&◌, ◌||◌}
use mathlib.Core.List.{List, [], ◌∷◌}
use mathlib.Core.Option.{none, some}
use native.Mathlib.Omega.{arith}
use lib.Dec.{eqb, leb}
use lib.ListN.{length, drop, get_or}
use borrow.Author.Tests.{le-leb, lt-leb, leb-false, eqb-true}
use Rattle.paper.specs.Lists.{has, with_if, keep, below}
use Rattle.paper.specs.Limits.{is_new, ninth_from, ninth}
use Rattle.letters.specs.Letters.{is_letter, flag_of, marked, TellsFrom}
use Rattle.letters.proofs.Turns.{cond-true, cond-false, ninth-one}
use Rattle.letters.proofs.Flags.{or-false, or_swap, letter-in, new-flag, marked-length, marked-tells}
use Rattle.letters.proofs.Collects.{tally, tally-one-more, tally-same, tally-none}

-- the code's test, by what its calls answer
pub new-test : (base : ℕ) (fs : List Bool) (b : ℕ) (t f r : Bool) → t ≡ is_letter base b → f ≡ flag_of fs base b → (t && not f) ≡ r
    → (is_letter base b && not (flag_of fs base b)) ≡ r
new-test base fs b t f r p q e = ap (λ (x : Bool). x && not (flag_of fs base b)) (sym p) ∙ (ap (λ (x : Bool). t && not x) (sym q) ∙ e)

pub record Seen (base : ℕ) (s : List ℕ) (at : ℕ) (fs : List Bool) (count i : ℕ) : Type 0 where
  pub seen : List ℕ
  pub long : length fs ≡ 26
  pub tells : TellsFrom base fs seen
  pub counts : count ≡ length seen
  pub rest : ninth (is_letter base) at (drop at s) ≡ ninth_from (is_letter base) seen i (drop i s)

pub seen_none : (base : ℕ) (s : List ℕ) (at : ℕ) (fs : List Bool) → length fs ≡ 26 → ((l : ℕ) → l < 26 → get_or fs l false ≡ false) → Seen base s at fs 0 at
unfolding ninth has
seen_none base s at fs n k = record { seen = []; long = n; tells = k; counts = refl; rest = refl }

-- the test at the byte at i, and what its two ways lead to
module _ (base : ℕ) (s : List ℕ) (at : ℕ) (fs : List Bool) (count i : ℕ) (r : Seen base s at fs count i) (below : i < length s) where
  new : (t : Bool) → (is_letter base (get_or s i 0) && not (flag_of fs base (get_or s i 0))) ≡ t → is_new (is_letter base) r.seen (get_or s i 0) ≡ t
  new t e = sym (new-flag base fs r.seen (get_or s i 0) r.tells) ∙ e

  pub seen-ninth : (is_letter base (get_or s i 0) && not (flag_of fs base (get_or s i 0))) ≡ true → count ≡ 8 → ninth (is_letter base) at (drop at s) ≡ some i
  seen-ninth e p =
      let q : 8 ≤ length r.seen = omega (arith, r.counts) in
      r.rest
      ∙ (ninth-one (is_letter base) r.seen s i below
      ∙ cond-true _ (some i) _ (ap (λ (x : Bool). x && leb 8 (length r.seen)) (new true e) ∙ le-leb 8 (length r.seen) q))

  pub seen-new : (is_letter base (get_or s i 0) && not (flag_of fs base (get_or s i 0))) ≡ true → count < 8
      → Seen base s at (marked fs base (get_or s i 0)) (count + 1) (i + 1)
  seen-new e p =
      let b = get_or s i 0 in
      let q : length r.seen < 8 = omega (arith, r.counts) in
      record {
        seen = b ∷ r.seen;
        long = marked-length fs base b r.long;
        tells = marked-tells base fs r.seen b r.long r.tells;
        counts = omega (arith, r.counts);
        rest =
            r.rest
            ∙ (ninth-one (is_letter base) r.seen s i below
            ∙ (cond-false _ (some i) _ (ap (λ (x : Bool). x && leb 8 (length r.seen)) (new true e) ∙ lt-leb 8 (length r.seen) q)
            ∙ ap (λ (x : Bool). ninth_from (is_letter base) (with_if x b r.seen) (i + 1) (drop (i + 1) s)) (new true e)));
      }

  pub seen-old : (is_letter base (get_or s i 0) && not (flag_of fs base (get_or s i 0))) ≡ false → Seen base s at fs count (i + 1)
  seen-old e =
      let b = get_or s i 0 in
      record {
        seen = r.seen;
        long = r.long;
        tells = r.tells;
        counts = r.counts;
        rest =
            r.rest
            ∙ (ninth-one (is_letter base) r.seen s i below
            ∙ (cond-false _ (some i) _ (ap (λ (x : Bool). x && leb 8 (length r.seen)) (new false e))
            ∙ ap (λ (x : Bool). ninth_from (is_letter base) (with_if x b r.seen) (i + 1) (drop (i + 1) s)) (new false e)));
      }

-- a letter that is not new adds nothing to what was seen; a new one adds one at most
or-absorbs : (a b c : Bool) → (b ≡ true → a ≡ true) → (a || (b || c)) ≡ (a || c)
or-absorbs true b c h = refl
or-absorbs false true c h = absurd (let z : false ≡ true = h refl in let o : ◌≡◌ {A = ℕ} 0 1 = cc in omega arith)
or-absorbs false false c h = refl

abbrev both : ℕ → List ℕ → List ℕ → ℕ → Bool
both base seen v l = has (base + l) seen || has (base + l) v

old-seen : (p h : Bool) → (p && not h) ≡ false → p ≡ true → h ≡ true
old-seen true true e q = refl
old-seen true false e q = absurd (let z : true ≡ false = e in let o : ◌≡◌ {A = ℕ} 0 1 = cc in omega arith)
old-seen false h e q = absurd (let z : false ≡ true = q in let o : ◌≡◌ {A = ℕ} 0 1 = cc in omega arith)

few-by : (base : ℕ) (seen : List ℕ) (at b : ℕ) (bs : List ℕ) (t k : Bool) → is_new (is_letter base) seen b ≡ t → leb 8 (length seen) ≡ k
    → cond (t && k) (some at) (ninth_from (is_letter base) (with_if t b seen) (at + 1) bs) ≡ none
    → tally (λ l. has (base + l) seen) 26 ≤ length seen
    → ((seen' : List ℕ) → ninth_from (is_letter base) seen' (at + 1) bs ≡ none → tally (λ l. has (base + l) seen') 26 ≤ length seen' → length seen' ≤ 8
    → tally (both base seen' bs) 26 ≤ 8)
    → length seen ≤ 8
    → tally (both base seen (b ∷ bs)) 26 ≤ 8
unfolding has
few-by base seen at b bs true true n q e c more h = absurd (let z : some at ≡ none = e in let o : ◌≡◌ {A = ℕ} 0 1 = cc in omega arith)
few-by base seen at b bs true false n q e c more h =
    let r = more (b ∷ seen) e (omega (arith, tally-one-more base b (λ l. has (base + l) seen) 26, c)) (omega (arith, leb-false 8 (length seen) q)) in
    let s = tally-same (both base seen (b ∷ bs)) (both base (b ∷ seen) bs) 26
    (λ l p. or_swap (has (base + l) seen) (eqb (base + l) b) (has (base + l) bs)) in
    omega (arith, r, s)
few-by base seen at b bs false k n q e c more h =
    let r = more seen e c h in
    let s = tally-same (both base seen (b ∷ bs)) (both base seen bs) 26
    (λ l p. or-absorbs (has (base + l) seen) (eqb (base + l) b) (has (base + l) bs)
    (λ i. let m : b ≡ base + l = omega (arith, eqb-true (base + l) b i) in
    ap (λ (x : ℕ). has x seen) (sym m) ∙ old-seen (is_letter base b) (has b seen) n (letter-in base b (omega arith) (omega arith)))) in
    omega (arith, r, s)

few-from : (base : ℕ) (v seen : List ℕ) (at : ℕ) → ninth_from (is_letter base) seen at v ≡ none → tally (λ l. has (base + l) seen) 26 ≤ length seen
    → length seen ≤ 8 → tally (both base seen v) 26 ≤ 8
unfolding ninth_from has
few-from base [] seen at e c h =
    omega (arith, tally-same (both base seen []) (λ l. has (base + l) seen) 26 (λ l p. or-false (has (base + l) seen)))
few-from base (b ∷ bs) seen at e c h =
    few-by base seen at b bs (is_new (is_letter base) seen b) (leb 8 (length seen)) refl refl e c (λ seen'. few-from base bs seen' (at + 1)) h

-- No. 12 found none: at most eight letters are used
pub ninth-few : (base at : ℕ) (v : List ℕ) → ninth (is_letter base) at v ≡ none → length (keep (λ l. has (base + l) v) (below 26)) ≤ 8
unfolding ninth has tally
ninth-few base at v e =
    few-from base v [] at e (omega (arith, tally-none 26)) (omega arith)
