-- A `||` that joins interruptions stands between the texts of two interruptions (`joined-stands`): so it is of every `||` that the paper finds in a
-- part of a program, by the grammar. Assumes nothing.
use Prim.Native.Nat.{ℕ, ◌+◌}
use mathlib.Core.Path.{◌≡◌, refl, sym, ap, subst, ◌∙◌}
use mathlib.Core.Bool.{Bool, true, false, cond}
use mathlib.Core.List.{List, [], ◌∷◌, ◌++◌, append_assoc, append-nil}
use mathlib.Core.Option.{some}
use native.Mathlib.Omega.{arith}
use lib.ListN.{length, length-append}
use Rattle.paper.specs.Bytes.{dot_mark, slash_mark, star_mark, colon_mark, open_mark, close_mark, brace_mark, bar_mark, unbrace_mark}
use Rattle.paper.specs.Grammar.{Join, bar, bars, Sequence, Item, Starred, Atom, Body, Interruption, Chain, only, then, plain, until, once, again, named, never, group, single, beside, event, treated, braces, last, next, event_byte, join_text, print_s, print_i, print_t, print_a, print_b, print_n, print_c, printed}
use Rattle.paper.specs.Limits.{Bars, chain_bars, bars_s, bars_i, bars_t, bars_a, bars_b, bars_n, bars_c, first_bars, braces_joined}
use Rattle.paper.proofs.Choices.{clash}
use Rattle.claims.specs.Reasons.{Joint}
use Rattle.claims.proofs.Where.{Each, each_map, each_append}

-- ---- in a text that begins at the place `at`

record Within (at : ℕ) (v : List ℕ) (p : ℕ) : Type 0 where
  inside : ℕ
  place : p ≡ at + inside
  joint : Joint v inside

within-behind : (at : ℕ) (u v : List ℕ) (p : ℕ) → Within (at + length u) v p → Within at (u ++ v) p
within-behind at u v p w =
    let e = w.place in
    let j = w.joint in
    let k = j.place in
    record {
      inside = length u + w.inside;
      place = omega arith;
      joint = record {
        before = u ++ j.before;
        left = j.left;
        right = j.right;
        after = j.after;
        is = ap (λ (xs : List ℕ). u ++ xs) j.is ∙ sym (append_assoc u j.before _);
        place = omega (arith, length-append u j.before);
      };
    }

within-front : (at : ℕ) (v w : List ℕ) (p : ℕ) → Within at v p → Within at (v ++ w) p
within-front at v w p h =
    let j = h.joint in
    record {
      inside = h.inside;
      place = h.place;
      joint = record {
        before = j.before;
        left = j.left;
        right = j.right;
        after = j.after ++ w;
        is = ap (λ (xs : List ℕ). xs ++ w) j.is ∙ simp append_assoc;
        place = j.place;
      };
    }

-- each `||` of the list that joins interruptions does so in the text
abbrev Joins : ℕ → List ℕ → Bars → Type 0
Joins at v b = b.in_braces ≡ true → Within at v b.place

abbrev All : ℕ → List ℕ → List Bars → Type 0
All at v bs = Each (Joins at v) bs

all-behind : (at to : ℕ) (u v : List ℕ) (bs : List Bars) → to ≡ at + length u → All to v bs → All at (u ++ v) bs
all-behind at to u v bs e h =
    each_map (Joins to v) (Joins at (u ++ v)) (λ b f i. within-behind at u v b.place (subst (λ (k : ℕ). Within k v b.place) e (f i))) bs h

all-front : (at : ℕ) (v w : List ℕ) (bs : List Bars) → All at v bs → All at (v ++ w) bs
all-front at v w bs h = each_map (Joins at v) (Joins at (v ++ w)) (λ b f i. within-front at v w b.place (f i)) bs h

all_both : (at : ℕ) (v : List ℕ) (bs ds : List Bars) → All at v bs → All at v ds → All at v (bs ++ ds)
all_both at v bs ds h k = each_append (Joins at v) bs ds h k

-- the join behind the interruption n, in front of the chain c
chain-joins : (j : Join) (at to : ℕ) (n : Interruption) (c : Chain) (w v : List ℕ) → to ≡ at + length (print_n n) → v ≡ print_n n ++ (print_c j c ++ w)
    → All at v (chain_bars j to (print_n n) (print_c j c))
unfolding Each print_c
chain-joins bar at to n c w v e h = tt
chain-joins bars at to n (last m) w v e h =
    (λ i. record { inside = length (print_n n); place = e; joint = record { before = []; left = n; right = m; after = w; is = h; place = omega arith } }, tt)
chain-joins bars at to n (next m c) w v e h = (
  λ i.
      record {
        inside = length (print_n n);
        place = e;
        joint = record {
          before = [];
          left = n;
          right = m;
          after = print_c bars c ++ w;
          is = h ∙ ap (λ (xs : List ℕ). print_n n ++ (bar_mark ∷ bar_mark ∷ xs)) (append_assoc (print_n m) (print_c bars c) w);
          place = omega arith;
        };
      },
  tt,
)

-- ---- by the grammar

mutual
  unfolding print_s print_i print_t print_a print_b print_n print_c bars_s bars_i bars_t bars_a bars_b bars_n bars_c Each

  all-S : (at : ℕ) (s : Sequence) → All at (print_s s) (bars_s at s)
  all-S at (only i) = all-I at i
  all-S at (then i s) =
      all_both at (print_i i ++ print_s s) (bars_i at i) (bars_s (at + length (print_i i)) s) (all-front at (print_i i) (print_s s) (bars_i at i) (all-I at i))
      (all-behind at (at + length (print_i i)) (print_i i) (print_s s) (bars_s (at + length (print_i i)) s) refl (all-S (at + length (print_i i)) s))

  all-I : (at : ℕ) (i : Item) → All at (print_i i) (bars_i at i)
  all-I at (plain t) = all-T at t
  all-I at (until t n) =
      let k = at + length (print_t t) in
      all_both at (print_t t ++ (slash_mark ∷ print_n n)) (bars_t at t) (bars_n (k + 1) n) (all-front at (print_t t) (slash_mark ∷ print_n n) (bars_t at t) (all-T at t))
      (all-behind at k (print_t t) (slash_mark ∷ print_n n) (bars_n (k + 1) n) refl (all-behind k (k + 1) (slash_mark ∷ []) (print_n n) (bars_n (k + 1) n) refl (all-N (k + 1) n)))

  all-T : (at : ℕ) (t : Starred) → All at (print_t t) (bars_t at t)
  all-T at (once a) = all-A at a
  all-T at (again a) = all-front at (print_a a) (star_mark ∷ []) (bars_a at a) (all-A at a)

  all-A : (at : ℕ) (a : Atom) → All at (print_a a) (bars_a at a)
  all-A at (named m h) = tt
  all-A at never = tt
  all-A at (group b) =
      all-behind at (at + 1) (open_mark ∷ []) (print_b b ++ (close_mark ∷ [])) (bars_b (at + 1) b) refl
      (all-front (at + 1) (print_b b) (close_mark ∷ []) (bars_b (at + 1) b) (all-B (at + 1) b))

  all-B : (at : ℕ) (b : Body) → All at (print_b b) (bars_b at b)
  all-B at (single s) = all-S at s
  all-B at (beside s b) =
      let k = at + length (print_s s) in
      let v = print_s s ++ (bar_mark ∷ bar_mark ∷ print_b b) in
      all_both at v (bars_s at s) _ (all-front at (print_s s) (bar_mark ∷ bar_mark ∷ print_b b) (bars_s at s) (all-S at s)) (
        λ e. clash (cc),
        all-behind at k (print_s s) (bar_mark ∷ bar_mark ∷ print_b b) (bars_b (k + 2) b) refl
            (all-behind k (k + 2) (bar_mark ∷ bar_mark ∷ []) (print_b b) (bars_b (k + 2) b) refl (all-B (k + 2) b)),
      )

  all-N : (at : ℕ) (n : Interruption) → All at (print_n n) (bars_n at n)
  all-N at (event e h) = tt
  all-N at (treated e h i) = all-behind at (at + 2) (event_byte e ∷ colon_mark ∷ []) (print_i i) (bars_i (at + 2) i) refl (all-I (at + 2) i)
  all-N at (braces j n c) =
      let k = at + 1 in
      let m = k + length (print_n n) in
      let v = print_n n ++ (print_c j c ++ (unbrace_mark ∷ [])) in
      let more = chain_bars j m (print_n n) (print_c j c) ++ bars_c j m c in
      all-behind at k (brace_mark ∷ []) v (bars_n k n ++ more) refl
      (all_both k v (bars_n k n) more (all-front k (print_n n) (print_c j c ++ (unbrace_mark ∷ [])) (bars_n k n) (all-N k n))
      (all_both k v (chain_bars j m (print_n n) (print_c j c)) (bars_c j m c) (chain-joins j k m n c (unbrace_mark ∷ []) v refl refl)
      (all-behind k m (print_n n) (print_c j c ++ (unbrace_mark ∷ [])) (bars_c j m c) refl
      (all-front m (print_c j c) (unbrace_mark ∷ []) (bars_c j m c) (all-C j m c)))))

  all-C : (j : Join) (at : ℕ) (c : Chain) → All at (print_c j c) (bars_c j at c)
  all-C j at (last n) =
      let k = at + length (join_text j) in all-behind at k (join_text j) (print_n n) (bars_n k n) refl (all-N k n)
  all-C j at (next n c) =
      let k = at + length (join_text j) in
      let m = k + length (print_n n) in
      let v = print_n n ++ print_c j c in
      let more = chain_bars j m (print_n n) (print_c j c) ++ bars_c j m c in
      all-behind at k (join_text j) v (bars_n k n ++ more) refl
      (all_both k v (bars_n k n) more (all-front k (print_n n) (print_c j c) (bars_n k n) (all-N k n))
      (all_both k v (chain_bars j m (print_n n) (print_c j c)) (bars_c j m c)
      (chain-joins j k m n c [] v refl (ap (λ (xs : List ℕ). print_n n ++ xs) (sym (append-nil (print_c j c)))))
      (all-behind k m (print_n n) (print_c j c) (bars_c j m c) refl (all-C j m c))))

-- ---- the first of them

first-joins : (at : ℕ) (v : List ℕ) (bs : List Bars) → All at v bs → (p : ℕ) → first_bars (λ b. b.in_braces) bs ≡ some p → Within at v p
unfolding first_bars Each
first-joins at v [] h p e = clash (cc)
first-joins at v (b ∷ bs) h p e = by b.in_braces h.0 (λ k. first-joins at v bs h.1 p k) e
  where
    by : (t : Bool) → (t ≡ true → Within at v b.place) → (first_bars (λ b. b.in_braces) bs ≡ some p → Within at v p)
        → cond t (some b.place) (first_bars (λ b. b.in_braces) bs) ≡ some p → Within at v p
    by true f g z = let y : b.place ≡ p = cc in subst (Within at v) y (f refl)
    by false f g z = g z

-- the place of No. 16 in the text of a program
pub joined-stands : (at : ℕ) (s : Sequence) (p : ℕ) → braces_joined at s ≡ some p → (k : ℕ) × (p ≡ at + k) × Joint (printed s) k
unfolding braces_joined printed
joined-stands at s p h =
    let w = first-joins at (print_s s ++ (dot_mark ∷ [])) (bars_s at s) (all-front at (print_s s) (dot_mark ∷ []) (bars_s at s) (all-S at s)) p h in
    (w.inside, w.place, w.joint)
