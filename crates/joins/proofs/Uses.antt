-- A letter stands in a part's text exactly where its tree is worth `true` by the rule `sharing`: marks are no letters, and each production's text is
-- the texts of its parts and marks. Assumes nothing.
use Prim.Native.Nat.{ℕ, ◌+◌}
use mathlib.Core.Path.{◌≡◌, refl, sym, ap, ◌∙◌}
use mathlib.Core.Bool.{Bool, true, false, ◌&&◌, ◌||◌}
use mathlib.Core.List.{List, [], ◌∷◌, ◌++◌}
use native.Mathlib.Omega.{arith}
use lib.Dec.{eqb}
use lib.ListN.{length}
use borrow.Author.Tests.{ne_eqb}
use Rattle.paper.specs.Lists.{has}
use Rattle.paper.specs.Bytes.{is_module, is_event, star_mark, slash_mark, one_mark, colon_mark, open_mark, close_mark, bar_mark, brace_mark, unbrace_mark}
use Rattle.paper.specs.Grammar.{Join, bar, bars, Sequence, Item, Starred, Atom, Body, Interruption, Chain, only, then, plain, until, once, again, named, never, group, single, beside, event, treated, braces, last, next, module_byte, event_byte, join_text, print_s, print_i, print_t, print_a, print_b, print_n, print_c}
use Rattle.laws.specs.Placed.{Tree, leaf, join, seq_code, join_code, placed_s, placed_i, placed_t, placed_a, placed_b, placed_n, placed_c}
use Rattle.stars.specs.Nodes.{is_star, is_bars, is_join, uses, sharing}
use Rattle.letters.proofs.Flags.{or-false}
use Rattle.stars.proofs.Least.{fold, LeafCode}
use Rattle.stars.proofs.Stars.{module-leaf, event-leaf}

abbrev pub is_alpha : ℕ → Bool
is_alpha x = is_module x || is_event x

pub or-first : (a b : Bool) → (a || b) ≡ false → a ≡ false
or-first true b e = e
or-first false b e = refl

pub leaf-no-bars : (c : ℕ) → LeafCode c → is_bars c ≡ false
leaf-no-bars c k =
    or-first (is_bars c) (eqb c 59)
    (or-first (is_bars c || eqb c 59) (eqb c 47)
    (or-first (is_bars c || eqb c 59 || eqb c 47) (eqb c 58) (or-first (is_bars c || eqb c 59 || eqb c 47 || eqb c 58) (eqb c 33) k.1)))

uses-leaf : (x c : ℕ) (y z : Bool) → LeafCode c → uses x c y z ≡ eqb x c
uses-leaf x c y z k =
    ap (λ (b : Bool). b && z || is_join c && (y || z) || eqb x c) k.0 ∙ ap (λ (b : Bool). b && (y || z) || eqb x c) k.1

-- a letter is no mark
pub apart : (x m : ℕ) → is_alpha x ≡ true → is_alpha m ≡ false → eqb x m ≡ false
apart x m a b =
    ne_eqb x m (λ (e : x ≡ m). let z : true ≡ false = sym a ∙ (ap is_alpha e ∙ b) in let o : ◌≡◌ {A = ℕ} 0 1 = cc in omega arith)

or_same : (a b c d : Bool) → a ≡ b → c ≡ d → (a || c) ≡ (b || d)
or_same a b c d p q = ap (λ (x : Bool). x || c) p ∙ ap (λ (x : Bool). b || x) q

or_assoc : (a b c : Bool) → (a || b || c) ≡ (a || (b || c))
or_assoc true b c = refl
or_assoc false b c = refl

pub has-append : (x : ℕ) (v w : List ℕ) → has x (v ++ w) ≡ (has x v || has x w)
unfolding has
has-append x [] w = refl
has-append x (y ∷ v) w = ap (λ (b : Bool). eqb x y || b) (has-append x v w) ∙ sym (or_assoc (eqb x y) (has x v) (has x w))

module _ (x : ℕ) (alpha : is_alpha x ≡ true) where
  has-mark : (m : ℕ) (v : List ℕ) → is_alpha m ≡ false → has x (m ∷ v) ≡ has x v
  unfolding has
  has-mark m v b = ap (λ (t : Bool). t || has x v) (apart x m alpha b)

  -- a part, a mark, a part; a part and a mark; a join and a part
  has-between : (v : List ℕ) (m : ℕ) (w : List ℕ) → is_alpha m ≡ false → has x (v ++ (m ∷ w)) ≡ (has x v || has x w)
  has-between v m w b = has-append x v (m ∷ w) ∙ ap (λ (t : Bool). has x v || t) (has-mark m w b)

  has-before : (v : List ℕ) (m : ℕ) → is_alpha m ≡ false → has x (v ++ (m ∷ [])) ≡ has x v
  unfolding has
  has-before v m b = has-between v m [] b ∙ or-false (has x v)

  has_joined : (j : Join) (v : List ℕ) → has x (join_text j ++ v) ≡ has x v
  has_joined bar v = has-mark bar_mark v refl
  has_joined bars v = has-mark bar_mark (bar_mark ∷ v) refl ∙ has-mark bar_mark v refl

  uses-join : (c : ℕ) (y z : Bool) → is_star c ≡ false → is_join c ≡ true → is_alpha c ≡ false → uses x c y z ≡ (y || z)
  uses-join c y z s j b =
      ap (λ (t : Bool). t && z || is_join c && (y || z) || eqb x c) s
      ∙ (ap (λ (t : Bool). t && (y || z) || eqb x c) j ∙ (ap (λ (t : Bool). y || z || t) (apart x c alpha b) ∙ or-false (y || z)))

  uses-star : (z : Bool) → uses x star_mark false z ≡ z
  uses-star z = ap (λ (t : Bool). z || false || t) (apart x star_mark alpha refl) ∙ (or-false (z || false) ∙ or-false z)

  has_one : (c : ℕ) → LeafCode c → has x (c ∷ []) ≡ uses x c false false
  unfolding has
  has_one c k = or-false (eqb x c) ∙ sym (uses-leaf x c false false k)

  -- the letters of two parts are those of their join
  both-uses : (c at : ℕ) (t u : Tree) (a b : Bool) → is_star c ≡ false → is_join c ≡ true → is_alpha c ≡ false
      → a ≡ fold (sharing x) t → b ≡ fold (sharing x) u → (a || b) ≡ fold (sharing x) (join c at t u)
  unfolding fold
  both-uses c at t u a b s j n p q =
      or_same a (fold (sharing x) t) b (fold (sharing x) u) p q ∙ sym (uses-join c (fold (sharing x) t) (fold (sharing x) u) s j n)

  both-joined : (j : Join) (at : ℕ) (t u : Tree) (a b : Bool) → a ≡ fold (sharing x) t → b ≡ fold (sharing x) u
      → (a || b) ≡ fold (sharing x) (join (join_code j) at t u)
  both-joined bar at t u a b p q = both-uses (join_code bar) at t u a b refl refl refl p q
  both-joined bars at t u a b p q = both-uses (join_code bars) at t u a b refl refl refl p q

  mutual
    unfolding placed_s fold print_s

    pub sequence-uses : (at : ℕ) (s : Sequence) → has x (print_s s) ≡ fold (sharing x) (placed_s at s)
    sequence-uses at (only i) = item-uses at i
    sequence-uses at (then i s) =
        has-append x (print_i i) (print_s s)
        ∙ both-uses seq_code 0 (placed_i at i) (placed_s (at + length (print_i i)) s) _ _ refl refl refl (item-uses at i)
        (sequence-uses (at + length (print_i i)) s)

    item-uses : (at : ℕ) (i : Item) → has x (print_i i) ≡ fold (sharing x) (placed_i at i)
    item-uses at (plain t) = starred-uses at t
    item-uses at (until t n) =
        has-between (print_t t) slash_mark (print_n n) refl
        ∙ both-uses slash_mark (at + length (print_t t)) (placed_t at t) (placed_n (at + length (print_t t) + 1) n) _ _ refl refl refl (starred-uses at t)
        (interruption-uses (at + length (print_t t) + 1) n)

    starred-uses : (at : ℕ) (t : Starred) → has x (print_t t) ≡ fold (sharing x) (placed_t at t)
    starred-uses at (once a) = atom-uses at a
    starred-uses at (again a) = has-before (print_a a) star_mark refl ∙ (atom-uses at a ∙ sym (uses-star (fold (sharing x) (placed_a at a))))

    atom-uses : (at : ℕ) (a : Atom) → has x (print_a a) ≡ fold (sharing x) (placed_a at a)
    atom-uses at (named m h) = has_one (module_byte m) (module-leaf m h)
    atom-uses at never = has_one one_mark (refl, refl)
    atom-uses at (group b) = has-mark open_mark (print_b b ++ (close_mark ∷ [])) refl ∙ (has-before (print_b b) close_mark refl ∙ body-uses (at + 1) b)

    pub body-uses : (at : ℕ) (b : Body) → has x (print_b b) ≡ fold (sharing x) (placed_b at b)
    body-uses at (single s) = sequence-uses at s
    body-uses at (beside s b) =
        has-between (print_s s) bar_mark (bar_mark ∷ print_b b) refl
        ∙ both-uses bar_mark (at + length (print_s s)) (placed_s at s) (placed_b (at + length (print_s s) + 2) b) _ _ refl refl refl (sequence-uses at s)
        (has-mark bar_mark (print_b b) refl ∙ body-uses (at + length (print_s s) + 2) b)

    pub interruption-uses : (at : ℕ) (n : Interruption) → has x (print_n n) ≡ fold (sharing x) (placed_n at n)
    interruption-uses at (event e h) = has_one (event_byte e) (event-leaf e h)
    interruption-uses at (treated e h i) =
        has-append x (event_byte e ∷ []) (colon_mark ∷ print_i i)
        ∙ both-uses colon_mark (at + 1) (leaf (event_byte e) at) (placed_i (at + 2) i) _ _ refl refl refl (has_one (event_byte e) (event-leaf e h))
        (has-mark colon_mark (print_i i) refl ∙ item-uses (at + 2) i)
    interruption-uses at (braces j n c) =
        has-mark brace_mark (print_n n ++ (print_c j c ++ (unbrace_mark ∷ []))) refl
        ∙ (has-append x (print_n n) (print_c j c ++ (unbrace_mark ∷ []))
        ∙ both-joined j (at + 1 + length (print_n n)) (placed_n (at + 1) n) (placed_c j (at + 1 + length (print_n n)) c) _ _ (interruption-uses (at + 1) n)
        (has-before (print_c j c) unbrace_mark refl ∙ chain-uses j (at + 1 + length (print_n n)) c))

    pub chain-uses : (j : Join) (at : ℕ) (c : Chain) → has x (print_c j c) ≡ fold (sharing x) (placed_c j at c)
    chain-uses j at (last n) = has_joined j (print_n n) ∙ interruption-uses (at + length (join_text j)) n
    chain-uses j at (next n c) =
        has_joined j (print_n n ++ print_c j c)
        ∙ (has-append x (print_n n) (print_c j c)
        ∙ both-joined j (at + length (join_text j) + length (print_n n)) (placed_n (at + length (join_text j)) n)
        (placed_c j (at + length (join_text j) + length (print_n n)) c) _ _ (interruption-uses (at + length (join_text j)) n)
        (chain-uses j (at + length (join_text j) + length (print_n n)) c))
