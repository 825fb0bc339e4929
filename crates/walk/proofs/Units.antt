-- What a unit weighs, by its range: with the part's weight and the node's, or that it may not stand there (`Judging`).
-- Assumes nothing.
use Prim.Native.Nat.{ℕ, zero, suc, ◌+◌, ◌-◌, ◌≤◌, ◌<◌, max}
use mathlib.Core.Bool.{Bool, true, false}
use mathlib.Core.List.{List, [], ◌∷◌, ◌++◌, map, reverse}
use mathlib.Core.Logic.{◌↔◌}
use mathlib.Core.Path.{◌≡◌, refl, sym, ap, subst, ◌∙◌}
use native.Mathlib.Omega.{arith}
use lib.Dec.{T, leb}
use lib.ListN.{length, drop, take, get_or, length-map}
use borrow.Author.Tests.{le-leb, lt-leb, leb-true, leb-false}
use Rattle.std.proofs.Common.{Option, Some, None, OnSome}
use Rattle.std.specs.Bool.{then_some}
use Rattle.std.proofs.lemmas.List.{reverse-append, length-reverse}
use Rattle.paper.specs.Lists.{has}
use Rattle.paper.specs.Term.{Term, One}
use Rattle.laws.specs.Nodes.{kind, left, count, tree, intr}
use Rattle.laws.specs.Weight.{weight, weight_i}
use Rattle.nodes.specs.Weights.{node_weight}
use Rattle.words.specs.declared.Unit.{Unit as Given}
use Rattle.words.specs.declared.Unit.TheVariants.{Sequence, Star, Act, Wait, One as Skip, Par, Module}
use Rattle.words.specs.Unit.{unit_mark}
use Rattle.words.specs.Word.{Mark, u_seq, u_star, u_act, u_wait, u_one, u_par, u_mod, mark, arity, hd, apply, terms, Fine}
use Rattle.words.specs.Pieces.{Table, Asks, Drawn, Src, Past, Agree, top}
use Rattle.words.proofs.Marks.{by-lt, clash, says-one}
use Rattle.words.proofs.Determined.{inj}
use Rattle.words.proofs.Joins.{units}
use Rattle.words.proofs.Reading.{src-terms, drop-one}
use Rattle.walk.specs.Judging.{Tells, Weighted, Judged, Lights, Stacked, Behind}

-- ---- answers

pub tell_yes : {A : Type 0} (b : Bool) → b ≡ true → A → Tells b A
unfolding Tells
tell_yes b e a = rw e a

pub tell_no : {A : Type 0} (b : Bool) → b ≡ false → (A → ⊥) → Tells b A
unfolding Tells
tell_no b e n = rw e n

pub tell-leb : {A : Type 0} (m n : ℕ) → (m ≤ n → A) → (n < m → A → ⊥) → Tells (leb m n) A
unfolding Tells
tell-leb {A} m n f g = go (leb m n) refl
  where
    go : (b : Bool) → leb m n ≡ b → Tells b A
    go true e = f (leb-true m n e)
    go false e = g (leb-false m n e)

pub tells-true : {A : Type 0} (b : Bool) → Tells b A → b ≡ true → A
unfolding Tells
tells-true b t e = rw e at t

pub tells-false : {A : Type 0} (b : Bool) → Tells b A → b ≡ false → A → ⊥
unfolding Tells
tells-false b t e = rw e at t

pub tells_as : {A B : Type 0} (b : Bool) → Tells b A → (A → B) → (B → A) → Tells b B
unfolding Tells
tells_as true t f g = f t
tells_as false t f g = λ y. t (g y)

tell-agree : {A : Type 0} {x y : List ℕ} (b : Bool) → Agree b x y → (x ≡ y → A) → (A → x ≡ y) → Tells b A
unfolding Tells Agree
tell-agree true a f g = f a
tell-agree false a f g = λ q. a (g q)

-- two words are the same exactly where they say the same term
pub same-term : {P W D D₁ : List ℕ} {i z a : ℕ} {t : Term} (b : Bool) → Table P → Past P W i z → Drawn P D D₁ 96 a t
    → Agree b (take (z - i) (drop i W)) (take (96 - a) (drop a D₁)) → Tells b (top P W i ≡ t)
same-term {P} {W} {D} {D₁} {i} {z} {a} {t} b tb p d g =
    let o = p.held in
    let k = d.held in
    tell-agree b g
    (λ e.
    let words : o.word ≡ k.word = sym (units o) ∙ e ∙ units k in
    let says : top P W i ∷ [] ≡ t ∷ [] = sym o.says ∙ ap (terms P) words ∙ k.says in
    ap hd says)
    (λ e.
    units o
    ∙ inj P tb.nodes tb.apart o.word k.word o.ok k.ok (o.says ∙ ap (λ (v : Term). v ∷ []) e ∙ sym k.says)
    ∙ sym (units k))

-- ---- the weights of nodes

module _ {P vs : List ℕ} (w : Weighted P vs) (j : ℕ) (h : j < count P) where
  pub term-weight : kind P j ≤ 5 → get_or vs j 0 ≡ weight (tree P j)
  unfolding node_weight
  term-weight k = w.weights j h ∙ rw (le-leb (kind P j) 5 k)

  pub intr-weight : 5 < kind P j → get_or vs j 0 ≡ weight_i (intr P j)
  unfolding node_weight
  intr-weight k = w.weights j h ∙ rw (lt-leb (kind P j) 5 k)

-- ---- the stack

pub lights-hd : (ts : List Term) → Lights ts → weight (hd ts) ≤ 96
unfolding Lights weight
lights-hd [] l = omega arith
lights-hd (t ∷ ts) l = l.0

pub lights-drop : (k : ℕ) (ts : List Term) → Lights ts → Lights (drop k ts)
unfolding Lights
lights-drop zero ts l = l
lights-drop (suc k) [] l = tt
lights-drop (suc k) (t ∷ ts) l = lights-drop k ts l.1

-- the number a that is taken from the stack, which leaves ys, is the weight of the first term
pub record Popped (ts : List Term) (ys : List ℕ) (a : ℕ) : Type 0 where
  pub deep : 1 ≤ length ts
  pub weighs : a ≡ weight (hd ts)
  pub small : a ≤ 96
  pub light : Lights (drop 1 ts)
  pub stacked : Stacked ys (drop 1 ts)

pub popped : {ts : List Term} {xs ys : List ℕ} {a : ℕ} → Lights ts → Stacked xs ts → xs ≡ ys ++ a ∷ [] → Popped ts ys a
popped {ts} {xs} {ys} {a} l s e = go ts l (sym (ap reverse e ∙ reverse-append ys (a ∷ [])) ∙ s)
  where
    go : (us : List Term) → Lights us → a ∷ reverse ys ≡ map weight us → Popped us ys a
    go [] h q = clash cc
    go (u ∷ us) h q = let w : a ≡ weight u = cc in record { deep = omega arith; weighs = w; small = omega (arith, w, lights-hd (u ∷ us) h); light = lights-drop 1 (u ∷ us) h; stacked = cc }

pub behind-src : {P W : List ℕ} {i : ℕ} {xs : List ℕ} → Behind P W i xs → 1 ≤ length (terms P (drop (i + 1) W)) → Src P W (i + 1)
behind-src b d = record { right = b.right; deep = d }

-- where there is none, no term is there
pub empty : (ts : List Term) (xs : List ℕ) → Stacked xs ts → (0 < length xs → false ≡ true) → length ts ≡ 0
empty ts xs s n = by-lt 0 (length xs) (λ h. let e = n h in clash cc) (λ h. omega (arith, length-reverse xs, ap length s, length-map ts weight))

pub some-or : {A : Type 0} (r : Option ℕ) → A → OnSome r A
some-or None a = tt
some-or (Some v) a = a

-- ---- a unit's judgement

-- a unit wants its parts
pub fine-deep : (P : List ℕ) (m : Mark) (ts : List Term) → Fine P m ts → arity m ≤ length ts
unfolding Fine
fine-deep P (u_seq j) ts f = f.0
fine-deep P (u_star j) ts f = f.0
fine-deep P (u_act j) ts f = f.0
fine-deep P (u_wait j) ts f = omega arith
fine-deep P u_one ts f = omega arith
fine-deep P u_par ts f = f
fine-deep P (u_mod a) ts f = omega arith

module _ {P ms : List ℕ} {ts : List Term} where
  judged : (m : Mark) (v : ℕ) → Fine P m ts → ((a : ℕ) → m ≡ u_mod a → T (has a ms)) → v ≡ weight (hd (apply P m ts)) → Judged P ms m ts (Some v)
  judged m v f o e = (record { fine = f; own = o }, e)

  pub seq-is : {vs : List ℕ} (y a r : ℕ) → Weighted P vs → y < count P → kind P y ≤ 5 → 1 ≤ length ts → a ≡ weight (hd ts)
      → r ≡ max (max a 1 + 1) (get_or vs y 0) → Judged P ms (u_seq y) ts (Some r)
  unfolding Fine apply weight
  seq-is y a r w h k d e q = judged (u_seq y) r (d, (h, k)) (λ x z. clash cc) (omega (arith, term-weight w y h k))

  pub star-is : (j a r : ℕ) → j < count P → kind P j ≡ 4 → 1 ≤ length ts → a ≡ weight (hd ts) → hd ts ≡ tree P (left P j)
      → r ≡ max a 1 + 1 → Judged P ms (u_star j) ts (Some r)
  unfolding Fine apply weight
  star-is j a r h k d e t q = judged (u_star j) r (d, (h, (k, t))) (λ x z. clash cc) (omega arith)

  pub act-is : {vs : List ℕ} (j a r : ℕ) → Weighted P vs → j < count P → 5 < kind P j → 1 ≤ length ts → a ≡ weight (hd ts) → (hd ts ≡ One → ⊥)
      → r ≡ max (a + 1) (get_or vs j 0) → Judged P ms (u_act j) ts (Some r)
  unfolding Fine apply weight
  act-is j a r w h k d e o q = judged (u_act j) r (d, (h, (k, o))) (λ x z. clash cc) (omega (arith, intr-weight w j h k))

  pub wait-is : {vs : List ℕ} (j r : ℕ) → Weighted P vs → j < count P → 5 < kind P j → r ≡ max (get_or vs j 0) 1 → Judged P ms (u_wait j) ts (Some r)
  unfolding Fine apply weight
  wait-is j r w h k q = judged (u_wait j) r (h, k) (λ x z. clash cc) (omega (arith, intr-weight w j h k))

  pub one-is : Judged P ms u_one ts (Some 0)
  unfolding Fine apply weight
  one-is = judged u_one 0 tt (λ x z. clash cc) refl

  pub par-is : (a b r : ℕ) → 2 ≤ length ts → a ≡ weight (hd ts) → b ≡ weight (hd (drop 1 ts)) → r ≡ max a 1 + max b 1 + 1 → Judged P ms u_par ts (Some r)
  unfolding Fine apply weight
  par-is a b r d f s q = judged u_par r d (λ x z. clash cc) (omega (arith, ap (λ (us : List Term). weight (hd us)) (drop-one ts)))

  pub module-is : (m : ℕ) → has m ms ≡ true → ((x : ℕ) → T (has x ms) → x < 26) → Judged P ms (u_mod m) ts (Some 1)
  unfolding Fine apply weight
  module-is m h small =
      let t : T (has m ms) = rw h tt in
      judged (u_mod m) 1 (small m t) (λ a e. let z : m ≡ a = cc in subst (λ (x : ℕ). T (has x ms)) z t) refl

  -- too few terms for what the unit says
  pub shallow : (m k : Mark) → k ≡ m → length ts < arity k → Judged P ms m ts None
  shallow m k e h y = omega (arith, ap arity e, fine-deep P m ts y.fine)

pub module-judged : (P ms : List ℕ) (ts : List Term) (m : ℕ) → ((x : ℕ) → T (has x ms) → x < 26) → Judged P ms (u_mod m) ts (then_some (has m ms) 1)
module-judged P ms ts m small = go (has m ms) refl
  where
    go : (b : Bool) → has m ms ≡ b → Judged P ms (u_mod m) ts (then_some b 1)
    go true h = module-is m h small
    go false h = λ y. subst T h (y.own m refl)

its_one : (k : Given) → unit_mark k ≡ u_one → k ≡ Skip
its_one (Sequence j) e = clash cc
its_one (Star j) e = clash cc
its_one (Act j) e = clash cc
its_one (Wait j) e = clash cc
its_one Skip e = refl
its_one Par e = clash cc
its_one (Module m) e = clash cc

-- a word says `1` exactly where its first unit does
pub one_unit : {P W : List ℕ} {i : ℕ} → Src P W i → (k : Given) → unit_mark k ≡ mark (get_or W i 0) → (top P W i ≡ One) ↔ (k ≡ Skip)
unfolding apply
one_unit {P} {W} {i} s k q = (
  λ e. its_one k (q ∙ says-one P (mark (get_or W i 0)) (terms P (drop (i + 1) W)) (sym (ap hd (src-terms P W i s)) ∙ e)),
  λ e. ap hd (src-terms P W i s) ∙ rw (sym q ∙ ap unit_mark e),
)

-- what a starred node's part asks to be written
pub part-asks : {P vs : List ℕ} {a n : ℕ} (j : ℕ) → Weighted P vs → j < count P → kind P j ≡ 4 → get_or vs (left P j) 0 ≡ a → a ≤ 96 → n ≡ 96 → Asks P (left P j) 96 n
part-asks {P} {vs} {a} {n} j w h k e l q =
    let d : left P j < count P = omega (arith, w.table.nodes.lower j) in
    let t = w.table.nodes.of_star j h k in
    record { table = w.table; here = d; term = t; space = omega (arith, term-weight w (left P j) d t); top = omega arith }

pub star-heavy : {P vs : List ℕ} {a : ℕ} (j : ℕ) (ts : List Term) → Weighted P vs → (get_or vs (left P j) 0 ≡ a → ⊥) → a ≡ weight (hd ts) → Fine P (u_star j) ts → ⊥
unfolding Fine
star-heavy {P} {vs} {a} j ts w n e f =
    let d : left P j < count P = omega (arith, w.table.nodes.lower j, f.1.0) in
    let t = w.table.nodes.of_star j f.1.0 f.1.1.0 in
    n (term-weight w (left P j) d t ∙ sym (e ∙ ap weight f.1.1.1))
