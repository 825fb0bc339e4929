-- Flags by letter, filled unit by unit: a module runs where its flag is set or it runs in what is left of the word.
-- Assumes nothing.
use Prim.Native.Nat.{ℕ, ◌+◌, ◌-◌, ◌≤◌, ◌<◌}
use mathlib.Core.Bool.{Bool, true, false, ◌||◌, or-true, or-false}
use mathlib.Core.List.{List, [], ◌∷◌}
use mathlib.Core.Path.{◌≡◌, refl, ap, sym, ◌∙◌}
use native.Mathlib.Numerals.{add-one}
use native.Mathlib.Omega.{arith}
use lib.Dec.{eqb}
use lib.ListN.{length, drop, get_or, set, length-set}
use lib.Seq.{drop-cons, get_or-set_same, get_or-set_other}
use borrow.Author.Tests.{eqb-true, eqb-false}
use Rattle.paper.specs.Term.{Term}
use Rattle.paper.specs.Running.{runs, runs_l}
use Rattle.words.specs.declared.Unit.{Unit as Given}
use Rattle.words.specs.declared.Unit.TheVariants.{Sequence, Star, Act, Wait, One, Par, Module}
use Rattle.words.specs.Unit.{unit_mark}
use Rattle.words.specs.Word.{u_mod, mark, terms, Fine, Right, any_runs}
use Rattle.words.proofs.Marks.{clash, mark-mod}
use Rattle.words.proofs.Runs.{runs_here, runs_on, runs-end}
use Rattle.rewrite.specs.Steps.{left_of, state, Stands}
use Rattle.react.specs.States.{Running}

-- what runs in the word U: what the flags say, and what runs from its i-th unit on
pub record Seen (P U : List ℕ) (flags : List Bool) (i : ℕ) : Type 0 where
  pub within : i ≤ length U
  pub right : Right P (drop i U)
  pub wide : length flags ≡ 26
  pub so_far : (m : ℕ) → m < 26 → (get_or flags m false || any_runs m (terms P (drop i U))) ≡ any_runs m (terms P U)

pub seen_none : (P U : List ℕ) (flags : List Bool) → Right P U → length flags ≡ 26 → ((m : ℕ) → m < 26 → get_or flags m false ≡ false) → Seen P U flags 0
seen_none P U flags r w z = record {
  within = omega arith;
  right = r;
  wide = w;
  so_far = λ m k. ap (λ (b : Bool). b || any_runs m (terms P U)) (z m k);
}

its_module : (k : Given) (m : ℕ) → unit_mark k ≡ u_mod m → k ≡ Module m
its_module (Sequence j) m e = clash cc
its_module (Star j) m e = clash cc
its_module (Act i) m e = clash cc
its_module (Wait i) m e = clash cc
its_module One m e = clash cc
its_module Par m e = clash cc
its_module (Module a) m e = cc

module _ {P U : List ℕ} {flags : List Bool} {i : ℕ} (n : Seen P U flags i) (h : i < length U) where
  abbrev unit : ℕ
  unit = get_or U i 0

  parts : Right P (drop (i + 1) U) × Fine P (mark unit) (terms P (drop (i + 1) U))
  unfolding Right
  parts =
      let e : drop i U ≡ unit ∷ drop (i + 1) U = drop-cons U i 0 h ∙ ap (λ (k : ℕ). unit ∷ drop k U) (sym (add-one i)) in
      rw e at n.right

  -- a module's unit is that of one of a to z
  pub seen-letter : {m : ℕ} → u_mod m ≡ mark unit → m < 26
  unfolding Fine
  seen-letter e = rw (← e) at parts.1

  -- the module m of another unit: nothing changes
  passed : (m : ℕ) → m < 26 → (u_mod m ≡ mark unit → ⊥) → (get_or flags m false || any_runs m (terms P (drop (i + 1) U))) ≡ any_runs m (terms P U)
  passed m k d =
      let e : unit ≡ m + 770 → ⊥ = λ q. let z : unit - 770 ≡ m = omega arith in d (sym (mark-mod unit (omega arith) ∙ ap u_mod z)) in
      ap (λ (b : Bool). get_or flags m false || b) (sym (runs_on P U m i h n.right e).1) ∙ n.so_far m k

  pub seen_other : (k : Given) → unit_mark k ≡ mark unit → ((m : ℕ) → k ≡ Module m → ⊥) → Seen P U flags (i + 1)
  seen_other k e d = record {
    within = omega arith;
    right = parts.0;
    wide = n.wide;
    so_far = λ m l. passed m l (λ q. d m (its_module k m (e ∙ sym q)));
  }

  set-by : {m : ℕ} → u_mod m ≡ mark unit → 770 + m ≡ unit → (x : ℕ) → x < 26 → (b : Bool) → eqb x m ≡ b → (get_or (set flags m true) x false || any_runs x (terms P (drop (i + 1) U))) ≡ any_runs x (terms P U)
  set-by {m} e q x k true t =
      let z : m ≡ x = sym (eqb-true x m t) in
      let f : get_or (set flags m true) x false ≡ true = rw z (get_or-set_same flags x true false (omega (arith, n.wide))) in
      let r : any_runs x (terms P (drop i U)) ≡ true = runs_here P U x i h (omega arith) in
      ap (λ (b : Bool). b || any_runs x (terms P (drop (i + 1) U))) f
      ∙ (sym (ap (λ (b : Bool). get_or flags x false || b) r ∙ or-true (get_or flags x false)) ∙ n.so_far x k)
  set-by {m} e q x k false t =
      let z : x ≡ m → ⊥ = eqb-false x m t in
      ap (λ (b : Bool). b || any_runs x (terms P (drop (i + 1) U))) (get_or-set_other flags m x true false z)
      ∙ passed x k (λ f. let g : u_mod x ≡ u_mod m = f ∙ sym e in z (cc))

  pub seen_more : {m : ℕ} → u_mod m ≡ mark unit → 770 + m ≡ unit → Seen P U (set flags m true) (i + 1)
  seen_more {m} e q = record {
    within = omega arith;
    right = parts.0;
    wide = length-set flags m true ∙ n.wide;
    so_far = λ x k. set-by e q x k (eqb x m) refl;
  }

-- a state has one term at most, so what runs in one of its terms runs in what is left
pub runs-left : (m : ℕ) (ts : List Term) → length ts ≤ 1 → any_runs m ts ≡ runs_l m (left_of ts)
unfolding any_runs runs_l
runs-left m [] h = refl
runs-left m (t ∷ []) h = or-false (runs m t)
runs-left m (t ∷ u ∷ ts) h = absurd (omega arith)

pub seen_all : {P W : List ℕ} {s i : ℕ} {flags : List Bool} → Stands P W s → Seen P (drop s W) flags i → length (drop s W) ≤ i → Running flags (state P W s)
seen_all {P} {W} {s} {i} {flags} st n h m k =
    sym (ap (λ (b : Bool). get_or flags m false || b) (runs-end P (drop s W) m i h) ∙ or-false (get_or flags m false))
    ∙ (n.so_far m k ∙ runs-left m (terms P (drop s W)) st.single)
