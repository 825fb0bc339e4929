-- How answers are put together: the machine's way is joined end to end, and the nodes stand behind each other (`Stores`). What is left to a
-- production is its tree (`Productions`).
-- Assumes nothing.
use Prim.Native.Nat.{ℕ, ◌+◌, ◌-◌, ◌≤◌, ◌<◌}
use mathlib.Core.List.{List, [], ◌∷◌, ◌++◌}
use mathlib.Core.Path.{◌≡◌, sym, ap, subst, ◌∙◌}
use native.Mathlib.Omega.{arith}
use lib.ListN.{length, drop, length-set}
use Rattle.paper.specs.Bytes.{star_mark}
use Rattle.paper.specs.Parse.{Code, Sym, s_emit, pre, run}
use Rattle.laws.specs.Placed.{Tree, leaf, star, join}
use Rattle.laws.proofs.ParseComplete.{pre-pre}
use Rattle.syntax.specs.Store.{Store, store, node, writes}
use Rattle.syntax.specs.Readers.{Sort, stack_of, here, Ready, Read, SaysAt, SaysBad, Cases, Says}
use Rattle.syntax.specs.declared.Got.{Got}
use Rattle.syntax.specs.declared.Got.TheVariants.{At, Bad}
use Rattle.syntax.proofs.Stores.{writes-leaf, writes-star, writes-join, writes-code, writes-left, writes-place}
use Rattle.syntax.proofs.Steps.{pre-nil, Goes}

-- ---- the answer of a call, where it is known

pub said_at : {σ : Sort} {s : List ℕ} {at : ℕ} {S : Store} {c l p : List ℕ} {r : Got} {n f : ℕ} → r ≡ At n f → Says σ s at S c l p r → SaysAt σ s at S n (store c l p f)
said_at {σ} {s} {at} {S} {c} {l} {p} e h = subst (Cases σ s at S c l p) e h.says

pub said-bad : {σ : Sort} {s : List ℕ} {at : ℕ} {S : Store} {c l p : List ℕ} {r : Got} {q : ℕ} → r ≡ Bad q → Says σ s at S c l p r → SaysBad (stack_of σ) s at q
said-bad {σ} {s} {at} {S} {c} {l} {p} e h = subst (Cases σ s at S c l p) e h.says

pub gives-bad : {σ : Sort} {s : List ℕ} {at : ℕ} {S : Store} {c l p : List ℕ} {r : Got} {q : ℕ} → r ≡ Bad q → SaysBad (stack_of σ) s at q → Says σ s at S c l p r
gives-bad {σ} {s} {at} {S} {c} {l} {p} e h = record { says = subst (Cases σ s at S c l p) (sym e) h }

-- ---- what the next reader asks

pub ready_on : {s : List ℕ} {at : ℕ} {S : Store} (n : ℕ) → at ≤ n → Ready s at S → Ready s n S
ready_on n h r = record { short = r.short; room = r.room; few = omega (arith, r.few) }

pub ready-node : {s : List ℕ} {at : ℕ} {S S₁ : Store} (n c l p : ℕ) → at < n → Ready s at S → S₁ ≡ node S c l p → Ready s n S₁
ready-node {at} {S} {S₁} n c l p h r u = let f : S₁.free ≡ S.free + 1 = ap (λ (W : Store). W.free) u in record {
  short = r.short;
  room = record {
    code = ap (λ (W : Store). length W.code) u ∙ length-set S.code S.free c ∙ r.room.code;
    left = ap (λ (W : Store). length W.left) u ∙ length-set S.left S.free l ∙ r.room.left;
    place = ap (λ (W : Store). length W.place) u ∙ length-set S.place S.free p ∙ r.room.place;
  };
  few = omega (arith, r.few);
}

module _ {s : List ℕ} {at : ℕ} {S : Store} {n : ℕ} {S₁ : Store} {X Y : List Sym → List Sym} {t : Tree} {x : List Code} where
  pub ready-behind : Ready s at S → Read s at S n S₁ X Y t x → Ready s n S₁
  ready-behind r a = record {
    short = r.short;
    room = record {
      code = ap (λ (W : Store). length W.code) a.wrote ∙ writes-code S t ∙ r.room.code;
      left = ap (λ (W : Store). length W.left) a.wrote ∙ writes-left S t ∙ r.room.left;
      place = ap (λ (W : Store). length W.place) a.wrote ∙ writes-place S t ∙ r.room.place;
    };
    few = omega (arith, r.few, a.few, a.more);
  }

  -- ---- one answer

  -- more is to come behind it
  pub under : (y : Sym) (Z : List Sym → List Sym) → Read s at S n S₁ X Y t x → Read s at S n S₁ (λ K. X (y ∷ Z K)) (λ K. Y (y ∷ Z K)) t x
  under y Z a = record {
    more = a.more;
    within = a.within;
    some = a.some;
    few = a.few;
    wrote = a.wrote;
    reads = λ k K. a.reads y (Z (k ∷ K));
  }

  -- bytes in front of it
  pub enter : {i : ℕ} {W : List Sym → List Sym} → i ≤ at → Goes s i W at X [] → Read s at S n S₁ X Y t x → Read s i S n S₁ W Y t x
  enter h e a = record {
    more = omega (arith, a.more);
    within = a.within;
    some = a.some;
    few = omega (arith, a.more, a.few);
    wrote = a.wrote;
    reads = λ k K. e.goes k K ∙ pre-nil (run (drop at s) (X (k ∷ K)) at) ∙ a.reads k K;
  }

  -- bytes behind it, or a symbol that passes
  pub leave : {m : ℕ} {Z : List Sym → List Sym} {o : List Code} → n ≤ m → m ≤ length s → Read s at S n S₁ X Y t x → Goes s n Y m Z o → Read s at S m S₁ X Z t (x ++ o)
  leave {m} {Z} {o} h w a e = record {
    more = omega (arith, a.more);
    within = w;
    some = a.some;
    few = omega (arith, a.more, a.few);
    wrote = a.wrote;
    reads = λ k K. a.reads k K ∙ ap (pre x) (e.goes k K) ∙ pre-pre x o (run (drop m s) (Z (k ∷ K)) m);
  }

  -- a star behind it
  pub starry : {S₂ : Store} {Z : List Sym → List Sym} {o : List Code} → n < length s → Read s at S n S₁ X Y t x → Goes s n Y (n + 1) Z o → S₂ ≡ node S₁ star_mark 0 n
      → Read s at S (n + 1) S₂ X Z (star n t) (x ++ o)
  starry {S₂} {Z} {o} w a e u = let f : S₂.free ≡ S₁.free + 1 = ap (λ (W : Store). W.free) u in record {
    more = omega (arith, a.more);
    within = omega arith;
    some = omega (arith, a.some);
    few = omega (arith, a.more, a.few);
    wrote = u ∙ ap (λ (W : Store). node W star_mark 0 n) a.wrote ∙ writes-star S n t;
    reads = λ k K. a.reads k K ∙ ap (pre x) (e.goes k K) ∙ pre-pre x o (run (drop (n + 1) s) (Z (k ∷ K)) (n + 1));
  }

  -- what comes behind it cannot be read
  pub stuck : {p : ℕ} → Read s at S n S₁ X Y t x → SaysBad Y s n p → SaysBad X s at p
  stuck a b = record { stops = λ k K. a.reads k K ∙ ap (pre x) (b.stops k K) }

  -- a second part behind it, which begins at k and ends at m, and the join's node
  pub pair : {k m e : ℕ} {S₂ S₃ : Store} {R Z : List Sym → List Sym} {u : Tree} {y : List Code} (c : Code) (d p : ℕ) → n ≤ k → m ≤ e → e ≤ length s
      → Read s at S n S₁ X Y t x → Goes s n Y k (λ K. R (s_emit c ∷ Z K)) [] → Read s k S₁ m S₂ R here u y → Goes s m (λ K. s_emit c ∷ Z K) e here (c ∷ [])
      → S₃ ≡ node S₂ d (S₁.free - 1) p → Read s at S e S₃ X here (join d p t u) (x ++ (y ++ (c ∷ [])))
  pair {k} {m} {e} {S₂} {S₃} {R} {Z} {u} {y} c d p h w v a g b q z = let f : S₃.free ≡ S₂.free + 1 = ap (λ (W : Store). W.free) z in record {
    more = omega (arith, a.more, b.more);
    within = v;
    some = omega (arith, a.some, b.some);
    few = omega (arith, a.more, a.few, b.more, b.few);
    wrote = z ∙ ap (λ (W : Store). node W d (S₁.free - 1) p) b.wrote ∙ ap (λ (W : Store). node (writes W u) d (W.free - 1) p) a.wrote ∙ writes-join S d p t u;
    reads = λ l K. a.reads l K
        ∙ ap (pre x) (g.goes l K ∙ pre-nil (run (drop k s) (R (s_emit c ∷ Z (l ∷ K))) k) ∙ b.reads (s_emit c) (Z (l ∷ K))
        ∙ ap (pre y) (q.goes l K) ∙ pre-pre y (c ∷ []) (run (drop e s) (l ∷ K) e))
        ∙ pre-pre x (y ++ (c ∷ [])) (run (drop e s) (l ∷ K) e);
  }

-- a letter or `1`
pub leafed : {s : List ℕ} {at : ℕ} {S S₁ : Store} {X Y : List Sym → List Sym} {o : List Code} (c : ℕ) → at < length s → S₁ ≡ node S c 0 at → Goes s at X (at + 1) Y o
    → Read s at S (at + 1) S₁ X Y (leaf c at) o
leafed {at} {S} {S₁} c h u e = let f : S₁.free ≡ S.free + 1 = ap (λ (W : Store). W.free) u in record {
  more = omega arith;
  within = omega arith;
  some = omega arith;
  few = omega arith;
  wrote = u ∙ writes-leaf S c at;
  reads = λ k K. e.goes k K;
}

-- a failure, with more to come behind
pub bad-under : {s : List ℕ} {at p : ℕ} {X : List Sym → List Sym} (y : Sym) (Z : List Sym → List Sym) → SaysBad X s at p → SaysBad (λ K. X (y ∷ Z K)) s at p
bad-under y Z a = record { stops = λ k K. a.stops y (Z (k ∷ K)) }
