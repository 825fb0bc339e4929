-- The parts that were written into zeros, one after the other, make the code of the state. Assumes nothing.
use Prim.Native.Nat.{ℕ, ◌+◌, ◌-◌, ◌/◌, ◌≤◌}
use mathlib.Core.List.{List}
use mathlib.Core.Path.{◌≡◌, ap, sym, ◌∙◌}
use native.Mathlib.Omega.{arith}
use lib.ListN.{length, get_or, drop, set, replicate, length-drop, length-set, length-replicate, get_or-replicate, get_or-eq_default}
use lib.Seq.{get_or-set_same, get_or-set_other}
use Rattle.paper.specs.Reaction.{Program}
use Rattle.words.proofs.Marks.{by-lt}
use Rattle.rewrite.specs.Steps.{state}
use Rattle.rewrite.specs.Stored.{stored}
use Rattle.react.specs.declared.State.{State}
use Rattle.react.specs.States.{stopped_of, state_of}
use Rattle.coding.specs.Units.{word_l}
use Rattle.coding.specs.Layout.{low, high, pair, bytes_of, set_number, marks_of}
use Rattle.coding.specs.Written.{nodes_of}
use Rattle.coding.specs.Code.{code}
use Rattle.coding.proofs.Standing.{stands_word}
use Rattle.coding.proofs.Words.{right-small}
use Rattle.pack.specs.Packing.{Wrote, Small, Packs, Names}
use Rattle.pack.proofs.Writing.{wrote-all, by_parts}
use Rattle.pack.proofs.Numbers.{low-behind, high-behind, pair-behind}

zeros : (n i : ℕ) → ◌≡◌ {A = ℕ} (get_or (replicate n 0) i 0) 0
zeros n i = by-lt i n (get_or-replicate n i 0 0) (λ h. get_or-eq_default (replicate n 0) 0 {n = i} (omega (arith, length-replicate {A = ℕ} n 0)))

module _ {P ms es W : List ℕ} {x : State} (k : Packs P ms es W x) where
  pub small_units : Small (drop x.start W)
  small_units i = omega (arith, right-small P (drop x.start W) k.stands.right i)

  module _ (l : length x.memory.events ≡ 8) {b₁ b₂ b₃ : List ℕ} {v : ℕ} (lows : Wrote (low (drop x.start W)) 0 (96 - x.start) (replicate 128 0) b₁)
      (highs : Wrote (high (drop x.start W)) 96 ((99 - x.start) / 4) b₁ b₂) (long₂ : length b₂ ≡ 128) (number : v ≡ set_number ms (stopped_of ms x.stopped))
      (marks : Wrote (pair (marks_of es (stored x.memory))) 122 ((x.memory.count + 1) / 2) (set (set b₂ 120 (96 - x.start)) 121 v) b₃) (long₃ : length b₃ ≡ 128) where
    units : length (drop x.start W) ≡ 96 - x.start
    units = omega (arith, length-drop x.start W, k.stands.long)

    -- behind the units nothing is written yet
    still-zero : (i : ℕ) → 96 - x.start ≤ i → get_or b₁ i 0 ≡ 0
    still-zero i h = lows.behind i (omega arith) ∙ zeros 128 i

    aside : (i : ℕ) → (i ≡ 120 → ⊥) → (i ≡ 121 → ⊥) → get_or (set (set b₂ 120 (96 - x.start)) 121 v) i 0 ≡ get_or b₂ i 0
    aside i d e = get_or-set_other (set b₂ 120 (96 - x.start)) 121 i v 0 e ∙ get_or-set_other b₂ 120 i (96 - x.start) 0 d

    empty : (i : ℕ) → 122 ≤ i → get_or (set (set b₂ 120 (96 - x.start)) 121 v) i 0 ≡ 0
    empty i h = aside i (λ e. omega arith) (λ e. omega arith) ∙ (highs.behind i (omega arith) ∙ still-zero i (omega arith))

    bytes-are : b₃ ≡ bytes_of (drop x.start W) v (marks_of es (stored x.memory))
    bytes-are =
        by_parts (drop x.start W) v (marks_of es (stored x.memory)) b₃ long₃
        (λ i h.
        let z : 0 + i ≡ i = omega arith in
        let one = wrote-all lows 96 (λ j g. low-behind (drop x.start W) j (omega (arith, units))) (λ j g u. zeros 128 j) i (omega arith) in
        marks.before i (omega arith) ∙ (aside i (λ e. omega arith) (λ e. omega arith) ∙ (highs.before i h ∙ rw z at one)))
        (λ j h.
        marks.before (96 + j) (omega arith)
        ∙ (aside (96 + j) (λ e. omega arith) (λ e. omega arith)
        ∙ wrote-all highs 120 (λ i g. high-behind (drop x.start W) i (omega (arith, units))) (λ i g u. still-zero i (omega arith)) j (omega arith)))
        (marks.before 120 (omega arith)
        ∙ (get_or-set_other (set b₂ 120 (96 - x.start)) 121 120 v 0 (λ e. omega arith)
        ∙ (get_or-set_same b₂ 120 (96 - x.start) 0 (omega arith) ∙ sym units)))
        (marks.before 121 (omega arith) ∙ get_or-set_same (set b₂ 120 (96 - x.start)) 121 v 0 (simp length-set (omega arith)))
        (λ j h. wrote-all marks 126 (λ i g. pair-behind es x.memory l k.memory i (omega arith)) (λ i g u. empty i (omega arith)) j (omega arith))
        (λ i h. marks.behind i (omega (arith, k.memory.count)) ∙ empty i (omega arith))

    pub code_is : (q : Program) → Names q P ms es → b₃ ≡ code q (state_of P W ms x)
    unfolding code
    code_is q n =
        let w : word_l (nodes_of q) (state P W x.start) ≡ drop x.start W =
        ap (λ (T : List ℕ). word_l T (state P W x.start)) n.nodes_are ∙ stands_word P W x.start k.table.nodes k.table.apart k.stands
        in
        let d : set_number q.modules (stopped_of ms x.stopped) ≡ v = ap (λ (l : List ℕ). set_number l (stopped_of ms x.stopped)) n.modules_are ∙ sym number in
        let y : marks_of q.events (stored x.memory) ≡ marks_of es (stored x.memory) = ap (λ (l : List ℕ). marks_of l (stored x.memory)) n.events_are in
        let e : code q (state_of P W ms x) ≡ bytes_of (drop x.start W) v (marks_of es (stored x.memory)) = λ i. bytes_of (w i) (d i) (y i) in
        bytes-are ∙ sym e
